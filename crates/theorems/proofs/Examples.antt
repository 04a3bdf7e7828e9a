-- The [P] table: by computing every row. Assumes nothing.
use mathlib.Core.Path.{refl}
use lib.Ieee.{add, sub, mul, of_int, lt}
use Rattle.numbers.specs.Frames.{rounded, cut_off}
use Rattle.frame.specs.Frames.{cubic, interpolated}
use Rattle.playback_position.specs.Positions.{position_in_frames, end_in_frames, region_in_frames, well_formed_region}
use Rattle.transport.specs.Moves.{forward, backward, seek}
use Rattle.resampler.specs.Windows.{reading}
use Rattle.sound_creation.specs.Creation.{refused_new, made, created}
use Rattle.sound_commands.specs.Commands.{target_to}
use Rattle.theorems.specs.Examples.{table, ExamplesHold}

pub examples_hold : ExamplesHold
unfolding table forward backward seek position_in_frames end_in_frames region_in_frames well_formed_region rounded cut_off target_to refused_new made created reading interpolated cubic add sub mul of_int lt
examples_hold = refl
