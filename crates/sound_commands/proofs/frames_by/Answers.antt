-- `sound_commands::frames_by` meets its contract: an f64 represents a position in range exactly.
use mathlib.Core.Path.{refl}
use Rattle.numbers.proofs.Frames.{number_held}
use Rattle.sound_commands.specs.Commands.{target_by}
use Rattle.sound_commands.proofs.frames_by.Goals as goal

pub int_to_float-result : goal.int_to_float-result
int_to_float-result c = number_held _ c.requires

pub returns : goal.returns
unfolding target_by
returns c = refl
