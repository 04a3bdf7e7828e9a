-- The player's part of the rules' three-frame example, by computing it. Assumes nothing.
use mathlib.Core.Path.{◌≡◌, refl}
use Prim.Native.Nat.{ℕ}
use mathlib.Core.List.{List, ◌∷◌}
use lib.ListN.{replicate}
use lib.Ieee.{add, sub, mul, lt, le, eq, of_int, of_bits, nan_bits}
use Rattle.float_bits.specs.Patterns.{float_of}
use Rattle.trace_inputs.specs.Inputs.{settings_of, stereo, samples_of, block_of}
use Rattle.numbers.specs.Frames.{rounded, cut_off}
use Rattle.numbers.specs.Words.{magnitude, narrowed, whole, taken, part, advance}
use Rattle.playback_position.specs.Positions.{position_in_frames, end_in_frames, region_in_frames, well_formed_region}
use Rattle.transport.specs.Moves.{forward, backward}
use Rattle.resampler.specs.Windows.{push, reading}
use Rattle.frame.specs.Frames.{cubic, interpolated}
use Rattle.sound_lanes.specs.Lanes.{low}
use Rattle.sound_update.specs.Updates.{pushed, stepped, updated, updates}
use Rattle.sound_state.specs.WellFormed.{well_formed_for, well_formed}
use Rattle.sound_creation.specs.Creation.{refused_new, made, created}
use Rattle.sound_slow_path.specs.Plays.{frame_with_gains, lower, plays, total, after_frame}
use Rattle.sound_block.specs.Blocks.{begun, block, zeros}
use Rattle.static_sound.specs.Entries.{refused_block, processed}
use Rattle.trace_lines.specs.Lines.{spelt, block_line}
use Rattle.trace_replay.specs.Runs.{answered, line_of}
use Rattle.theorems_replay.specs.Example.{printed_line}

-- the numbers of the two records
abbrev pub creation_numbers : List ℕ
creation_numbers =
    1 ∷ 0 ∷ 0 ∷ 0 ∷ 0 ∷ 0 ∷ 0 ∷ 0 ∷ 0 ∷ 0 ∷ 4607182418800017408 ∷ 0 ∷ 3 ∷ 4575657222473777152 ∷ 4611686019501129728 ∷ 4629700418014806016 ∷ replicate 64 0

abbrev pub six_numbers : List ℕ
six_numbers = 6 ∷ 1065353216 ∷ 1065353216 ∷ 1065353216 ∷ 1065353216 ∷ 4607182418800017408 ∷ 4607182418800017408 ∷ 0 ∷ 0 ∷ 0 ∷ replicate 70 0

pub played : line_of 1 6 (answered (samples_of creation_numbers) (created (samples_of creation_numbers) (settings_of creation_numbers)).voice (block_of six_numbers)) ≡ printed_line
unfolding line_of answered block_line spelt processed refused_block block begun zeros plays total after_frame frame_with_gains lower updates updated stepped pushed well_formed_for well_formed low created made refused_new position_in_frames end_in_frames region_in_frames well_formed_region rounded cut_off magnitude narrowed whole taken part advance forward backward push reading cubic interpolated settings_of stereo block_of float_of add sub mul lt le eq of_int of_bits nan_bits
played = refl
