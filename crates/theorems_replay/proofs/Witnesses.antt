-- The hypotheses at their inputs, by computing. Assumes nothing.
use mathlib.Core.Path.{◌≡◌, refl, ap, ◌∙◌}
use Prim.Native.Nat.{ℕ, zero, suc, ◌-◌, ◌≤◌}
use native.Mathlib.Omega.{arith}
use mathlib.Core.Bool.{Bool, true, false, cond, not, ◌&&◌}
use mathlib.Core.List.{List, [], ◌∷◌}
use lib.Dec.{T, eqb}
use lib.ListN.{length, drop, replicate, length-replicate}
use lib.Ieee.{mul, lt, le, eq, of_int, of_bits, nan_bits}
use Rattle.float_bits.specs.Patterns.{float_of}
use Rattle.byte_layout.specs.Numbers.{num}
use Rattle.byte_layout.specs.Rows.{stands, within}
use Rattle.byte_layout.specs.Reads.{taken, step, steps}
use Rattle.byte_layout.proofs.Numbers.{are_small, small_of}
use Rattle.trace_records.specs.Tables.{head_rows, block_rows}
use Rattle.trace_records.specs.Records.{Record, possible, bodied, read_record, valued, record_at}
use Rattle.trace_records.specs.Records as records
use Rattle.trace_inputs.specs.Inputs.{lane_of, block_of}
use Rattle.numbers.specs.Frames.{rounded}
use Rattle.numbers.specs.Words.{magnitude, positive_zero, advance}
use Rattle.playback_position.specs.Positions.{position_in_frames, end_in_frames, region_in_frames, well_formed_region}
use Rattle.sound_state.specs.declared.StaticSound.{StaticSound}
use Rattle.sound_state.specs.WellFormed.{well_formed_for, well_formed}
use Rattle.sound_creation.specs.Creation.{refused_new, made, created}
use Rattle.static_sound.specs.Entries.{refused_block, processed}
use Rattle.trace_replay.specs.Runs.{answered}
use Rattle.theorems.specs.Examples.{ten}
use Rattle.theorems.specs.Witnesses.{voice}
use Rattle.c_state.proofs.Inverse.{decoded_encoded}
use Rattle.cableowl.specs.Replays.{StepC, blank_replay, creation_c, played_record, judged, stepped_c}
use Rattle.theorems_replay.specs.Cuts.{block_numbers}
use Rattle.theorems_replay.specs.Example.{bytes_of_three_frames}
use Rattle.theorems_replay.specs.Witnesses.{three_nans, evening, lent_sound, lent_output, going, plain_block, given, falling, falling_bytes, Witnesses}
use Rattle.theorems_replay.specs.Archive.{Lent, Fit, BlockAt}
use Rattle.theorems_replay.specs.ArchiveV2.{is_version1, part_of}
use Rattle.cableowl.specs.ReplaysV2.{laned_outcome}
use Rattle.trace_sealed.specs.Records.{is_sealed}
use Rattle.theorems_sound_length.proofs.Promises as lengths
use Rattle.theorems_replay.proofs.Archive.{goes_on, blank_fit, step_refusal}
use Rattle.theorems_replay.proofs.Played.{creation_numbers, six_numbers}
use Rattle.theorems_replay.proofs.Example.{read, creation_read, six_read}
use Rattle.theorems_replay.proofs.OtherSamples.{same_but_for_samples}

-- two frames and one at full volume, rate 1 and 1 Hz, without signals
abbrev plain_numbers : ℕ → List ℕ
plain_numbers n = block_numbers n 1065353216 1065353216 1065353216 1065353216 4607182418800017408 4607182418800017408 0 0 0

room : 128 ≤ length lent_sound
room = omega (arith, length-replicate 128 positive_zero)

space : 2048 ≤ length lent_output
space = omega (arith, length-replicate 2048 positive_zero)

accepted : (answered evening.sound evening.voice (block_of (block_numbers 2 1065353216 1065353216 1065353216 1065353216 4607182418800017408 4607182418800017408 0 0 0))).refusal ≡ 0
unfolding answered processed refused_block well_formed_for well_formed created made refused_new position_in_frames end_in_frames region_in_frames well_formed_region rounded magnitude advance block_of float_of mul lt le eq of_int of_bits nan_bits
accepted = refl

-- ---- of the archive's step

lent : (bs : List ℕ) → T (are_small bs) → length bs ≡ 97 → Lent lent_sound lent_output bs
lent bs s l = record { sound = room; output = space; bytes = small_of bs s; short = omega (arith, l) }

creation_shown : (stepped_c blank_replay bytes_of_three_frames 0 lent_sound lent_output).answer.what ≡ 0
unfolding judged played_record creation_c
creation_shown =
    ap (λ (o : StepC). o.answer.what)
    (goes_on blank_replay lent_sound lent_output 0 165 (drop 1 bytes_of_three_frames) (blank_fit lent_sound lent_output room space)
    ∙ ap (λ (d : Record). judged blank_replay 0 d lent_sound lent_output) creation_read)

two_read : BlockAt (plain_block 2) (plain_numbers 2)
unfolding record_at valued read_record bodied records.ended possible steps step taken stands within num head_rows block_rows
two_read = refl

one_read : BlockAt (plain_block 1) (plain_numbers 1)
unfolding record_at valued read_record bodied records.ended possible steps step taken stands within num head_rows block_rows
one_read = refl

going_fit : Fit going lent_sound lent_output
going_fit = record { reads = refl; alone = refl; inside = omega (arith, room); room = room; output = space }

going_accepted : (stepped_c going (plain_block 2) 0 lent_sound lent_output).answer.refusal ≡ 0
going_accepted =
    step_refusal going lent_sound lent_output going_fit 0 (plain_block 2) (plain_numbers 2) two_read
    ∙ ap (λ (v : StaticSound). (answered ten v (block_of (plain_numbers 2))).refusal) (decoded_encoded voice)
    ∙ accepted

-- ---- of version 2

old_first : (b : ℕ) (bs : List ℕ) (d : Record) → record_at (b ∷ bs) 0 ≡ d → is_sealed (b ∷ bs) ≡ false
    → is_version1 0 (b ∷ bs) ≡ cond (eqb d.refusal 0) (is_version1 (d.next - 1) bs) true
unfolding is_version1
old_first b bs d e f =
    ap (λ (t : Bool). not t && cond (eqb (record_at (b ∷ bs) 0).refusal 0) (is_version1 ((record_at (b ∷ bs) 0).next - 1) bs) true) f
    ∙ ap (λ (x : Record). cond (eqb x.refusal 0) (is_version1 (x.next - 1) bs) true) e

-- the bytes of a record are skipped
old_on : (k : ℕ) (bs : List ℕ) → is_version1 k bs ≡ is_version1 0 (drop k bs)
unfolding is_version1
old_on zero bs = refl
old_on (suc k) [] = refl
old_on (suc k) (b ∷ bs) = old_on k bs

old_end : is_version1 41 (drop 56 bytes_of_three_frames) ≡ true
unfolding is_version1
old_end = refl

three_frames_old : is_version1 0 bytes_of_three_frames ≡ true
three_frames_old =
    old_first 165 (drop 1 bytes_of_three_frames) (read 1 55 creation_numbers) creation_read refl
    ∙ old_on 54 (drop 1 bytes_of_three_frames)
    ∙ old_first 165 (drop 56 bytes_of_three_frames) (read 3 42 six_numbers) six_read refl
    ∙ old_end

falling_accepted : (laned_outcome ten voice (part_of falling 2 falling.signals) falling_bytes (replicate 4 positive_zero)).answer.refusal ≡ 0
unfolding lane_of num processed refused_block well_formed_for well_formed created made refused_new position_in_frames end_in_frames region_in_frames well_formed_region rounded magnitude advance float_of mul lt le eq of_int of_bits nan_bits
falling_accepted = refl

pub witnesses : Witnesses
witnesses =
    record {
      streams = record { bytes = small_of bytes_of_three_frames tt; wide = omega arith };
      cut_records = (record { few = omega arith; accepted = accepted }, tt);
      lines_alike = same_but_for_samples;
      archive_replays = lent bytes_of_three_frames tt refl;
      archive_streams =
          record {
            bytes = small_of bytes_of_three_frames tt;
            all = tt;
            answers = rw creation_shown tt;
          };
      archive_cut_records = (
        record {
          fit = going_fit;
          few = omega arith;
          uncut = two_read;
          first = one_read;
          rest = one_read;
          accepted = going_accepted;
        },
        tt,
      );
      archive_three_frames = lent bytes_of_three_frames tt refl;
      archive_lines_alike = record { first = lent bytes_of_three_frames tt refl; second = lent three_nans tt refl; same = same_but_for_samples };
      archive_as_version_1 = record { bytes = small_of bytes_of_three_frames tt; old = refl };
      archive_replays_v2 = record { lent = lent bytes_of_three_frames tt refl; kinds = three_frames_old };
      archive_steps_alike_v2 = record { replays = ap given (lengths.promises).witnesses.archive_rows_alike.states; sound = refl; given = refl; output = refl };
      archive_lines_alike_v2 = record { sounds = λ at. refl; given = λ at. refl; sound = refl; output = refl };
      archive_streams_v2 = omega arith;
      archive_cut_lanes = record { accepted = falling_accepted; first = refl; rest = refl };
    }
