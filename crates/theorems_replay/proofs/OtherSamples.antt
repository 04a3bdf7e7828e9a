-- The three-frame example compared with the same trace with NaNs for samples: the creation of each is read, and the block after it is the same. Assumes nothing.
use mathlib.Core.Path.{◌≡◌, refl, sym, ap, ◌∙◌}
use Prim.Native.Nat.{ℕ, zero, suc, ◌-◌}
use mathlib.Core.Bool.{cond}
use mathlib.Core.List.{List, [], ◌∷◌, ◌++◌, map}
use lib.Dec.{eqb}
use lib.ListN.{take, drop, replicate}
use Rattle.byte_layout.specs.Numbers.{num}
use Rattle.byte_layout.specs.Rows.{stands, within}
use Rattle.byte_layout.specs.Reads.{taken, step, steps}
use Rattle.trace_records.specs.Tables.{head_rows, creation_rows, frame_rows}
use Rattle.trace_records.specs.Records.{Record, possible, ended, bodied, read_record, valued, record_at}
use Rattle.theorems_replay.specs.Example.{bytes_of_three_frames}
use Rattle.theorems_replay.specs.Lengths.{records, muted_record, SameButForSamples}
use Rattle.theorems_replay.specs.Witnesses.{three_nans}
use Rattle.theorems_replay.proofs.Played.{creation_numbers}
use Rattle.theorems_replay.proofs.Example.{read, creation_read}

first_read : (b : ℕ) (bs : List ℕ) (r : Record) → record_at (b ∷ bs) 0 ≡ r → records 0 (b ∷ bs) ≡ r ∷ cond (eqb r.refusal 0) (records (r.next - 1) bs) []
unfolding records
first_read b bs r e = ap (λ (x : Record). x ∷ cond (eqb x.refusal 0) (records (x.next - 1) bs) []) e

-- the bytes of a record are skipped
records_on : (k : ℕ) (bs : List ℕ) → records k bs ≡ records 0 (drop k bs)
unfolding records
records_on zero bs = refl
records_on (suc k) [] = refl
records_on (suc k) (b ∷ bs) = records_on k bs

same_end : drop 54 (drop 1 bytes_of_three_frames) ≡ drop 54 (drop 1 three_nans)
same_end = refl

block_same : records 54 (drop 1 bytes_of_three_frames) ≡ records 54 (drop 1 three_nans)
block_same = records_on 54 (drop 1 bytes_of_three_frames) ∙ ap (records 0) same_end ∙ sym (records_on 54 (drop 1 three_nans))

-- the creation's numbers, with the bits of NaNs for its three frames
abbrev nan_numbers : List ℕ
nan_numbers = take 13 creation_numbers ++ (replicate 3 18446744073709551615 ++ replicate 64 0)

nans_read : record_at three_nans 0 ≡ read 1 55 nan_numbers
unfolding record_at valued read_record bodied ended possible steps step taken stands within num head_rows creation_rows frame_rows
nans_read = refl

pub same_but_for_samples : SameButForSamples bytes_of_three_frames three_nans
same_but_for_samples =
    ap (map muted_record) (first_read 165 (drop 1 bytes_of_three_frames) (read 1 55 creation_numbers) creation_read)
    ∙ ap (λ (rs : List Record). muted_record (read 1 55 creation_numbers) ∷ map muted_record rs) block_same
    ∙ sym (ap (map muted_record) (first_read 165 (drop 1 three_nans) (read 1 55 nan_numbers) nans_read))
