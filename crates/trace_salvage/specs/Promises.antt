-- The theorems about salvage (request #114), for the reader of each version: every byte is kept or skipped, an
-- undamaged trace is copied unchanged, a second run changes nothing, the output is a trace that is read to its end, and
-- every record before the first damage is kept.
use Rattle.std.specs.Prelude.{ℕ, ◌+◌, ◌≡◌, true, List, ◌∷◌, ◌++◌, length, take, drop}
use Rattle.byte_layout.specs.Numbers.{Bytes}
use Rattle.trace_records.specs.Traces.{Story, read_all_by, entries, is_whole}
use Rattle.trace_records.specs.Promises.{pause_record}
use Rattle.trace_sealed.specs.Records.{read_by}
use Rattle.trace_sealed.specs.Promises.{silent_record}
use Rattle.trace_salvage.specs.Salvage.{kept, skipped, records, first, size_by}

-- a whole trace, as the reader of a version reads it
abbrev pub story : ℕ → List ℕ → Story
story v bs = read_all_by (read_by v) 0 bs

-- an undamaged trace: its reader reads it to its end
pub record Whole (v : ℕ) (bs : List ℕ) : Type 0 where
  pub bytes : Bytes bs
  pub to_the_end : is_whole (story v bs) ≡ true

-- it is copied unchanged, with nothing skipped
pub record Same (v : ℕ) (bs : List ℕ) : Type 0 where
  pub bytes : kept (size_by v) bs 0 ≡ bs
  pub none : skipped (size_by v) bs 0 ≡ 0
  pub place : first (size_by v) 0 bs 0 ≡ length bs

-- the output is read to its end, and has as many records as salvage reports
pub record Mended (v : ℕ) (bs : List ℕ) : Type 0 where
  pub to_the_end : is_whole (story v (kept (size_by v) bs 0)) ≡ true
  pub count : length (entries (story v (kept (size_by v) bs 0))) ≡ records (size_by v) bs 0

-- before the first skipped byte, at p, there are only records: those that a reader finds; they are the beginning of
-- the output, unchanged
pub record Before (v : ℕ) (bs : List ℕ) (p : ℕ) : Type 0 where
  pub to_the_hole : is_whole (story v (take p bs)) ≡ true
  pub all : entries (story v bs) ≡ entries (story v (take p bs))
  pub kept_first : kept (size_by v) bs 0 ≡ take p bs ++ kept (size_by v) (drop p bs) 0

-- inputs that meet the hypotheses: an undamaged trace of each version, and one with an extra byte before it
pub record Witnesses : Type 0 where
  pub whole_kept : Whole 1 pause_record × Whole 2 (silent_record ++ pause_record)
  pub again : Bytes (0 ∷ pause_record)
  pub mended : Bytes (0 ∷ pause_record)
  pub before_the_hole : Bytes (0 ∷ pause_record)

pub record Promises : Type 0 where
  pub all_bytes : (v : ℕ) (bs : List ℕ) → length (kept (size_by v) bs 0) + skipped (size_by v) bs 0 ≡ length bs
  pub whole_kept : (v : ℕ) (bs : List ℕ) → Whole v bs → Same v bs
  pub again : (v : ℕ) (bs : List ℕ) → Bytes bs
      → (kept (size_by v) (kept (size_by v) bs 0) 0 ≡ kept (size_by v) bs 0)
      × (skipped (size_by v) (kept (size_by v) bs 0) 0 ≡ 0)
  pub mended : (v : ℕ) (bs : List ℕ) → Bytes bs → Mended v bs
  pub before_the_hole : (v : ℕ) (bs : List ℕ) → Bytes bs → Before v bs (first (size_by v) 0 bs 0)
  -- one input for each hypothesis
  pub witnesses : Witnesses
