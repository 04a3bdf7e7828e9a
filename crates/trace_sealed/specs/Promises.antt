-- The theorems about sealed records and reader 2: what is written is read back as the same fields and lanes, whatever
-- follows it; what is read would be written again byte for byte; kinds 1 to 3 are read as by reader 1; and at most
-- 24,598 bytes are read.
use Rattle.std.specs.Prelude.{ℕ, ◌+◌, ◌≤◌, ◌≡◌, true, false, List, [], ◌∷◌, ◌++◌, take, replicate}
use Rattle.byte_layout.specs.Numbers.{Bytes}
use Rattle.trace_records.specs.Promises.{pause_record}
use Rattle.trace_records.specs.Records.{found, read_record}
use Rattle.trace_sealed.specs.Records.{is_sealed, read_any, any_at}
use Rattle.trace_sealed.specs.Writes.{sealed_of, Sealable}

-- the bytes begin with the sealed record of these fields and lanes, which can be sealed
pub record Kept (bs : List ℕ) (k : ℕ) (ws rest : List ℕ) : Type 0 where
  pub numbers : List ℕ
  pub lanes : List ℕ
  pub both : ws ≡ numbers ++ lanes
  pub sealable : Sealable k numbers lanes
  pub same : bs ≡ sealed_of k numbers lanes ++ rest

-- ---- hypotheses

-- bytes that begin with a sealed record
pub record Begins (bs : List ℕ) (k : ℕ) (ws rest : List ℕ) : Type 0 where
  pub bytes : Bytes bs
  pub sealed : is_sealed bs ≡ true
  pub reads : read_any bs ≡ found k ws rest

-- bytes whose third is not the kind of a sealed record
abbrev pub Old : List ℕ → Type 0
Old bs = is_sealed bs ≡ false

-- as many bytes as the longest record has
abbrev pub Wide : ℕ → ℕ → Type 0
Wide at end = at + 24598 ≤ end

-- and inputs that meet them: a silent block of one frame, 46 bytes long
abbrev pub silent_numbers : List ℕ
silent_numbers = 1 ∷ 0 ∷ 0 ∷ 0 ∷ 0 ∷ []

abbrev pub silent_record : List ℕ
silent_record =
    165 ∷ 29 ∷ 5 ∷ 41 ∷ 0 ∷ 1 ∷ 0 ∷ 0 ∷ 0 ∷ 0 ∷ 0 ∷ 0 ∷ 0 ∷ 0 ∷ 0 ∷ 0 ∷ 0 ∷ 0 ∷
    0 ∷ 0 ∷ 0 ∷ 0 ∷ 0 ∷ 0 ∷ 0 ∷ 0 ∷ 0 ∷ 0 ∷ 0 ∷ 0 ∷ 0 ∷ 0 ∷ 0 ∷ 0 ∷ 0 ∷ 0 ∷ 0 ∷ 0 ∷ 0 ∷ 0 ∷ 0 ∷ 0 ∷
    56 ∷ 249 ∷ 230 ∷ 38 ∷ []

pub record Witnesses : Type 0 where
  pub read_back : Sealable 5 silent_numbers (replicate 24 0)
  pub written_again : Begins silent_record 5 (silent_numbers ++ replicate 24 0) []
  pub as_reader_1 : Old pause_record
  pub window : Wide 0 24598

pub record Promises : Type 0 where
  pub read_back : (k : ℕ) (vs lanes rest : List ℕ) → Sealable k vs lanes
      → read_any (sealed_of k vs lanes ++ rest) ≡ found k (vs ++ lanes) rest
  pub written_again : (bs : List ℕ) (k : ℕ) (ws rest : List ℕ) → Begins bs k ws rest → Kept bs k ws rest
  pub as_reader_1 : (bs : List ℕ) → Old bs → read_any bs ≡ read_record bs
  pub window : (bs : List ℕ) (at end : ℕ) → Wide at end → any_at (take end bs) at ≡ any_at bs at
  -- one input for each hypothesis
  pub witnesses : Witnesses
