-- Salvage of a damaged trace. `size` is the length of the complete record at the beginning of a list, 0 if there is
-- none; k bytes of the current record are left to copy.
use Rattle.std.specs.Prelude.{ℕ, zero, suc, ◌+◌, ◌-◌, ◌≤◌, ◌<◌, cond, List, [], ◌∷◌, ◌≡◌}
use Rattle.std.specs.Prelude.{eqb, ltb, length, drop, Option, Some, None, unwrap_or, Result, Ok, Err}
use Rattle.std.proofs.lemmas.List.Edits.{sets}
use Rattle.trace_records.specs.Records.{Found, refused, found}
use Rattle.trace_sealed.specs.Records.{read_by}
use Rattle.refusals.specs.declared.Refusal.{Refusal}
use Rattle.refusals.specs.Numbers as numbers
use Rattle.trace_salvage.specs.declared.Saved as Answer
use Rattle.trace_salvage.specs.declared.Salvaging.{Salvaging}

-- the bytes kept
unfoldable pub kept : (List ℕ → ℕ) → List ℕ → ℕ → List ℕ
kept size [] k = []
kept size (b ∷ bs) (suc k) = b ∷ kept size bs k
kept size (b ∷ bs) zero = cond (eqb (size (b ∷ bs)) 0) (kept size bs 0) (b ∷ kept size bs (size (b ∷ bs) - 1))

-- how many are skipped
unfoldable pub skipped : (List ℕ → ℕ) → List ℕ → ℕ → ℕ
skipped size [] k = 0
skipped size (b ∷ bs) (suc k) = skipped size bs k
skipped size (b ∷ bs) zero = cond (eqb (size (b ∷ bs)) 0) (suc (skipped size bs 0))
    (skipped size bs (size (b ∷ bs) - 1))

-- how many records are kept
unfoldable pub records : (List ℕ → ℕ) → List ℕ → ℕ → ℕ
records size [] k = 0
records size (b ∷ bs) (suc k) = records size bs k
records size (b ∷ bs) zero = cond (eqb (size (b ∷ bs)) 0)
    (records size bs 0) (suc (records size bs (size (b ∷ bs) - 1)))

-- the offset of the first skipped byte, or the end if none is skipped; the list begins at the offset `at`
unfoldable pub first : (List ℕ → ℕ) → ℕ → List ℕ → ℕ → ℕ
first size at [] k = at
first size at (b ∷ bs) (suc k) = first size (suc at) bs k
first size at (b ∷ bs) zero = cond (eqb (size (b ∷ bs)) 0) at (first size (suc at) bs (size (b ∷ bs) - 1))

unfoldable pub size_in : ℕ → Found → ℕ
size_in n (refused k) = 0
size_in n (found k ws rest) = n - length rest

-- for a trace: what the reader of a version accepts
unfoldable pub size_by : ℕ → List ℕ → ℕ
size_by v bs = size_in (length bs) (read_by v bs)

-- the outcome of a salvage: refusal, records kept, bytes skipped, first skipped offset, output
pub record Salvaged : Type 0 where
  pub number : ℕ
  pub count : ℕ
  pub skip : ℕ
  pub place : ℕ
  pub output : List ℕ

-- the same without the output: 0 or a refusal, the records kept, the bytes skipped, and the offset of the first of them
pub record Saved : Type 0 where
  pub refusal : ℕ
  pub records : ℕ
  pub skipped : ℕ
  pub first : ℕ

-- what a salvage returns
abbrev pub saved : Result Answer.Saved Refusal → Saved
saved (Ok r) = record { refusal = 0; records = r.records; skipped = r.skipped; first = r.first }
saved (Err e) = record { refusal = numbers.number e; records = 0; skipped = 0; first = 0 }

abbrev pub saved_of : Saved → List ℕ → Salvaged
saved_of r out = record { number = r.refusal; count = r.records; skip = r.skipped; place = r.first; output = out }

-- 25 if the output is shorter than the input, with all numbers 0; otherwise the kept bytes, and the rest of the
-- output unchanged
unfoldable pub salvage_by : ℕ → List ℕ → List ℕ → Salvaged
salvage_by v s out =
    cond (ltb (length out) (length s))
    (record { number = 25; count = 0; skip = 0; place = 0; output = out })
    (record {
      number = 0;
      count = records (size_by v) s 0;
      skip = skipped (size_by v) s 0;
      place = first (size_by v) 0 s 0;
      output = sets out 0 (kept (size_by v) s 0);
    })

-- for a trace of version 1
abbrev pub salvage_of : List ℕ → List ℕ → Salvaged
salvage_of = salvage_by 1

-- the offset after the complete record at an offset
abbrev pub Ends : ℕ → List ℕ → ℕ → Option ℕ → Type 0
Ends v s at (Some end) = (at < end) × (end - at ≡ size_by v (drop at s))
Ends v s at None = 0 ≡ size_by v (drop at s)

-- the first skipped offset, once something was skipped
abbrev pub placed : ℕ → Salvaging → List ℕ → ℕ
placed v t s = unwrap_or t.first (first (size_by v) t.at (drop t.at s) 0)

-- one iteration: what is left to do decreases, and the final outcome does not change
pub record Salvages (v : ℕ) (s out new : List ℕ) (t r : Salvaging) : Type 0 where
  pub inside : r.at ≤ length s
  pub on : t.at < r.at
  pub room : r.w ≤ r.at
  pub few : r.skip ≤ r.at
  pub some : r.records ≤ r.at
  pub long : length new ≡ length out
  pub same : sets new r.w (kept (size_by v) (drop r.at s) 0) ≡ sets out t.w (kept (size_by v) (drop t.at s) 0)
  pub count : r.skip + skipped (size_by v) (drop r.at s) 0 ≡ t.skip + skipped (size_by v) (drop t.at s) 0
  pub whole : r.records + records (size_by v) (drop r.at s) 0 ≡ t.records + records (size_by v) (drop t.at s) 0
  pub place : placed v r s ≡ placed v t s
