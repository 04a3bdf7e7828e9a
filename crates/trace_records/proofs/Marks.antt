-- Bytes that do not begin with the mark's first byte, and the byte of a record's kind. Assumes nothing.
use mathlib.Core.Path.{◌≡◌, refl}
use Prim.Native.Nat.{ℕ, ◌+◌, ◌%◌, ◌≤◌, ◌<◌}
use native.Mathlib.Omega.{arith}
use mathlib.Core.Bool.{Bool, true, false, ◌&&◌}
use mathlib.Core.List.{List, ◌∷◌, ◌++◌}
use lib.Dec.{leb, ltb}
use lib.ListN.{length, get_or}
use borrow.Author.Tests.{ltb-true, ltb-false, leb-true, le-leb, lt-leb}
use Rattle.byte_layout.specs.Numbers.{num, bytes}
use Rattle.byte_layout.specs.Rows.{stands, within}
use Rattle.byte_layout.specs.Reads.{steps, step, taken}
use Rattle.byte_layout.specs.Writes.{field, payload}
use Rattle.trace_records.specs.Tables.{head_rows}
use Rattle.trace_records.specs.Records.{refused, read_record, bodied}
use Rattle.trace_records.specs.Writes.{record_of}

none : {A : Type 0} → ⊥ → A
none e = elim e [ ]

pub not_a5 : (x : ℕ) → (x ≡ 165 → ⊥) → (leb 165 x && leb x 165) ≡ false
not_a5 x h = go (leb 165 x) refl
  where
    go : (t : Bool) → leb 165 x ≡ t → (t && leb x 165) ≡ false
    go true e = let l = leb-true 165 x e in lt-leb x 165 (above (ltb 165 x) refl l)
      where
        above : (t : Bool) → ltb 165 x ≡ t → 165 ≤ x → 165 < x
        above true f l = ltb-true 165 x f
        above false f l = let m = ltb-false 165 x f in none (h (omega arith))
    go false e = refl

pub unmarked : (b : ℕ) (bs : List ℕ) → (b ≡ 165 → ⊥) → read_record (b ∷ bs) ≡ refused 15
unfolding read_record bodied steps step taken stands within num head_rows
unmarked b bs h = let x : b + 0 ≡ b = omega arith in rw (x, not_a5 b h, le-leb 1 (length (b ∷ bs)) (omega arith)) refl

pub third : (k : ℕ) (ws rest : List ℕ) → get_or (record_of k ws ++ rest) 2 0 ≡ k % 256
unfolding record_of payload head_rows stands field bytes
third k ws rest = refl
