-- The loop over the rows: one more row, and what holds for every row of a `sound` table.
use mathlib.Core.Path.{◌≡◌, refl, sym, ap, ◌∙◌}
use Prim.Native.Nat.{ℕ, zero, suc, ◌+◌, ◌≤◌, ◌<◌}
use native.Mathlib.Omega.{arith}
use native.Mathlib.Numerals.{add-one}
use mathlib.Core.Bool.{true}
use mathlib.Core.List.{List, [], ◌∷◌}
use lib.ListN.{length, get_or, drop, drop_of_length-le}
use lib.Seq.{drop-cons, drop-drop}
use Rattle.refusals.specs.declared.Refusal.TheVariants.{State}
use Rattle.byte_layout.specs.declared.Row.{Row}
use Rattle.byte_layout.specs.Rows.{sound}
use Rattle.byte_layout.specs.Reads.{Reading, step, steps}
use Rattle.byte_layout.proofs.Codec.{Sound, sound_cons}

-- what a goal names past a table's end
abbrev pub blank : Row
blank = record { width = 0; guard = 0; low = 0; least = 0; most = 0; refusal = State }

pub sound_row : (t : List Row) (i : ℕ) (z : Row) → sound t ≡ true → i < length t → Sound (get_or t i z)
sound_row [] i z e h = absurd (omega arith)
sound_row (r ∷ t) zero z e h = (sound_cons r t e).0
sound_row (r ∷ t) (suc i) z e h = sound_row t i z (sound_cons r t e).1 (omega arith)

pub next : (t : List Row) (i : ℕ) (z : Row) (d : Reading) → i < length t → steps (drop i t) d ≡ steps (drop (i + 1) t) (step (get_or t i z) d)
unfolding steps
next t i z d h = rw (drop-cons t i z h, add-one i) refl

pub done : (t : List Row) (i : ℕ) (d : Reading) → length t ≤ i → steps (drop i t) d ≡ d
unfolding steps
done t i d h = rw (drop_of_length-le t h) refl

-- the values after the rows read
pub one_more : (xs ys : List ℕ) (i : ℕ) → drop i xs ≡ drop i ys → drop (i + 1) xs ≡ drop (i + 1) ys
one_more xs ys i e = sym (drop-drop 1 i xs) ∙ ap (drop 1) e ∙ drop-drop 1 i ys
