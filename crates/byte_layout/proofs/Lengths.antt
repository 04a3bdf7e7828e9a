-- The lengths that a layout's bytes can have: at least the rows that are always present, at most all rows, and eight apart where
-- every row that may be absent has eight bytes.
use mathlib.Core.Path.{◌≡◌, refl, sym, ◌∙◌}
use Prim.Native.Nat.{ℕ, ◌+◌, ◌*◌, ◌≤◌}
use native.Mathlib.Omega.{arith}
use mathlib.Core.Bool.{Bool, true, false, cond}
use mathlib.Core.List.{List, [], ◌∷◌, ◌++◌}
use lib.Dec.{eqb, leb-zero}
use lib.ListN.{length, get_or, length-append}
use borrow.Author.Tests.{eqb-true}
use Rattle.byte_layout.specs.declared.Row.{Row}
use Rattle.byte_layout.specs.Rows.{stands}
use Rattle.byte_layout.specs.Writes.{field, payload, fits, fine}
use Rattle.byte_layout.proofs.Numbers.{length_bytes}
use Rattle.byte_layout.proofs.Codec.{never, both}

pub always : (r : Row) (vs : List ℕ) → r.low ≡ 0 → stands r vs ≡ true
unfolding stands
always r vs e = rw e (leb-zero (get_or vs r.guard 0))

-- the bytes of all rows, and of those that are always present
unfoldable pub most : List Row → ℕ
most [] = 0
most (r ∷ rs) = r.width + most rs

unfoldable pub least : List Row → ℕ
least [] = 0
least (r ∷ rs) = cond (eqb r.low 0) r.width 0 + least rs

field_most : (b : Bool) (r : Row) (x : ℕ) → length (field b r x) ≤ r.width
unfolding field
field_most true r x = omega (arith, length_bytes r.width x)
field_most false r x = omega arith

pub at_most : (rs : List Row) (vs ws : List ℕ) → length (payload rs vs ws) ≤ most rs
unfolding payload most
at_most [] vs ws = omega arith
at_most (r ∷ rs) vs [] = omega arith
at_most (r ∷ rs) vs (x ∷ ws) =
    omega (arith, length-append (field (stands r vs) r x) (payload rs (vs ++ (x ∷ [])) ws), field_most (stands r vs) r x, at_most rs (vs ++ (x ∷ [])) ws)

field_least : (r : Row) (vs : List ℕ) (x : ℕ) (b : Bool) → eqb r.low 0 ≡ b → cond b r.width 0 ≤ length (field (stands r vs) r x)
unfolding field
field_least r vs x false e = omega arith
field_least r vs x true e = rw (always r vs (eqb-true r.low 0 e), length_bytes r.width x) (omega arith)

pub at_least : (rs : List Row) (vs ws : List ℕ) → fine rs vs ws ≡ true → least rs ≤ length (payload rs vs ws)
unfolding payload least fine
at_least [] vs ws e = omega arith
at_least (r ∷ rs) vs [] e = never e
at_least (r ∷ rs) vs (x ∷ ws) e =
    let h = both (fits (stands r vs) r x) (fine rs (vs ++ (x ∷ [])) ws) e in
    omega (arith, length-append (field (stands r vs) r x) (payload rs (vs ++ (x ∷ [])) ws), field_least r vs x (eqb r.low 0) refl, at_least rs (vs ++ (x ∷ [])) ws h.1)

-- every row that may be absent has eight bytes, so the lengths are eight apart
unfoldable pub eights : List Row → Bool
eights [] = true
eights (r ∷ rs) = cond (cond (eqb r.low 0) true (eqb r.width 8)) (eights rs) false

pub record Apart (n m : ℕ) : Type 0 where
  pub times : ℕ
  pub is : n ≡ m + 8 * times

field_apart : (r : Row) (vs : List ℕ) (x : ℕ) (b c : Bool) → eqb r.low 0 ≡ b → stands r vs ≡ c → cond b true (eqb r.width 8) ≡ true → Apart (length (field c r x)) (cond b r.width 0)
unfolding field
field_apart r vs x true c e s h = let q : true ≡ c = sym (always r vs (eqb-true r.low 0 e)) ∙ s in record { times = 0; is = rw (← q, length_bytes r.width x) (omega arith) }
field_apart r vs x false false e s h = record { times = 0; is = omega arith }
field_apart r vs x false true e s h = record { times = 1; is = omega (arith, length_bytes r.width x, eqb-true r.width 8 h) }

pub apart : (rs : List Row) (vs ws : List ℕ) → eights rs ≡ true → fine rs vs ws ≡ true → Apart (length (payload rs vs ws)) (least rs)
unfolding eights payload least fine
apart [] vs ws g e = record { times = 0; is = omega arith }
apart (r ∷ rs) vs [] g e = never e
apart (r ∷ rs) vs (x ∷ ws) g e =
    let h = both (fits (stands r vs) r x) (fine rs (vs ++ (x ∷ [])) ws) e in
    let k = both (cond (eqb r.low 0) true (eqb r.width 8)) (eights rs) g in
    let i = apart rs (vs ++ (x ∷ [])) ws k.1 h.1 in
    let f = field_apart r vs x (eqb r.low 0) (stands r vs) refl refl k.0 in
    record { times = f.times + i.times; is = omega (arith, length-append (field (stands r vs) r x) (payload rs (vs ++ (x ∷ [])) ws), f.is, i.is) }
