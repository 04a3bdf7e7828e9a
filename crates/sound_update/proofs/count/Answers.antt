-- `count` meets its contract: it asks the transport, and raises the count of the step's direction.
use mathlib.Core.Path.{◌≡◌, refl, sym, ap, ap₂, ◌∙◌, subst}
use mathlib.Core.Bool.{Bool, true, false, not, ◌&&◌, cond}
use Prim.Native.Nat.{ℕ, ◌+◌, ◌-◌, ◌^◌, ◌<◌, ◌≤◌, min}
use native.Mathlib.Omega.{arith}
use lib.Dec.{T, ltb, ltb→lt, nltb→le}
use Rattle.transport.specs.declared.Transport.{Transport}
use Rattle.transport.specs.Moves.{wraps}
use Rattle.sound_update.specs.declared.Slice.{Slice}
use Rattle.sound_update.specs.declared.Wraps.{Wraps}
use Rattle.sound_update.specs.Updates.{raised, counted}
use Rattle.sound_update.proofs.count.Goals as goal

-- with the result w of whether the step wraps, and its direction d
counted-by : (c : Slice) (t : Transport) (k : Wraps) (w d : Bool) → w ≡ wraps c.backwards t → c.backwards ≡ d
    → ◌≡◌ {A = Wraps} (record { forward = raised (w && not d) k.forward; backward = raised (w && d) k.backward }) (counted c t k)
unfolding counted
counted-by c t k w d e f = ap₂ (λ (w d : Bool). record { forward = raised (w && not d) k.forward; backward = raised (w && d) k.backward }) e (sym f)

-- std's sum stays at the limit, as a count does
limited : (n : ℕ) → n < 2 ^ 32 → min (n + 1) (2 ^ 32 - 1) ≡ raised true n
limited n h = go (ltb n 4294967295) refl
  where
    below : (n : ℕ) → n < 4294967295 → min (n + 1) 4294967295 ≡ n + 1
    below n k = omega arith

    full : (n : ℕ) → n < 2 ^ 32 → 4294967295 ≤ n → min (n + 1) 4294967295 ≡ n
    full n h k = omega arith

    go : (b : Bool) → ltb n 4294967295 ≡ b → min (n + 1) 4294967295 ≡ cond b (n + 1) n
    go true e = below n (ltb→lt n 4294967295 (subst T (sym e) tt))
    go false e = full n h (nltb→le n 4294967295 (subst (λ (b : Bool). T (not b)) (sym e) tt))

pub returns-then-not-wraps : goal.returns-then-not-wraps
returns-then-not-wraps c =
    let a = c.args in
    counted-by a.slice a.transport a.wraps false a.slice.backwards (sym c.if-not-wraps.true ∙ c.wraps.ensures) refl

pub returns-then-slice : goal.returns-then-slice
returns-then-slice c =
    let a = c.args in
    ap (λ (n : ℕ). record { forward = a.wraps.forward; backward = n }) (c.saturating_add.ensures ∙ limited _ (omega arith))
    ∙ counted-by a.slice a.transport a.wraps true true (sym c.if-not-wraps.false ∙ c.wraps.ensures) c.if-slice.true

pub returns-else-slice : goal.returns-else-slice
returns-else-slice c =
    let a = c.args in
    ap (λ (n : ℕ). record { forward = n; backward = a.wraps.backward }) (c.saturating_add-else-slice.ensures ∙ limited _ (omega arith))
    ∙ counted-by a.slice a.transport a.wraps true false (sym c.if-not-wraps.false ∙ c.wraps.ensures) c.if-slice.false
