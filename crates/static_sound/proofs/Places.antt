-- Whether an output or a mix holds a block: the code's tests in whole frames, and the definitions'.
use mathlib.Core.Path.{◌≡◌, refl, sym, ap, ◌∙◌}
use mathlib.Core.Bool.{Bool, true, false, ◌&&◌}
use Prim.Native.Nat.{ℕ, ◌+◌, ◌-◌, ◌*◌, ◌/◌, ◌%◌, ◌≤◌, ◌<◌}
use native.Mathlib.Omega.{arith}
use lib.Dec.{leb, eqb}
use borrow.Author.Tests.{leb-true, leb-false, le-leb, lt-leb, eqb-true, eqb-false, eq-eqb, ne_eqb}

pub holds_even : (m n : ℕ) → m % 2 ≡ 0 → eqb (m / 2) n ≡ eqb m (2 * n)
holds_even m n e = go (eqb (m / 2) n) refl
  where
    go : (b : Bool) → eqb (m / 2) n ≡ b → b ≡ eqb m (2 * n)
    go true f = let h = eqb-true (m / 2) n f in sym (eq-eqb m (2 * n) (omega arith))
    go false f = let h = eqb-false (m / 2) n f in sym (ne_eqb m (2 * n) (λ k. h (omega arith)))

pub holds_odd : (m n : ℕ) → (m % 2 ≡ 0 → ⊥) → eqb (m % 2) 0 ≡ eqb m (2 * n)
holds_odd m n h = ne_eqb (m % 2) 0 h ∙ sym (ne_eqb m (2 * n) (λ k. h (omega arith)))
