-- Where a loop puts a position, case by case as the code meets them, and the bounds of a remainder.
-- By deciding each test of the definitions. Assumes nothing.
use Rattle.std.specs.Prelude.{Some}
use Prim.Native.Nat.{ℕ, suc, ◌+◌, ◌-◌, ◌%◌, ◌≤◌, ◌<◌}
use mathlib.Core.Path.{◌≡◌, refl, ap, ◌∙◌}
use mathlib.Core.Bool.{Bool, true, false, cond}
use native.Mathlib.Nat.{mod-lt, mod_self, mod-eq_of_lt, add-zero}
use native.Mathlib.Omega.{arith}
use lib.Dec.{leb}
use borrow.Author.Tests.{lt-ltb, le-ltb, le-leb, lt-leb}
use Rattle.transport.specs.Moves.{cycled, under, over, back}

-- what holds for both branches, each under its test, holds for the result
pub picked : (P : ℕ → Type 0) (b : Bool) (x y : ℕ) → (b ≡ true → P x) → (b ≡ false → P y) → P (cond b x y)
picked P true x y f g = f refl
picked P false x y f g = g refl

pub cycled_above : (a b l : ℕ) → b ≤ a → cycled a b l ≡ (a - b) % l
cycled_above a b l h = ap (λ (t : Bool). cond t ((a - b) % l) (l - 1 - (b - a - 1) % l)) (le-leb b a h)

pub cycled_below : (a b l : ℕ) → a < b → cycled a b l ≡ l - 1 - (b - a - 1) % l
cycled_below a b l h = ap (λ (t : Bool). cond t ((a - b) % l) (l - 1 - (b - a - 1) % l)) (lt-leb b a h)

-- a remainder is below its divisor
pub cycled_lt : (a b l : ℕ) → 0 < l → cycled a b l < l
cycled_lt a b l h = go (leb b a)
  where
    less : (x : ℕ) → 0 < l → l - 1 - x < l
    less x h = omega arith

    go : (t : Bool) → cond t ((a - b) % l) (l - 1 - (b - a - 1) % l) < l
    go true = mod-lt (a - b) h
    go false = less ((b - a - 1) % l) h

-- so a wrapped position is below the loop's end
pub wrapped_lt : (s e a b : ℕ) → s < e → s + cycled a b (e - s) < e
wrapped_lt s e a b h = go (cycled a b (e - s)) (cycled_lt a b (e - s) (omega arith))
  where
    go : (c : ℕ) → c < e - s → s + c < e
    go c k = omega arith

-- s + (L - 1 - r) is e - 1 - r
from_end : (s e r : ℕ) → s < e → r < e - s → s + (e - s - 1 - r) ≡ e - 1 - r
from_end s e r h k = omega arith

module _ (s e : ℕ) where
  pub under_inside : (p : ℕ) → p < e → under (Some (s, e)) p ≡ p
  under_inside p h = rw (lt-leb e p h)

  pub under_wrap : (p : ℕ) → s < e → e ≤ p → under (Some (s, e)) p ≡ s + (p - s) % (e - s)
  under_wrap p l h = rw (le-leb e p h) (ap (λ (c : ℕ). s + c) (cycled_above p s (e - s) (omega arith)))

  -- a step meets the loop's end itself
  pub under_end : s < e → under (Some (s, e)) e ≡ s
  under_end l = under_wrap e l (omega arith) ∙ ap (λ (c : ℕ). s + c) (mod_self (e - s)) ∙ add-zero s

  pub over_inside : (p : ℕ) → s ≤ p → over (Some (s, e)) p ≡ p
  over_inside p h = rw (le-ltb p s h)

  pub over_wrap : (p : ℕ) → s < e → p < s → over (Some (s, e)) p ≡ e - 1 - (s - p - 1) % (e - s)
  over_wrap p l h =
      rw (lt-ltb p s h)
      (ap (λ (c : ℕ). s + c) (cycled_below p s (e - s) h) ∙ from_end s e ((s - p - 1) % (e - s)) l (mod-lt (s - p - 1) (omega arith)))

  pub back_inside : (p : ℕ) → s < p → back (Some (s, e)) p ≡ p - 1
  back_inside p h = rw (lt-leb p s h)

  pub back_wrap : (p : ℕ) → s < e → p ≤ s → back (Some (s, e)) p ≡ e - 1 - (s - p) % (e - s)
  back_wrap p l h =
      rw (le-leb p s h)
      (ap (λ (c : ℕ). s + c) (cycled_below p (suc s) (e - s) (omega arith) ∙ ap (λ (x : ℕ). e - s - 1 - x % (e - s)) (same s p h))
      ∙ from_end s e ((s - p) % (e - s)) l (mod-lt (s - p) (omega arith)))
    where
      same : (s p : ℕ) → p ≤ s → suc s - p - 1 ≡ s - p
      same s p h = omega arith

  -- a step meets the loop's start itself
  pub back_start : (p : ℕ) → s < e → p ≡ s → back (Some (s, e)) p ≡ e - 1
  back_start p l h = back_wrap p l (omega arith) ∙ ap (λ (r : ℕ). e - 1 - r) (mod-eq_of_lt (omega arith)) ∙ none s e p h
    where
      none : (s e p : ℕ) → p ≡ s → e - 1 - (s - p) ≡ e - 1
      none s e p h = omega arith
