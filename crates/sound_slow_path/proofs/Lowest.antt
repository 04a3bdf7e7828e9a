-- The lower of two counts: which one it is, in any grouping, and under 4. By whether the first is at most the second. Assumes nothing.
use mathlib.Core.Path.{◌≡◌, refl, ap}
use Prim.Native.Nat.{ℕ, ◌≤◌, ◌<◌}
use native.Mathlib.Omega.{arith}
use mathlib.Core.Bool.{Bool, true, false, cond}
use lib.Dec.{leb}
use Rattle.std.proofs.Common.{min}
use borrow.Author.Tests.{leb-true, leb-false, le-leb, lt-leb}
use Rattle.sound_slow_path.specs.Plays.{lower}

pub lower_first : (a b : ℕ) → a ≤ b → lower a b ≡ a
unfolding lower
lower_first a b h = ap (λ (t : Bool). cond t a b) (le-leb a b h)

pub lower_second : (a b : ℕ) → b < a → lower a b ≡ b
unfolding lower
lower_second a b h = ap (λ (t : Bool). cond t a b) (lt-leb a b h)

-- it is std's
pub min_lower : (a b : ℕ) → min a b ≡ lower a b
min_lower a b = go (leb a b) refl
  where
    go : (t : Bool) → leb a b ≡ t → min a b ≡ lower a b
    go true e = let h = leb-true a b e in let k = lower_first a b h in omega arith
    go false e = let h = leb-false a b e in let k = lower_second a b h in omega arith

-- it is at most both
pub record Lowest (a b : ℕ) : Type 0 where
  pub first : lower a b ≤ a
  pub second : lower a b ≤ b

pub lowest : (a b : ℕ) → Lowest a b
lowest a b = go (leb a b) refl
  where
    go : (t : Bool) → leb a b ≡ t → Lowest a b
    go true e = let h = leb-true a b e in let k = lower_first a b h in record { first = omega arith; second = omega arith }
    go false e = let h = leb-false a b e in let k = lower_second a b h in record { first = omega arith; second = omega arith }

-- at or above m, if both are
pub lower_above : (m a b : ℕ) → m ≤ a → m ≤ b → m ≤ lower a b
lower_above m a b h k = go (leb a b) refl
  where
    go : (t : Bool) → leb a b ≡ t → m ≤ lower a b
    go true e = let q = lower_first a b (leb-true a b e) in omega arith
    go false e = let q = lower_second a b (leb-false a b e) in omega arith

same : (a b : ℕ) → a ≤ b → b ≤ a → a ≡ b
same a b h k = omega arith

pub lower_assoc : (a b c : ℕ) → lower a (lower b c) ≡ lower (lower a b) c
lower_assoc a b c =
    let ab = lowest a b in
    let bc = lowest b c in
    let l = lowest a (lower b c) in
    let r = lowest (lower a b) c in
    same (lower a (lower b c)) (lower (lower a b) c)
    (lower_above (lower a (lower b c)) (lower a b) c (lower_above (lower a (lower b c)) a b l.first (omega arith)) (omega arith))
    (lower_above (lower (lower a b) c) a (lower b c) (omega arith) (lower_above (lower (lower a b) c) b c (omega arith) r.second))

-- 4 before or after a count of at most 4 changes nothing
pub lower_four : (a : ℕ) → a ≤ 4 → lower 4 a ≡ a
lower_four a h = let l = lowest 4 a in same (lower 4 a) a l.second (lower_above a 4 a h (omega arith))

pub four_lower : (a : ℕ) → a ≤ 4 → lower a 4 ≡ a
four_lower a h = lower_first a 4 h
