-- Fractions of a frame: finite clear and proper values by whole numbers crosswise, and what a sum of fraction and advance is at most.
-- Rounding keeps order, so a bound that is a float itself goes through it. Assumes nothing.
use Rattle.std.proofs.Common.{◌≡◌, ℕ, suc, ◌+◌, ◌*◌, ◌<◌, ◌≤◌, Bool, true, false, ◌&&◌, ◌||◌, T, eqb, ltb, ◌⊎◌, ℤ, pos, refl, subst, inl, inr, le_trans, le_of_eq, le_of_lt, mul-le-mul_right, mul_comm, div-lt_iff_lt-mul, mul-pos, arith, lit<, lit≤, le→leb, eqb→eq, ltb→lt, lt→ltb, leb→le}
use native.Mathlib.Nat.{div-le_of_le-mul}
use lib.Ieee.{Float, nan, inf, fin, binary32, binary64, up, down, round, add, mul, lt, le, of_int}
use lib.Ieee.Fits.{down_pos, and_l, and_r}
use lib.Ieee.Order.{round_mono}
use lib.Ieee.Back.{round_whole}
use Rattle.numbers.specs.Words.{positive_zero, one, finite_clear, proper, magnitude, narrowed, whole, advance}
use Rattle.numbers.proofs.Signs.{clear, round_clear, mul_clear, magnitude_clear, finite_clear_clear, bounded}
use Rattle.numbers.proofs.Bounds.{within, within_of_le, add_within}

-- ---- comparisons, crosswise
or_split : (a b : Bool) → T (a || b) → T a ⊎ T b
or_split true b t = inl tt
or_split false b t = inr t

pub le_cross : (n : ℕ) (d : ℤ) (m : ℕ) (e : ℤ) → T (le (fin false n d) (fin false m e)) → n * up d * down e ≤ m * up e * down d
unfolding le
le_cross n d m e t = elim (or_split (ltb (n * up d * down e) (m * up e * down d)) (eqb (n * up d * down e) (m * up e * down d) && true) t) [
  | inl u ↦ le_of_lt (ltb→lt (n * up d * down e) (m * up e * down d) u)
  | inr u ↦ le_of_eq (eqb→eq (n * up d * down e) (m * up e * down d) (and_l (eqb (n * up d * down e) (m * up e * down d)) true u))
]

pub lt_cross : (n : ℕ) (d : ℤ) (m : ℕ) (e : ℤ) → T (lt (fin false n d) (fin false m e)) → n * up d * down e < m * up e * down d
unfolding lt
lt_cross n d m e t = ltb→lt (n * up d * down e) (m * up e * down d) t

pub cross_lt : (n : ℕ) (d : ℤ) (m : ℕ) (e : ℤ) → n * up d * down e < m * up e * down d → T (lt (fin false n d) (fin false m e))
unfolding lt
cross_lt n d m e t = lt→ltb (n * up d * down e) (m * up e * down d) t

-- ---- proper values
pub positive_zero_proper : T (proper positive_zero)
unfolding lt
positive_zero_proper = tt

pub proper_lt : (m : ℕ) (e : ℤ) → T (proper (fin false m e)) → m * up e < down e
proper_lt m e h = tidy (m * up e) (down e) (lt_cross m e 1 (pos 0) (and_r true (lt (fin false m e) one) h))
  where
    tidy : (a c : ℕ) → a * 1 < 1 * c → a < c
    tidy a c h = omega arith

round_one : round binary32 false 1 1 ≡ one
unfolding round
round_one = refl

pub narrow_finite_clear : (x : Float) → T (proper x) → T (finite_clear (narrowed x))
unfolding narrowed
narrow_finite_clear nan h = absurd h
narrow_finite_clear (inf s) h = absurd h
narrow_finite_clear (fin true m e) h = absurd h
narrow_finite_clear (fin false m e) h =
    let k : m * up e * 1 < 1 * down e = lt_cross m e 1 (pos 0) (and_r true (lt (fin false m e) one) h) in
    bounded (round binary32 false (m * up e) (down e)) 1 (pos 0) (round_clear binary32 (m * up e) (down e))
    (subst (λ (z : Float). T (le (round binary32 false (m * up e) (down e)) z)) round_one
    (round_mono binary32 (m * up e) (down e) 1 1 (down_pos e) (lit< tt) (le_of_lt k)))

-- ---- the sum of a fraction and an advance
round_257 : round binary64 false 257 1 ≡ fin false 257 (pos 0)
unfolding round
round_257 = refl

sums : (a u b v d e : ℕ) → a * u * 1 < 1 * d → b * v * 1 ≤ 256 * e → (a * u * e + b * v * d) * 1 ≤ 257 * (d * e)
sums a u b v d e h k = omega (arith, mul-le-mul_right e (le_of_lt h), mul-le-mul_right d k)

pub add_most : (x y : Float) → T (proper x) → T (finite_clear y) → T (le y (fin false 1 (pos 8))) → T (clear (add binary64 x y)) × T (le (add binary64 x y) (fin false 257 (pos 0)))
unfolding add
add_most nan y h l k = absurd h
add_most (inf s) y h l k = absurd h
add_most (fin true m e) y h l k = absurd h
add_most (fin false m e) nan h l k = absurd l
add_most (fin false m e) (inf s) h l k = absurd l
add_most (fin false m e) (fin true n d) h l k = absurd l
add_most (fin false m e) (fin false n d) h l k =
    let a = m * up e * down d + n * up d * down e in
    let c = down e * down d in (
      round_clear binary64 a c,
      subst (λ (z : Float). T (le (round binary64 false a c) z)) round_257
          (round_mono binary64 a c 257 1 (mul-pos (down_pos e) (down_pos d)) (lit< tt)
          (sums m (up e) n (up d) (down e) (down d) (lt_cross m e 1 (pos 0) (and_r true (lt (fin false m e) one) h)) (le_cross n d 1 (pos 8) k))),
    )

pub add_finite_clear : (x y : Float) → T (proper x) → T (finite_clear y) → T (le y (fin false 1 (pos 8))) → T (finite_clear (add binary64 x y))
add_finite_clear x y h l k = bounded (add binary64 x y) 257 (pos 0) (add_most x y h l k).0 (add_most x y h l k).1

-- ---- its whole part
pub whole_257 : (x : Float) → T (finite_clear x) → T (le x (fin false 257 (pos 0))) → whole x < 1000
unfolding whole
whole_257 nan h l = absurd h
whole_257 (inf s) h l = absurd h
whole_257 (fin true m e) h l = absurd h
whole_257 (fin false m e) h l = (div-lt_iff_lt-mul (down_pos e)).1 (tidy (m * up e) (down e) (down_pos e) (le_cross m e 257 (pos 0) l))
  where
    tidy : (a c : ℕ) → 0 < c → a * 1 ≤ 257 * c → a < 1000 * c
    tidy a c p h = omega arith

proper_within : (x : Float) → T (proper x) → T (within 1 x)
unfolding within
proper_within nan h = absurd h
proper_within (inf s) h = absurd h
proper_within (fin true m e) h = absurd h
proper_within (fin false m e) h = le→leb (m * up e) (1 * down e) (le (m * up e) (down e) (proper_lt m e h))
  where
    le : (a c : ℕ) → a < c → a ≤ 1 * c
    le a c h = omega arith

whole_within : (k : ℕ) (x : Float) → T (within k x) → whole x ≤ k
unfolding within whole
whole_within k nan h = absurd h
whole_within k (inf s) h = absurd h
whole_within k (fin s m e) h = div-le_of_le-mul (down e) (le_trans (leb→le (m * up e) (k * down e) h) (le_of_eq (mul_comm k (down e))))

-- a fraction plus an advance of at most k makes at most k + 1 steps
pub sum_steps : (f a : Float) (k : ℕ) → k ≤ 256 → T (proper f) → T (finite_clear a) → T (le a (of_int binary64 (pos k))) → whole (add binary64 f a) ≤ suc k
unfolding of_int
sum_steps f a k K p l h =
    let b = within_of_le k a (round binary64 false k 1) (finite_clear_clear a l) (round_whole binary64 false k (le_trans K (lit≤ tt))) h in
    let s = whole_within (1 + k) (add binary64 f a) (add_within binary64 1 k f a (le_trans (more K) (lit≤ tt)) (proper_within f p) b) in
    omega arith
  where
    more : k ≤ 256 → 1 + k ≤ 257
    more h = omega arith

-- ---- the advance
pub above_clear : (x : Float) → T (lt positive_zero x) → T (clear x)
unfolding lt
above_clear nan h = tt
above_clear (inf true) h = absurd h
above_clear (inf false) h = tt
above_clear (fin true m e) h = absurd h
above_clear (fin false m e) h = tt

advance_clear : (hz : ℕ) (r dt : Float) → T (lt positive_zero dt) → T (clear (advance hz r dt))
unfolding advance of_int
advance_clear hz r dt t =
    mul_clear binary64 (mul binary64 (round binary64 false hz 1) (magnitude r)) dt
    (mul_clear binary64 (round binary64 false hz 1) (magnitude r) (round_clear binary64 hz 1) (magnitude_clear r)) (above_clear dt t)

pub advance_finite_clear : (hz : ℕ) (r dt : Float) → T (lt positive_zero dt) → T (le (advance hz r dt) (fin false 1 (pos 8))) → T (finite_clear (advance hz r dt))
advance_finite_clear hz r dt t h = bounded (advance hz r dt) 1 (pos 8) (advance_clear hz r dt t) h
