-- A sum of numbers that fit is minus zero only if both are: otherwise it is a whole number of the smallest values, and does not
-- round to zero. Assumes nothing.
use mathlib.Core.Path.{◌≡◌, refl, sym, ap, ap₂, ◌∙◌, subst}
use Prim.Native.Nat.{ℕ, zero, suc, ◌+◌, ◌-◌, ◌*◌, ◌^◌, ◌<◌, ◌≤◌}
use native.Mathlib.Nat.{le_trans, le_of_eq, one-mul, zero-mul, mul_comm, mul_assoc, mul_right_comm, mul-pos, mul-sub, add-mul, zero-lt-suc, mul-le-mul_right, mul-lt-mul_of_pos_right, lt_of_mul-lt-mul_right}
use native.Mathlib.Omega.{arith}
use mathlib.Core.Bool.{Bool, true, false, ◌&&◌, cond}
use lib.IntN.{ℤ, negsuc}
use lib.Dec.{T, ltb, eqb, eqb→eq, lit<, ltb→lt}
use lib.Ieee.{Float, nan, inf, fin, binary32, up, down, round, neg, sum, add, le, fits}
use lib.Ieee.Fits.{down_pos, up_pos}
use lib.Ieee.Order.{round_mono}
use Rattle.numbers.proofs.Signs.{clear, round_clear}
use Rattle.numbers.proofs.Bounds.{is_zero, round_neg}
use Rattle.numbers.proofs.Values.{place, round_fixed, le_at}

unfoldable pub minus_zero : Float → Bool
minus_zero nan = false
minus_zero (inf s) = false
minus_zero (fin s m e) = s && eqb m 0

abbrev least : Float
least = fin false 1 (negsuc 148)

at_least : (k c : ℕ) → 0 < c → c ≤ k * 2 ^ 149 → T (le least (round binary32 false k c))
unfolding fits
at_least k c C h =
    subst (λ (z : Float). T (le z (round binary32 false k c))) (round_fixed binary32 least false 1 (2 ^ 149) (lit< tt) tt (refl, refl))
    (round_mono binary32 1 (2 ^ 149) k c (lit< tt) C (le_trans (le_of_eq (one-mul c)) h))

no_zero : (r : Float) → T (clear r) → T (le least r) → T (is_zero r) → ⊥
unfolding is_zero
no_zero nan h l z = absurd z
no_zero (inf s) h l z = absurd z
no_zero (fin true m e) h l z = absurd h
no_zero (fin false m e) h l z =
    absurd (subst T (le_at least (fin false m e) 1 0 (2 ^ 149) (lit< tt) (refl, refl)
    (refl, ap (λ (k : ℕ). k * up e * 2 ^ 149) (eqb→eq m 0 z) ∙ ap (λ (k : ℕ). k * 2 ^ 149) (zero-mul (up e)) ∙ zero-mul (2 ^ 149) ∙ sym (zero-mul (down e)))) l)

zero_neg : (x : Float) → T (is_zero (neg x)) → T (is_zero x)
unfolding is_zero neg
zero_neg nan z = z
zero_neg (inf s) z = z
zero_neg (fin s m e) z = z

not_zero : (s : Bool) (k c : ℕ) → 0 < c → c ≤ k * 2 ^ 149 → T (is_zero (round binary32 s k c)) → ⊥
not_zero false k c C h z = no_zero (round binary32 false k c) (round_clear binary32 k c) (at_least k c C h) z
not_zero true k c C h z = no_zero (round binary32 false k c) (round_clear binary32 k c) (at_least k c C h) (zero_neg (round binary32 false k c) (subst (λ (x : Float). T (is_zero x)) (round_neg binary32 k c) z))

pub clear_not : (x : Float) → T (clear x) → T (minus_zero x) → ⊥
unfolding minus_zero
clear_not nan h z = z
clear_not (inf s) h z = z
clear_not (fin true m e) h z = h
clear_not (fin false m e) h z = z

is_zero_lem : (x : Float) → T (minus_zero x) → T (is_zero x)
unfolding minus_zero is_zero
is_zero_lem nan z = z
is_zero_lem (inf s) z = z
is_zero_lem (fin true m e) z = z
is_zero_lem (fin false m e) z = absurd z

sub_mul : (a b c : ℕ) → (a - b) * c ≡ a * c - b * c
sub_mul a b c = mul_comm (a - b) c ∙ mul-sub c a b ∙ ap (λ (z : ℕ). z - c * b) (mul_comm c a) ∙ ap (λ (z : ℕ). a * c - z) (mul_comm c b)

units_apart : (a b c w v l : ℕ) → 0 < l → a * l ≡ w * c → b * l ≡ v * c → a < b → c ≤ (b - a) * l
units_apart a b c w v l L p q h =
    let x : w * c < v * c = subst (λ (z : ℕ). z < v * c) p (subst (λ (z : ℕ). a * l < z) q (mul-lt-mul_of_pos_right h L)) in
    let y : w < v = lt_of_mul-lt-mul_right c x in
    let more : (w + 1) * c ≤ v * c = mul-le-mul_right c (next w v y) in
    let less : w * c + c ≤ v * c = le_trans (le_of_eq (sym (add-mul w 1 c ∙ ap (λ (z : ℕ). w * c + z) (one-mul c)))) more in
    le_trans (over (w * c) (v * c) c less) (le_of_eq (sym (sub_mul b a l ∙ ap₂ (λ (z u : ℕ). z - u) q p)))
  where
    next : (w v : ℕ) → w < v → w + 1 ≤ v
    next w v h = omega arith

    over : (x y c : ℕ) → x + c ≤ y → c ≤ y - x
    over x y c h = omega arith

-- a value over a common denominator is a whole number of the smallest values
whole : (s : Bool) (m : ℕ) (e : ℤ) (d : ℕ) → T (fits binary32 (fin s m e)) → (w : ℕ) × (m * up e * d * 2 ^ 149 ≡ w * (down e * d))
whole s m e d t =
    let p = place binary32 s m e t in
    (m * 2 ^ p.0, mul_right_comm (m * up e) d (2 ^ 149) ∙ ap (λ (z : ℕ). z * d) p.1 ∙ mul_assoc (m * 2 ^ p.0) (down e) d)

-- ---- sums

-- two summands of one denominator, each a whole number of the smallest values
record Two (a b c : ℕ) : Type 0 where
  some : 0 < c
  w : ℕ
  v : ℕ
  first : a * 2 ^ 149 ≡ w * c
  second : b * 2 ^ 149 ≡ v * c

none_first : (a b c : ℕ) → Two a b c → 0 < a → T (is_zero (round binary32 true (a + b) c)) → ⊥
none_first a b c o h z =
    not_zero true (a + b) c o.some
    (le_trans (units_apart 0 a c 0 o.w (2 ^ 149) (lit< tt) (zero-mul (2 ^ 149) ∙ sym (zero-mul c)) o.first h) (mul-le-mul_right (2 ^ 149) (wider a b))) z
  where
    wider : (a b : ℕ) → a - 0 ≤ a + b
    wider a b = omega arith

none_second : (a b c : ℕ) → Two a b c → 0 < b → T (is_zero (round binary32 true (a + b) c)) → ⊥
none_second a b c o h z =
    not_zero true (a + b) c o.some
    (le_trans (units_apart 0 b c 0 o.v (2 ^ 149) (lit< tt) (zero-mul (2 ^ 149) ∙ sym (zero-mul c)) o.second h) (mul-le-mul_right (2 ^ 149) (wider a b))) z
  where
    wider : (a b : ℕ) → b - 0 ≤ a + b
    wider a b = omega arith

-- unlike signs never give minus zero
unlike_first : (a b c : ℕ) → Two a b c → (p q : Bool) → ltb a b ≡ p → ltb b a ≡ q → T (minus_zero (cond p (round binary32 false (b - a) c) (round binary32 (true && q) (a - b) c))) → ⊥
unlike_first a b c o true q e f z = clear_not (round binary32 false (b - a) c) (round_clear binary32 (b - a) c) z
unlike_first a b c o false false e f z = clear_not (round binary32 false (a - b) c) (round_clear binary32 (a - b) c) z
unlike_first a b c o false true e f z =
    not_zero true (a - b) c o.some (units_apart b a c o.v o.w (2 ^ 149) (lit< tt) o.second o.first (ltb→lt b a (subst T (sym f) tt))) (is_zero_lem (round binary32 true (a - b) c) z)

unlike_second : (a b c : ℕ) → Two a b c → (p q : Bool) → ltb a b ≡ p → T (minus_zero (cond p (round binary32 true (b - a) c) (round binary32 (false && q) (a - b) c))) → ⊥
unlike_second a b c o true q e z =
    not_zero true (b - a) c o.some (units_apart a b c o.w o.v (2 ^ 149) (lit< tt) o.first o.second (ltb→lt a b (subst T (sym e) tt))) (is_zero_lem (round binary32 true (b - a) c) z)
unlike_second a b c o false q e z = clear_not (round binary32 false (a - b) c) (round_clear binary32 (a - b) c) z

two_of : (s t : Bool) (m n : ℕ) (e d : ℤ) → T (fits binary32 (fin s m e)) → T (fits binary32 (fin t n d)) → Two (m * up e * down d) (n * up d * down e) (down e * down d)
two_of s t m n e d p q =
    let x = whole s m e (down d) p in
    let y = whole t n d (down e) q in
    record {
      some = mul-pos (down_pos e) (down_pos d);
      w = x.0;
      v = y.0;
      first = x.1;
      second = y.1 ∙ ap (λ (z : ℕ). y.0 * z) (mul_comm (down d) (down e));
    }

first_none : (m n : ℕ) (e d : ℤ) → Two (m * up e * down d) (n * up d * down e) (down e * down d) → T (is_zero (round binary32 true (m * up e * down d + n * up d * down e) (down e * down d))) → T (eqb m 0)
first_none zero n e d o z = tt
first_none (suc m) n e d o z = absurd (none_first (suc m * up e * down d) (n * up d * down e) (down e * down d) o (mul-pos (mul-pos (zero-lt-suc m) (up_pos e)) (down_pos d)) z)

second_none : (m n : ℕ) (e d : ℤ) → Two (m * up e * down d) (n * up d * down e) (down e * down d) → T (is_zero (round binary32 true (m * up e * down d + n * up d * down e) (down e * down d))) → T (eqb n 0)
second_none m zero e d o z = tt
second_none m (suc n) e d o z = absurd (none_second (m * up e * down d) (suc n * up d * down e) (down e * down d) o (mul-pos (mul-pos (zero-lt-suc n) (up_pos d)) (down_pos e)) z)

-- a sum that is minus zero has two summands that are
pub add_minus : (x y : Float) → T (fits binary32 x) → T (fits binary32 y) → T (minus_zero (add binary32 x y)) → T (minus_zero x) × T (minus_zero y)
unfolding add sum minus_zero
add_minus nan y p q z = absurd z
add_minus (inf s) nan p q z = absurd z
add_minus (inf true) (inf true) p q z = absurd z
add_minus (inf true) (inf false) p q z = absurd z
add_minus (inf false) (inf true) p q z = absurd z
add_minus (inf false) (inf false) p q z = absurd z
add_minus (inf s) (fin t n d) p q z = absurd z
add_minus (fin s m e) nan p q z = absurd z
add_minus (fin s m e) (inf t) p q z = absurd z
add_minus (fin false m e) (fin false n d) p q z = absurd (clear_not (round binary32 false (m * up e * down d + n * up d * down e) (down e * down d)) (round_clear binary32 (m * up e * down d + n * up d * down e) (down e * down d)) z)
add_minus (fin true m e) (fin false n d) p q z =
    absurd (unlike_first (m * up e * down d) (n * up d * down e) (down e * down d) (two_of true false m n e d p q) (ltb (m * up e * down d) (n * up d * down e)) (ltb (n * up d * down e) (m * up e * down d)) refl refl z)
add_minus (fin false m e) (fin true n d) p q z =
    absurd (unlike_second (m * up e * down d) (n * up d * down e) (down e * down d) (two_of false true m n e d p q) (ltb (m * up e * down d) (n * up d * down e)) (ltb (n * up d * down e) (m * up e * down d)) refl z)
add_minus (fin true m e) (fin true n d) p q z =
    let o = two_of true true m n e d p q in
    let u = is_zero_lem (round binary32 true (m * up e * down d + n * up d * down e) (down e * down d)) z in
    (first_none m n e d o u, second_none m n e d o u)
