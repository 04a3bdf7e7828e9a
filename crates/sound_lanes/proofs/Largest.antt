-- The largest number of 32 bits: no finite one is above it, so anything that is not at most that is refused. Assumes nothing.
use mathlib.Core.Path.{◌≡◌, refl, sym, ap, ◌∙◌, subst}
use Prim.Native.Nat.{ℕ, zero, suc, ◌-◌, ◌*◌, ◌%◌, ◌^◌, ◌≤◌, ◌<◌, zero-le}
use native.Mathlib.Nat.{le_trans, le_of_eq, le_of_lt, mul-le-mul, mul-le-mul_left, mul-le-mul_right, mul_assoc, mul_comm, lt_of_mul-lt-mul_right, add-sub_of_le}
use native.Mathlib.Omega.{arith}
use mathlib.Core.Bool.{Bool, true, false, not, ◌&&◌, false≢true}
use lib.IntN.{ℤ, pos, negsuc}
use lib.Dec.{T, ltb, leb, eqb, ltb→lt}
use lib.Pow.{pow-add, pow_pos, pow_mono}
use lib.Ieee.{Float, nan, inf, fin, binary32, up, down, lt, le, eq, div, fits, is_nan}
use lib.Ieee.Fits.{and_l, and_r, down_pos}
use lib.Ieee.Order.{le_of_values}
use borrow.Author.Tests.{ltb-true, ltb-false}
use Rattle.numbers.specs.Words.{positive_zero, one, finite_clear}

abbrev pub largest : Float
largest = fin false 16777215 (pos 104)

-- ---- how large a finite number is

digits : (n : ℕ) → n < 16777216 → n ≤ 16777215
digits n h = omega arith

some : (a d : ℕ) → 0 < d → a ≤ a * d
some a zero h = absurd (never h)
  where
    never : 0 < 0 → ⊥
    never h = omega arith
some a (suc d) h = le_trans (le_of_eq (sym (times a))) (mul-le-mul_left a (least d))
  where
    times : (a : ℕ) → a * 1 ≡ a
    times a = omega arith

    least : (d : ℕ) → 1 ≤ suc d
    least d = omega arith

-- below 2^128, with 24 digits
whole : (m k : ℕ) → m < 16777216 → m * 2 ^ k < 16777216 * 2 ^ 104 → m * 2 ^ k ≤ 16777215 * 2 ^ 104
whole m k few h = go (ltb k 104) refl
  where
    go : (b : Bool) → ltb k 104 ≡ b → m * 2 ^ k ≤ 16777215 * 2 ^ 104
    go true e = mul-le-mul (digits m few) (pow_mono (le_of_lt (ltb-true k 104 e)))
    go false e =
        let j = k - 104 in
        let cut : m * 2 ^ k ≡ m * 2 ^ j * 2 ^ 104 =
        ap (λ (n : ℕ). m * 2 ^ n) (sym (add-sub_of_le (ltb-false k 104 e))) ∙ ap (λ (n : ℕ). m * n) (pow-add 2 104 j ∙ mul_comm (2 ^ 104) (2 ^ j)) ∙ sym (mul_assoc m (2 ^ j) (2 ^ 104)) in
        le_trans (le_of_eq cut) (mul-le-mul_right (2 ^ 104) (digits (m * 2 ^ j) (lt_of_mul-lt-mul_right (2 ^ 104) (subst (λ (n : ℕ). n < 16777216 * 2 ^ 104) cut h))))

-- what it means to fit: 24 bits, and below 2^128
fitted : (n u d : ℕ) → T (eqb (n % 2) 1 && ltb n 16777216 && leb d (2 ^ 149) && ltb (n * u) (2 ^ 128 * d)) → (n < 16777216) × (n * u < 2 ^ 128 * d)
fitted n u d t =
    let a = eqb (n % 2) 1 in
    let b = ltb n 16777216 in
    let c = leb d (2 ^ 149) in
    let e = ltb (n * u) (2 ^ 128 * d) in
    (ltb→lt n 16777216 (and_r a b (and_l (a && b) c (and_l (a && b && c) e t))), ltb→lt (n * u) (2 ^ 128 * d) (and_r (a && b && c) e t))

small : (n k : ℕ) → n < 16777216 → n * 1 * 1 ≤ 16777215 * 2 ^ 104 * 2 ^ k
small n k h = le_trans (le_of_eq (ones n)) (le_trans (digits n h) (le_trans (some 16777215 (2 ^ 104) (pow_pos 104)) (some (16777215 * 2 ^ 104) (2 ^ k) (pow_pos k))))
  where
    ones : (n : ℕ) → n * 1 * 1 ≡ n
    ones n = omega arith

once : (a b : ℕ) → a ≤ b → a * 1 ≤ b * 1
once a b h = mul-le-mul_right 1 h

at_most : (m : ℕ) (e : ℤ) → T (fits binary32 (fin false m e)) → T (le (fin false m e) largest)
unfolding fits
at_most zero e t = le_of_values (fin false zero e) largest (0 * up e) (down e) (16777215 * 2 ^ 104) 1 (down_pos e) (pow_pos 0) (refl, refl) (refl, refl) (le_trans (le_of_eq (nought (up e))) zero-le)
  where
    nought : (u : ℕ) → 0 * u * 1 ≡ 0
    nought u = omega arith
at_most (suc m) (negsuc k) t =
    le_of_values (fin false (suc m) (negsuc k)) largest (suc m * 1) (2 ^ suc k) (16777215 * 2 ^ 104) 1 (pow_pos (suc k)) (pow_pos 0) (refl, refl) (refl, refl) (small (suc m) (suc k) (fitted (suc m) 1 (2 ^ suc k) t).0)
at_most (suc m) (pos k) t =
    le_of_values (fin false (suc m) (pos k)) largest (suc m * 2 ^ k) 1 (16777215 * 2 ^ 104) 1 (pow_pos 0) (pow_pos 0) (refl, refl) (refl, refl)
    (once (suc m * 2 ^ k) (16777215 * 2 ^ 104) (whole (suc m) k (fitted (suc m) (2 ^ k) 1 t).0 (fitted (suc m) (2 ^ k) 1 t).1))

-- ---- the test

pub at_most_number : (x y : Float) → le x y ≡ true → T (not (is_nan x))
unfolding le is_nan
at_most_number nan y h = absurd (false≢true h)
at_most_number (inf s) y h = tt
at_most_number (fin s m e) y h = tt

pub at_most_below : (x : Float) → le x largest ≡ true → lt x (div binary32 one positive_zero) ≡ true
unfolding le lt eq div
at_most_below nan h = absurd (false≢true h)
at_most_below (inf true) h = refl
at_most_below (inf false) h = absurd (false≢true h)
at_most_below (fin s m e) h = refl

pub above_refused : (x : Float) → T (fits binary32 x) → le x largest ≡ false → finite_clear x ≡ false
above_refused nan t h = refl
above_refused (inf s) t h = refl
above_refused (fin true m e) t h = refl
above_refused (fin false m e) t h = absurd (subst T h (at_most m e t))
