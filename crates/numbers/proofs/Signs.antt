-- Sign bits: clear ones stay clear through rounding and products, a magnitude's is off, and the bits of a number show it.
-- The bits of a number with its sign set are those with it clear, and the top bit. Assumes nothing.
use Rattle.std.proofs.Common.{◌≡◌, ℕ, zero, suc, ◌+◌, ◌-◌, ◌*◌, ◌%◌, ◌^◌, ◌<◌, ◌≤◌, Bool, true, false, cond, not, ◌&&◌, ◌||◌, T, eqb, ltb, ℤ, pos, negsuc, sym, refl, ap, ◌∙◌, subst, true≢false, mod-eq_of_lt, zero-lt-suc, mul-pos, arith, eqb→eq, le-ltb, lt-ltb}
use native.Mathlib.Nat.{add-mod_left}
use mathlib.Core.Bool.{beq, false≢true}
use lib.Dec.{eqb_refl}
use lib.Bits.{bit_and, and_mask}
use lib.Ieee.{Float, nan, inf, fin, Format, binary32, binary64, prec, low, emax, top, up, down, odd, units, round, neg, mul, div, lt, le, eq, fits, is_nan, to_bits, of_bits, nan_bits}
use lib.Ieee.Fits.{up_pos, neg-fits, inf-fits, and_l}
use lib.Ieee.Bits.{of_bits-to_bits, to_bits-lt, nan_bits_is}
use Rattle.std.specs.Float.{float_is_finite, is_sign_negative}
use Rattle.numbers.specs.Words.{positive_zero, one, finite, finite_clear, is_positive_zero, negative, proper, magnitude}
use Rattle.numbers.proofs.Values.{zero_exp}

-- ---- no set sign bit
abbrev pub clear : Float → Bool
clear nan = true
clear (inf s) = not s
clear (fin s m e) = not s

odd_clear : (d q k l : ℕ) → T (clear (odd d false q k l))
unfolding odd
odd_clear d zero k l = tt
odd_clear d (suc q) k l = tt

units_clear : (f : Format) (q k : ℕ) → T (clear (units f false q k))
unfolding units
units_clear f q k = go (ltb (q * 2 ^ k) (2 ^ (low f + suc (emax f))))
  where
    go : (b : Bool) → T (clear (cond b (odd (suc (prec f)) false q k (low f)) (inf false)))
    go true = odd_clear (suc (prec f)) q k (low f)
    go false = tt

pub round_clear : (f : Format) (a b : ℕ) → T (clear (round f false a b))
unfolding round
round_clear f a b = units_clear f _ _

cond_clear : (b : Bool) → T (clear (cond b nan (inf false)))
cond_clear true = tt
cond_clear false = tt

pub mul_clear : (f : Format) (x y : Float) → T (clear x) → T (clear y) → T (clear (mul f x y))
unfolding mul
mul_clear f nan y h k = tt
mul_clear f (inf s) nan h k = tt
mul_clear f (inf true) (inf t) h k = absurd h
mul_clear f (inf false) (inf true) h k = absurd k
mul_clear f (inf false) (inf false) h k = tt
mul_clear f (inf true) (fin t n d) h k = absurd h
mul_clear f (inf false) (fin true n d) h k = absurd k
mul_clear f (inf false) (fin false n d) h k = cond_clear (eqb n 0)
mul_clear f (fin s m e) nan h k = tt
mul_clear f (fin true m e) (inf t) h k = absurd h
mul_clear f (fin false m e) (inf true) h k = absurd k
mul_clear f (fin false m e) (inf false) h k = cond_clear (eqb m 0)
mul_clear f (fin true m e) (fin t n d) h k = absurd h
mul_clear f (fin false m e) (fin true n d) h k = absurd k
mul_clear f (fin false m e) (fin false n d) h k = round_clear f (m * up e * (n * up d)) (down e * down d)

pub finite_clear_clear : (x : Float) → T (finite_clear x) → T (clear x)
finite_clear_clear nan h = tt
finite_clear_clear (inf s) h = absurd h
finite_clear_clear (fin s m e) h = h

-- a value with its sign clear that is at most a number is finite
pub bounded : (y : Float) (m : ℕ) (e : ℤ) → T (clear y) → T (le y (fin false m e)) → T (finite_clear y)
unfolding le
bounded nan m e c h = absurd h
bounded (inf true) m e c h = absurd c
bounded (inf false) m e c h = absurd h
bounded (fin true n d) m e c h = absurd c
bounded (fin false n d) m e c h = tt

-- ---- finite
pub finite_number : (x : Float) → T (finite x) → T (not (is_nan x))
unfolding is_nan
finite_number nan h = absurd h
finite_number (inf s) h = absurd h
finite_number (fin s m e) h = tt

pub finite_is : (x : Float) → float_is_finite x ≡ finite x
unfolding float_is_finite
finite_is nan = refl
finite_is (inf s) = refl
finite_is (fin s m e) = refl

-- ---- the sign bit, among the bits: the top one
pub set_bit : (f : Format) (m : ℕ) (e : ℤ) → to_bits f (fin true m e) ≡ top f + to_bits f (fin false m e)
unfolding to_bits
set_bit f m e = go (top f) _ _
  where
    go : (t a b : ℕ) → t + a + b ≡ t + (0 + a + b)
    go t a b = omega arith

pub clear_bit : (f : Format) (m : ℕ) (e : ℤ) → T (fits f (fin false m e)) → to_bits f (fin false m e) < top f
unfolding neg
clear_bit f m e t = less (top f) (to_bits f (fin false m e)) (subst (λ (z : ℕ). z < 2 * top f) (set_bit f m e) (to_bits-lt f (fin true m e) (neg-fits f (fin false m e) t)))
  where
    less : (t b : ℕ) → t + b < 2 * t → b < t
    less t b h = omega arith

-- ---- the magnitude
pub magnitude_clear : (x : Float) → T (clear (magnitude x))
unfolding magnitude
magnitude_clear nan = tt
magnitude_clear (inf s) = tt
magnitude_clear (fin s m e) = tt

magnitude_fits : (x : Float) → T (fits binary64 x) → T (fits binary64 (magnitude x))
unfolding magnitude neg
magnitude_fits nan t = t
magnitude_fits (inf s) t = inf-fits binary64 false
magnitude_fits (fin true m e) t = neg-fits binary64 (fin true m e) t
magnitude_fits (fin false m e) t = t

masked : (x : Float) → T (not (is_nan x)) → T (fits binary64 x) → bit_and (to_bits binary64 x) (2 ^ 63 - 1) ≡ to_bits binary64 (magnitude x)
unfolding magnitude is_nan neg
masked nan k t = absurd k
masked (inf true) k t = unfold to_bits in and_mask (2 ^ 63 + 2047 * 2 ^ 52) 63
masked (inf false) k t = unfold to_bits in and_mask (0 + 2047 * 2 ^ 52) 63
masked (fin true m e) k t =
    and_mask (to_bits binary64 (fin true m e)) 63
    ∙ ap (λ (z : ℕ). z % 2 ^ 63) (set_bit binary64 m e)
    ∙ add-mod_left (2 ^ 63) (to_bits binary64 (fin false m e))
    ∙ mod-eq_of_lt (clear_bit binary64 m e (neg-fits binary64 (fin true m e) t))
masked (fin false m e) k t = and_mask (to_bits binary64 (fin false m e)) 63 ∙ mod-eq_of_lt (clear_bit binary64 m e t)

pub by_bits : (x : Float) → T (not (is_nan x)) → T (fits binary64 x) → of_bits binary64 (bit_and (to_bits binary64 x) (2 ^ 63 - 1)) ≡ magnitude x
by_bits x k t = ap (λ (z : ℕ). of_bits binary64 z) (masked x k t) ∙ of_bits-to_bits binary64 (magnitude x) (magnitude_fits x t)

magnitude_number : (x : Float) → T (not (is_nan x)) → T (not (is_nan (magnitude x)))
unfolding magnitude is_nan
magnitude_number nan k = k
magnitude_number (inf s) k = tt
magnitude_number (fin s m e) k = tt

pub number_bits : (x : Float) → T (not (is_nan x)) → T (fits binary64 x) → T (not (nan_bits binary64 (bit_and (to_bits binary64 x) (2 ^ 63 - 1))))
number_bits x k t =
    subst (λ (b : Bool). T (not b)) (sym (nan_bits_is binary64 (bit_and (to_bits binary64 x) (2 ^ 63 - 1)) ∙ ap is_nan (by_bits x k t))) (magnitude_number x k)

-- a finite value equals itself, and so does an infinity: what does not is a NaN, and its own magnitude
pub equal_self : (x : Float) → T (finite x) → eq x x ≡ true
unfolding eq
equal_self nan h = absurd h
equal_self (inf s) h = absurd h
equal_self (fin s m e) h = go (eqb (m * up e * down e) (m * up e * down e)) (eqb_refl (m * up e * down e)) s
  where
    go : (b : Bool) → T b → (s : Bool) → (b && (beq s s || eqb (m * up e * down e) 0)) ≡ true
    go true t true = refl
    go true t false = refl
    go false t s = absurd t

pub self_nan : (x : Float) → eq x x ≡ false → x ≡ magnitude x
unfolding eq magnitude
self_nan nan h = refl
self_nan (inf true) h = absurd (true≢false h)
self_nan (inf false) h = absurd (true≢false h)
self_nan (fin s m e) h = absurd (true≢false (sym (equal_self (fin s m e) tt) ∙ h))

-- ---- tests by the top bit, once it is known that there is no NaN
more : (t b : ℕ) → t ≤ t + b
more t b = omega arith

low_bits : (f : Format) (s : Bool) (m : ℕ) (e : ℤ) → T (fits f (fin s m e)) → ltb (to_bits f (fin s m e)) (top f) ≡ not s
low_bits f true m e t = ap (λ (n : ℕ). ltb n (top f)) (set_bit f m e) ∙ le-ltb _ _ (more (top f) (to_bits f (fin false m e)))
low_bits f false m e t = lt-ltb _ _ (clear_bit f m e t)

abbrev infinity : Format → Float
infinity f = div f one positive_zero

pub finite_clear_bits : (x : Float) → T (fits binary32 x) → lt x (infinity binary32) ≡ true → ltb (to_bits binary32 x) (2 ^ 31) ≡ finite_clear x
unfolding lt div
finite_clear_bits nan t h = absurd (false≢true h)
finite_clear_bits (inf false) t h = absurd (false≢true h)
finite_clear_bits (inf true) t h = unfold to_bits in refl
finite_clear_bits (fin s m e) t h = low_bits binary32 s m e t

-- below infinity, a clear sign decides; at it or above, or for a NaN, the answer is no
pub finite_clear_is : (x : Float) → lt x (inf false) ≡ true → not (is_sign_negative x) ≡ finite_clear x
unfolding lt is_sign_negative
finite_clear_is nan h = absurd (false≢true h)
finite_clear_is (inf false) h = absurd (false≢true h)
finite_clear_is (inf true) h = refl
finite_clear_is (fin s m e) h = refl

pub not_finite_clear : (x : Float) → lt x (inf false) ≡ false → lt x (inf false) ≡ finite_clear x
unfolding lt
not_finite_clear nan h = refl
not_finite_clear (inf false) h = refl
not_finite_clear (inf true) h = absurd (true≢false h)
not_finite_clear (fin s m e) h = absurd (true≢false h)

-- proper
pub proper_is : (x : Float) → lt x one ≡ true → not (is_sign_negative x) ≡ proper x
unfolding is_sign_negative
proper_is nan h = unfold lt in absurd (false≢true h)
proper_is (inf false) h = unfold lt in absurd (false≢true h)
proper_is (inf true) h = refl
proper_is (fin true m e) h = refl
proper_is (fin false m e) h = sym h

-- negative
pub negative_is : (x : Float) → is_sign_negative x ≡ negative x
unfolding is_sign_negative
negative_is nan = refl
negative_is (inf s) = refl
negative_is (fin s m e) = refl

pub nan_not_negative : (x : Float) → is_nan x ≡ true → negative x ≡ false
unfolding is_nan
nan_not_negative nan h = refl
nan_not_negative (inf s) h = absurd (false≢true h)
nan_not_negative (fin s m e) h = absurd (false≢true h)

-- positive zero
pub equal_number : (x y : Float) → eq x y ≡ true → T (not (is_nan x))
unfolding eq is_nan
equal_number nan y h = absurd (false≢true h)
equal_number (inf s) y h = tt
equal_number (fin s m e) y h = tt

pub positive_zero_is : (x : Float) → T (fits binary32 x) → eq x positive_zero ≡ true → not (is_sign_negative x) ≡ is_positive_zero x
unfolding eq is_sign_negative
positive_zero_is nan t h = absurd (false≢true h)
positive_zero_is (inf s) t h = absurd (false≢true h)
positive_zero_is (fin true zero e) t h = refl
positive_zero_is (fin false zero e) t h = sym (ap (λ (z : ℤ). is_positive_zero (fin false 0 z)) (zero_exp binary32 false e t))
positive_zero_is (fin s (suc m) e) t h = absurd (some (eqb→eq (suc m * up e * 1) (0 * down e) (and_l (eqb (suc m * up e * 1) (0 * down e)) _ (subst T (sym h) tt))))
  where
    some : suc m * up e * 1 ≡ 0 * down e → ⊥
    some h = clash (suc m * up e) (down e) (mul-pos (zero-lt-suc m) (up_pos e)) h
      where
        clash : (x d : ℕ) → 0 < x → x * 1 ≡ 0 * d → ⊥
        clash x d p h = omega arith

pub not_positive_zero : (x : Float) → eq x positive_zero ≡ false → eq x positive_zero ≡ is_positive_zero x
unfolding eq
not_positive_zero nan h = refl
not_positive_zero (inf s) h = refl
not_positive_zero (fin true m e) h = h
not_positive_zero (fin false (suc m) e) h = h
not_positive_zero (fin false zero (negsuc k)) h = h
not_positive_zero (fin false zero (pos (suc k))) h = h
not_positive_zero (fin false zero (pos zero)) h = refl
