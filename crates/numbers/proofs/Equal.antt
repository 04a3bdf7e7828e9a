-- Equal floats that are not 0 are the same float, and a list of them is one float repeated. Assumes nothing.
use Rattle.std.proofs.Common.{◌≡◌, ℕ, zero, suc, ◌+◌, ◌*◌, ◌<◌, ◌≤◌, Bool, true, false, ◌&&◌, ◌||◌, T, eqb, ltb, List, [], ◌∷◌, length, get_or, replicate, ℤ, pos, sym, refl, ap, ◌∙◌, ap₂, true≢false, not-suc-le-zero, zero-mul, arith, ltb-false, ltb-true, eq-eqb, eqb-true}
use mathlib.Core.Bool.{false≢true, beq}
use native.Mathlib.Nat.{eq_of_mul-eq-mul_right}
use lib.Ieee.{Float, nan, inf, fin, Format, up, down, eq, fits}
use lib.Ieee.Fits.{down_pos}
use Rattle.numbers.specs.Words.{positive_zero}
use Rattle.numbers.specs.Lists.{all}
use Rattle.numbers.proofs.Values.{value_unique}

-- ---- two tests at once

pub first_of : (a b : Bool) → a && b ≡ true → a ≡ true
first_of true b h = refl
first_of false b h = h

pub second_of : (a b : Bool) → a && b ≡ true → b ≡ true
second_of true b h = h
second_of false b h = absurd (false≢true h)

-- ---- equal numbers

beq_same : (s t : Bool) → beq s t ≡ true → s ≡ t
beq_same true true e = refl
beq_same true false e = absurd (false≢true e)
beq_same false true e = absurd (false≢true e)
beq_same false false e = refl

or_left : (a b : Bool) → (b ≡ true → ⊥) → (a || b) ≡ true → a ≡ true
or_left true b h e = refl
or_left false b h e = absurd (h e)

none_of : (k c : ℕ) → 0 < c → k * c ≡ 0 → k ≡ 0
none_of k c h e = eq_of_mul-eq-mul_right c h k 0 (e ∙ sym (zero-mul c))

-- a number that is 0 is equal to 0
zero_equal : (t : Bool) (n : ℕ) (g : ℤ) → n * up g ≡ 0 → eq (fin t n g) positive_zero ≡ true
unfolding eq
zero_equal t n g h =
    let a : n * up g * down (pos 0) ≡ 0 = ap (λ (k : ℕ). k * down (pos 0)) h ∙ zero-mul (down (pos 0)) in
    let b : 0 * up (pos 0) * down g ≡ 0 = ap (λ (k : ℕ). k * down g) (zero-mul (up (pos 0))) ∙ zero-mul (down g) in
    both (eqb (n * up g * down (pos 0)) (0 * up (pos 0) * down g)) (beq t false) (eqb (n * up g * down (pos 0)) 0) (eq-eqb _ _ (a ∙ sym b)) (eq-eqb _ _ a)
  where
    both : (x y z : Bool) → x ≡ true → z ≡ true → (x && (y || z)) ≡ true
    both x true z e f = rw e refl
    both x false z e f = rw (e, f) refl

pub eq_same : (f : Format) (x y : Float) → T (fits f x) → T (fits f y) → eq y positive_zero ≡ false → eq x y ≡ true → x ≡ y
unfolding eq
eq_same f nan y p q z e = absurd (false≢true e)
eq_same f (inf s) nan p q z e = absurd (false≢true e)
eq_same f (inf s) (inf t) p q z e = ap inf (beq_same s t e)
eq_same f (inf s) (fin t n g) p q z e = absurd (false≢true e)
eq_same f (fin s m d) nan p q z e = absurd (false≢true e)
eq_same f (fin s m d) (inf t) p q z e = absurd (false≢true e)
eq_same f (fin s m d) (fin t n g) p q z e =
    let a = m * up d * down g in
    let b = n * up g * down d in
    let level : a ≡ b = eqb-true a b (first_of (eqb a b) (beq s t || eqb a 0) e) in
    let some : eqb a 0 ≡ true → ⊥ = λ k. true≢false (sym (zero_equal t n g (none_of (n * up g) (down d) (down_pos d) (sym level ∙ eqb-true a 0 k))) ∙ z) in
    let sign : s ≡ t = beq_same s t (or_left (beq s t) (eqb a 0) some (second_of (eqb a b) (beq s t || eqb a 0) e)) in
    value_unique f (fin s m d) (fin t n g) t (n * up g) (down g) (down_pos g) p q (sign, level) (refl, refl)

-- ---- lists of one number

-- a list that has the number a in every place
pub same_list : (l : List Float) (a : Float) → ((i : ℕ) → i < length l → get_or l i nan ≡ a) → l ≡ replicate (length l) a
same_list [] a h = refl
same_list (x ∷ l) a h =
    ap₂ (λ (y : Float) (k : List Float). y ∷ k) (h 0 (first (length l))) (same_list l a (λ i k. h (suc i) (more i (length l) k)))
  where
    more : (i n : ℕ) → i < n → suc i < suc n
    more i n k = omega arith

    first : (n : ℕ) → 0 < suc n
    first n = omega arith

-- a test of all places is a test of one
pub all_once : (p : Float → Bool) (n : ℕ) (a : Float) → 0 < n → all p (replicate n a) ≡ p a
all_once p zero a h = absurd (not-suc-le-zero h)
all_once p (suc n) a h = go (p a) refl
  where
    always : (n : ℕ) → p a ≡ true → all p (replicate n a) ≡ true
    always zero e = refl
    always (suc n) e = ap₂ ◌&&◌ e (always n e)

    go : (b : Bool) → p a ≡ b → p a && all p (replicate n a) ≡ p a
    go true e = ap₂ ◌&&◌ e (always n e) ∙ sym e
    go false e = ap (λ (b : Bool). b && all p (replicate n a)) e ∙ sym e
