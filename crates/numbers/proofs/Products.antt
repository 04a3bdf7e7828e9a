-- The sign of a product: factors may be exchanged, a negative factor makes a negative product, and the magnitude of a
-- product is the product with the factor's magnitude. A magnitude is bounded if the number is, on both sides. Assumes nothing.
use Rattle.std.proofs.Common.{◌≡◌, ℕ, ◌+◌, ◌*◌, ◌≤◌, Bool, true, false, cond, not, ◌&&◌, ◌||◌, T, eqb, ltb, ℤ, pos, sym, refl, ap, ◌∙◌, ap₂, mul_comm, arith, ltb-false, eq-eqb, ne_eqb, eqb-true}
use mathlib.Core.Bool.{false≢true}
use lib.Ieee.{Float, nan, inf, fin, Format, binary64, up, down, unlike, round, neg, mul, lt, le, eq, of_int}
use borrow.Author.Tests.{eqb-false}
use Rattle.numbers.specs.Words.{positive_zero, magnitude, advance}
use Rattle.numbers.proofs.Signs.{clear, round_clear, mul_clear}
use Rattle.numbers.proofs.Bounds.{round_neg}
use Rattle.numbers.proofs.Fractions.{above_clear}

-- ---- negatives

pub neg_neg : (x : Float) → neg (neg x) ≡ x
unfolding neg
neg_neg nan = refl
neg_neg (inf true) = refl
neg_neg (inf false) = refl
neg_neg (fin true m e) = refl
neg_neg (fin false m e) = refl

pub round_not : (f : Format) (s : Bool) (a c : ℕ) → round f (not s) a c ≡ neg (round f s a c)
round_not f false a c = round_neg f a c
round_not f true a c = sym (ap neg (round_neg f a c) ∙ neg_neg (round f false a c))

-- ---- products

unlike_comm : (s t : Bool) → unlike s t ≡ unlike t s
unlike_comm true true = refl
unlike_comm true false = refl
unlike_comm false true = refl
unlike_comm false false = refl

unlike_not : (s t : Bool) → unlike (not s) t ≡ not (unlike s t)
unlike_not true true = refl
unlike_not true false = refl
unlike_not false true = refl
unlike_not false false = refl

pub mul_swap : (f : Format) (x y : Float) → mul f x y ≡ mul f y x
unfolding mul
mul_swap f nan nan = refl
mul_swap f nan (inf t) = refl
mul_swap f nan (fin t n d) = refl
mul_swap f (inf s) nan = refl
mul_swap f (inf s) (inf t) = ap inf (unlike_comm s t)
mul_swap f (inf s) (fin t n d) = ap (λ (u : Bool). cond (eqb n 0) nan (inf u)) (unlike_comm s t)
mul_swap f (fin s m e) nan = refl
mul_swap f (fin s m e) (inf t) = ap (λ (u : Bool). cond (eqb m 0) nan (inf u)) (unlike_comm s t)
mul_swap f (fin s m e) (fin t n d) =
    ap (λ (u : Bool). round f u (m * up e * (n * up d)) (down e * down d)) (unlike_comm s t)
    ∙ ap₂ (λ (a c : ℕ). round f (unlike t s) a c) (mul_comm (m * up e) (n * up d)) (mul_comm (down e) (down d))

infinite_not : (b u : Bool) → cond b nan (inf (not u)) ≡ neg (cond b nan (inf u))
unfolding neg
infinite_not true u = refl
infinite_not false u = refl

pub mul_neg : (f : Format) (x y : Float) → mul f (neg x) y ≡ neg (mul f x y)
unfolding mul neg
mul_neg f nan y = refl
mul_neg f (inf s) nan = refl
mul_neg f (inf s) (inf t) = ap inf (unlike_not s t)
mul_neg f (inf s) (fin t n d) = ap (λ (u : Bool). cond (eqb n 0) nan (inf u)) (unlike_not s t) ∙ infinite_not (eqb n 0) (unlike s t)
mul_neg f (fin s m e) nan = refl
mul_neg f (fin s m e) (inf t) = ap (λ (u : Bool). cond (eqb m 0) nan (inf u)) (unlike_not s t) ∙ infinite_not (eqb m 0) (unlike s t)
mul_neg f (fin s m e) (fin t n d) =
    ap (λ (u : Bool). round f u (m * up e * (n * up d)) (down e * down d)) (unlike_not s t) ∙ round_not f (unlike s t) (m * up e * (n * up d)) (down e * down d)

-- ---- magnitudes

magnitude_neg : (x : Float) → magnitude (neg x) ≡ magnitude x
unfolding magnitude neg
magnitude_neg nan = refl
magnitude_neg (inf s) = refl
magnitude_neg (fin s m e) = refl

magnitude_same : (x : Float) → T (clear x) → magnitude x ≡ x
unfolding magnitude
magnitude_same nan h = refl
magnitude_same (inf true) h = absurd h
magnitude_same (inf false) h = refl
magnitude_same (fin true m e) h = absurd h
magnitude_same (fin false m e) h = refl

module _ (f : Format) (y : Float) (c : T (clear y)) where
  kept : (z : Float) → T (clear z) → mul f z y ≡ magnitude (mul f z y)
  kept z h = sym (magnitude_same (mul f z y) (mul_clear f z y h c))

  turned : (z : Float) → T (clear z) → mul f z y ≡ magnitude (mul f (neg z) y)
  turned z h = kept z h ∙ sym (ap magnitude (mul_neg f z y) ∙ magnitude_neg (mul f z y))

  pub mul_magnitude : (x : Float) → mul f (magnitude x) y ≡ magnitude (mul f x y)
  unfolding magnitude neg
  mul_magnitude nan = kept nan tt
  mul_magnitude (inf true) = turned (inf false) tt
  mul_magnitude (inf false) = kept (inf false) tt
  mul_magnitude (fin true m e) = turned (fin false m e) tt
  mul_magnitude (fin false m e) = kept (fin false m e) tt

-- the signed product of an advance
abbrev pub product : ℕ → Float → Float → Float
product hz rate step = mul binary64 (mul binary64 (of_int binary64 (pos hz)) rate) step

-- an advance is the magnitude of the signed product
pub advance_magnitude : (hz : ℕ) (rate step : Float) → T (lt positive_zero step) → advance hz rate step ≡ magnitude (product hz rate step)
unfolding advance of_int
advance_magnitude hz rate step t =
    let h = round binary64 false hz 1 in
    ap (λ (z : Float). mul binary64 z step)
    (mul_swap binary64 h (magnitude rate)
    ∙ mul_magnitude binary64 h (round_clear binary64 hz 1) rate
    ∙ ap magnitude (mul_swap binary64 rate h))
    ∙ mul_magnitude binary64 step (above_clear step t) (mul binary64 h rate)

-- ---- a magnitude's bound, on both sides

eqb_swap : (a b : ℕ) → eqb a b ≡ eqb b a
eqb_swap a b = go (eqb a b) refl
  where
    go : (t : Bool) → eqb a b ≡ t → t ≡ eqb b a
    go true e = sym (eq-eqb b a (sym (eqb-true a b e)))
    go false e = sym (ne_eqb b a (λ h. eqb-false a b e (sym h)))

-- what is not positive is at most what is not negative
apart : (a b : ℕ) → (ltb 0 (a + b) || (eqb a b && eqb a 0)) ≡ true
apart a b = go (ltb 0 (a + b)) refl
  where
    none : (a b : ℕ) → a + b ≤ 0 → a ≡ 0
    none a b h = omega arith

    equal : (a b : ℕ) → a + b ≤ 0 → a ≡ b
    equal a b h = omega arith

    go : (t : Bool) → ltb 0 (a + b) ≡ t → (t || (eqb a b && eqb a 0)) ≡ true
    go true e = refl
    go false e = let h = ltb-false 0 (a + b) e in ap₂ ◌&&◌ (eq-eqb a b (equal a b h)) (eq-eqb a 0 (none a b h))

and_true : (a b : Bool) → b ≡ true → a ≡ a && b
and_true true b e = sym e
and_true false b e = refl

and_from : (a b c : Bool) → a ≡ true → c ≡ b → c ≡ a && b
and_from true b c e h = h
and_from false b c e h = absurd (false≢true e)

pub magnitude_most : (x : Float) (n : ℕ) (d : ℤ) → le (magnitude x) (fin false n d) ≡ (le x (fin false n d) && le (fin true n d) x)
unfolding magnitude le lt eq
magnitude_most nan n d = refl
magnitude_most (inf true) n d = refl
magnitude_most (inf false) n d = refl
magnitude_most (fin true m e) n d =
    let a = m * up e * down d in
    let b = n * up d * down e in
    and_from _ _ _ (apart a b) (ap (λ (t : Bool). ltb a b || (t && true)) (eqb_swap a b))
magnitude_most (fin false m e) n d =
    let a = m * up e * down d in
    let b = n * up d * down e in
    and_true _ _ (apart b a)
