-- The cubic with its third coefficient as a difference: the same number, for samples that fit. Assumes nothing.
use mathlib.Core.Path.{◌≡◌, refl, sym, ap, ap₂, ◌∙◌, subst}
use Prim.Native.Nat.{ℕ, zero, suc, ◌+◌, ◌-◌, ◌*◌, ◌<◌, ◌≤◌}
use native.Mathlib.Nat.{zero-mul, mul-pos, zero-lt-suc}
use native.Mathlib.Omega.{arith}
use mathlib.Core.Bool.{Bool, true, false, ◌&&◌, cond}
use lib.IntN.{ℤ, pos, negsuc}
use lib.Dec.{T, ltb, eqb, eqb→eq}
use borrow.Author.Tests.{ltb-true, ltb-false}
use lib.Ieee.{Float, nan, inf, fin, Format, binary32, up, down, unlike, round, neg, sum, add, sub, mul, fits}
use lib.Ieee.Fits.{up_pos, down_pos, neg-fits, add-fits, sub-fits, mul-fits}
use Rattle.numbers.proofs.Signs.{clear, round_clear, mul_clear}
use Rattle.numbers.proofs.Bounds.{round_neg}
use Rattle.numbers.proofs.Silence.{round_positive_zero, mul_positive_zero}
use Rattle.numbers.proofs.Products.{neg_neg}
use Rattle.frame.specs.Frames.{cubic}
use Rattle.frame.proofs.Difference.{Swapped, turned, nought, sub_swap, as_difference}
use Rattle.frame.proofs.MinusZero.{minus_zero, clear_not, add_minus}

-- ---- a zero of either sign, added

under : (a z : ℕ) → z ≡ 0 → a < z → ⊥
under a z e h = omega arith

flat : (a z : ℕ) → z ≡ 0 → a + z ≡ a - z
flat a z e = omega arith

flat_left : (a z : ℕ) → z ≡ 0 → a - z ≡ z + a
flat_left a z e = omega arith

none_left : (a z : ℕ) → z ≡ 0 → a ≤ z → z - a ≡ z + a
none_left a z e h = omega arith

some : (a z : ℕ) → z ≡ 0 → 0 < a → a ≤ z → ⊥
some a z e h k = omega arith

sides : (f : Format) (s : Bool) (a z c : ℕ) → z ≡ 0 → (s ≡ true → 0 < a) → sum f s a false z c ≡ sum f s a true z c
unfolding sum
sides f false a z c e h = go (ltb a z) refl
  where
    go : (p : Bool) → ltb a z ≡ p → round f false (a + z) c ≡ cond p (round f true (z - a) c) (round f false (a - z) c)
    go true q = absurd (under a z e (ltb-true a z q))
    go false q = ap (λ (k : ℕ). round f false k c) (flat a z e)
sides f true a z c e h = go (ltb a z) (ltb z a) refl refl
  where
    go : (p q : Bool) → ltb a z ≡ p → ltb z a ≡ q → cond p (round f false (z - a) c) (round f (true && q) (a - z) c) ≡ round f true (a + z) c
    go true q i j = absurd (under a z e (ltb-true a z i))
    go false true i j = ap (λ (k : ℕ). round f true k c) (sym (flat a z e))
    go false false i j = absurd (some a z e (h refl) (ltb-false z a j))

lefts : (f : Format) (s : Bool) (z a c : ℕ) → z ≡ 0 → (s ≡ true → 0 < a) → sum f true z s a c ≡ sum f false z s a c
unfolding sum
lefts f false z a c e h = go (ltb z a) (ltb a z) refl refl
  where
    go : (p q : Bool) → ltb z a ≡ p → ltb a z ≡ q → cond p (round f false (a - z) c) (round f (true && q) (z - a) c) ≡ round f false (z + a) c
    go true q i j = ap (λ (k : ℕ). round f false k c) (flat_left a z e)
    go false true i j = absurd (under a z e (ltb-true a z j))
    go false false i j = ap (λ (k : ℕ). round f false k c) (none_left a z e (ltb-false z a i))
lefts f true z a c e h = go (ltb z a) refl
  where
    go : (p : Bool) → ltb z a ≡ p → round f true (z + a) c ≡ cond p (round f true (a - z) c) (round f false (z - a) c)
    go true i = ap (λ (k : ℕ). round f true k c) (sym (flat_left a z e))
    go false i = absurd (some a z e (h refl) (ltb-false z a i))

nothing : (u d : ℕ) → 0 * u * d ≡ 0
nothing u d = ap (λ (z : ℕ). z * d) (zero-mul u) ∙ zero-mul d

-- where it is not minus zero, its digits are some if it is negative
digits : (s : Bool) (m : ℕ) (e : ℤ) (d : ℕ) → 0 < d → (T (s && eqb m 0) → ⊥) → s ≡ true → 0 < m * up e * d
digits s zero e d D n i = absurd (n (subst (λ (b : Bool). T (b && eqb 0 0)) (sym i) tt))
digits s (suc m) e d D n i = mul-pos (mul-pos (zero-lt-suc m) (up_pos e)) D

right_zero : (f : Format) (u : Float) → (T (minus_zero u) → ⊥) → add f u (fin false 0 (pos 0)) ≡ add f u (fin true 0 (pos 0))
unfolding add minus_zero
right_zero f nan n = refl
right_zero f (inf s) n = refl
right_zero f (fin s m e) n = sides f s (m * up e * down (pos 0)) (0 * up (pos 0) * down e) (down e * down (pos 0)) (nothing (up (pos 0)) (down e)) (digits s m e (down (pos 0)) (down_pos (pos 0)) n)

left_zero : (f : Format) (c : Float) → (T (minus_zero c) → ⊥) → add f (fin true 0 (pos 0)) c ≡ add f (fin false 0 (pos 0)) c
unfolding add minus_zero
left_zero f nan n = refl
left_zero f (inf s) n = refl
left_zero f (fin s m e) n = lefts f s (0 * up (pos 0) * down e) (m * up e * down (pos 0)) (down (pos 0) * down e) (nothing (up (pos 0)) (down e)) (digits s m e (down (pos 0)) (down_pos (pos 0)) n)

-- ---- both zeros times a fraction, added to what is not minus zero

either : (f : Format) (s t : Bool) (c : Float) → (T (minus_zero c) → ⊥) → add f (fin s 0 (pos 0)) c ≡ add f (fin t 0 (pos 0)) c
either f true true c n = refl
either f true false c n = left_zero f c n
either f false true c n = sym (left_zero f c n)
either f false false c n = refl

zero_times : (f : Format) (s t : Bool) (n : ℕ) (d : ℤ) → mul f (fin s 0 (pos 0)) (fin t n d) ≡ fin (unlike s t) 0 (pos 0)
unfolding mul
zero_times f s t n d = ap (λ (k : ℕ). round f (unlike s t) k (down (pos 0) * down d)) (nothing (up (pos 0)) (n * up d)) ∙ round_positive_zero f (unlike s t) (down (pos 0) * down d) (mul-pos (down_pos (pos 0)) (down_pos d))

by_nan : (f : Format) (c : Float) → add f (mul f (fin true 0 (pos 0)) nan) c ≡ add f (mul f (fin false 0 (pos 0)) nan) c
unfolding mul
by_nan f c = refl

by_inf : (f : Format) (t : Bool) (c : Float) → add f (mul f (fin true 0 (pos 0)) (inf t)) c ≡ add f (mul f (fin false 0 (pos 0)) (inf t)) c
unfolding mul
by_inf f t c = refl

scaled : (f : Format) (x c : Float) → (T (minus_zero c) → ⊥) → add f (mul f (fin true 0 (pos 0)) x) c ≡ add f (mul f (fin false 0 (pos 0)) x) c
scaled f nan c n = by_nan f c
scaled f (inf t) c n = by_inf f t c
scaled f (fin t k d) c n =
    ap (λ (z : Float). add f z c) (zero_times f true t k d) ∙ either f (unlike true t) (unlike false t) c n ∙ sym (ap (λ (z : Float). add f z c) (zero_times f false t k d))

-- ---- the coefficients

abbrev half : Float
half = fin false 1 (negsuc 0)

abbrev weight : Float
weight = fin false 3 (negsuc 0)

abbrev ends : Float → Float → Float
ends a d = mul binary32 (sub binary32 d a) half

abbrev second : Float → Float → Float → Float → Float
second a b c d =
    sub binary32 (add binary32 (sub binary32 a (mul binary32 b (fin false 5 (negsuc 0)))) (mul binary32 c (fin false 1 (pos 1)))) (mul binary32 d half)

add_clear : (x y : Float) → T (clear x) → T (clear y) → T (clear (add binary32 x y))
unfolding add sum
add_clear nan y h k = tt
add_clear (inf s) nan h k = tt
add_clear (inf false) (inf false) h k = tt
add_clear (inf true) (inf t) h k = absurd h
add_clear (inf false) (inf true) h k = absurd k
add_clear (inf true) (fin t n d) h k = absurd h
add_clear (inf false) (fin t n d) h k = tt
add_clear (fin s m e) nan h k = tt
add_clear (fin s m e) (inf true) h k = absurd k
add_clear (fin s m e) (inf false) h k = tt
add_clear (fin true m e) (fin t n d) h k = absurd h
add_clear (fin false m e) (fin true n d) h k = absurd k
add_clear (fin false m e) (fin false n d) h k = round_clear binary32 (m * up e * down d + n * up d * down e) (down e * down d)

minus_neg : (a : Float) → T (minus_zero a) → T (clear (neg a))
unfolding minus_zero neg
minus_neg nan z = absurd z
minus_neg (inf s) z = absurd z
minus_neg (fin true m e) z = tt
minus_neg (fin false m e) z = absurd z

-- a half that is zero once it is negated comes from what is not negative
halved : (d : Float) → T (minus_zero (neg (mul binary32 d half))) → T (clear d)
unfolding mul minus_zero neg
halved nan z = tt
halved (inf true) z = absurd z
halved (inf false) z = tt
halved (fin false m e) z = tt
halved (fin true m e) z = absurd (clear_not (neg (round binary32 true (m * up e * (1 * up (negsuc 0))) (down e * down (negsuc 0)))) (subst (λ (x : Float). T (clear x)) (sym (ap neg (round_neg binary32 (m * up e * (1 * up (negsuc 0))) (down e * down (negsuc 0))) ∙ neg_neg (round binary32 false (m * up e * (1 * up (negsuc 0))) (down e * down (negsuc 0))))) (round_clear binary32 (m * up e * (1 * up (negsuc 0))) (down e * down (negsuc 0)))) z)

-- the ends and the second coefficient are not both minus zero
not_both : (a b c d : Float) → T (fits binary32 a) → T (minus_zero (ends a d)) → T (minus_zero (second a b c d)) → ⊥
unfolding sub
not_both a b c d t u s =
    let r = mul binary32 b (fin false 5 (negsuc 0)) in
    let n = mul binary32 c (fin false 1 (pos 1)) in
    let q = mul binary32 d half in
    let m = sub binary32 a r in
    let x = add_minus (add binary32 m n) (neg q) (add-fits binary32 m n) (neg-fits binary32 q (mul-fits binary32 d half)) s in
    let y = add_minus m n (sub-fits binary32 a r) (mul-fits binary32 c (fin false 1 (pos 1))) x.0 in
    let w = add_minus a (neg r) t (neg-fits binary32 r (mul-fits binary32 b (fin false 5 (negsuc 0)))) y.0 in
    clear_not (ends a d) (mul_clear binary32 (sub binary32 d a) half (add_clear d (neg a) (halved d x.1) (minus_neg a w.0)) tt) u

none : (m : ℕ) → T (eqb m 0) → (u d : ℕ) → m * u * d ≡ 0
none m z u d = ap (λ (k : ℕ). k * u * d) (eqb→eq m 0 z) ∙ nothing u d

minus_plus : (u : Float) → T (minus_zero u) → add binary32 u (fin false 0 (pos 0)) ≡ fin false 0 (pos 0)
unfolding add sum minus_zero
minus_plus nan z = absurd z
minus_plus (inf s) z = absurd z
minus_plus (fin false m e) z = absurd z
minus_plus (fin true m e) z =
    ap₂ (λ (a b : ℕ). sum binary32 true a false b (down e * down (pos 0))) (none m z (up e) (down (pos 0))) (nothing (up (pos 0)) (down e))
    ∙ round_positive_zero binary32 false (down e * down (pos 0)) (mul-pos (down_pos e) (down_pos (pos 0)))

minus_minus : (u : Float) → T (minus_zero u) → add binary32 u (fin true 0 (pos 0)) ≡ fin true 0 (pos 0)
unfolding add sum minus_zero
minus_minus nan z = absurd z
minus_minus (inf s) z = absurd z
minus_minus (fin false m e) z = absurd z
minus_minus (fin true m e) z =
    ap₂ (λ (a b : ℕ). sum binary32 true a true b (down e * down (pos 0))) (none m z (up e) (down (pos 0))) (nothing (up (pos 0)) (down e))
    ∙ round_positive_zero binary32 true (down e * down (pos 0)) (mul-pos (down_pos e) (down_pos (pos 0)))

-- ---- the law

-- with the third coefficient x, at f
abbrev so_far_lem : Float → Float → Float → Float → Float → Float → Float
so_far_lem a b c d f x = add binary32 (mul binary32 x f) (second a b c d)

as_written : (a d t : Float) → t ≡ fin false 0 (pos 0) → add binary32 (ends a d) (mul binary32 t weight) ≡ add binary32 (ends a d) (fin false 0 (pos 0))
as_written a d t e = ap (λ (z : Float). add binary32 (ends a d) z) (ap (λ (z : Float). mul binary32 z weight) e ∙ mul_positive_zero binary32 weight tt)

as_turned : (a d t : Float) → t ≡ fin false 0 (pos 0) → sub binary32 (ends a d) (mul binary32 t weight) ≡ add binary32 (ends a d) (fin true 0 (pos 0))
unfolding sub neg
as_turned a d t e = ap (λ (z : Float). sub binary32 (ends a d) z) (ap (λ (z : Float). mul binary32 z weight) e ∙ mul_positive_zero binary32 weight tt)

third : (a b c d f : Float) → T (fits binary32 a) → Swapped (sub binary32 b c) (sub binary32 c b)
    → so_far_lem a b c d f (sub binary32 (ends a d) (mul binary32 (sub binary32 c b) weight)) ≡ so_far_lem a b c d f (add binary32 (ends a d) (mul binary32 (sub binary32 b c) weight))
third a b c d f t (turned e) = ap (so_far_lem a b c d f) (as_difference binary32 (ends a d) (sub binary32 b c) (sub binary32 c b) 3 (negsuc 0) e)
third a b c d f t (nought p q) =
    ap (so_far_lem a b c d f) (as_turned a d (sub binary32 c b) q) ∙ go (minus_zero (ends a d)) refl ∙ sym (ap (so_far_lem a b c d f) (as_written a d (sub binary32 b c) p))
  where
    go : (m : Bool) → minus_zero (ends a d) ≡ m → so_far_lem a b c d f (add binary32 (ends a d) (fin true 0 (pos 0))) ≡ so_far_lem a b c d f (add binary32 (ends a d) (fin false 0 (pos 0)))
    go false i = ap (so_far_lem a b c d f) (sym (right_zero binary32 (ends a d) (λ z. subst T i z)))
    go true i =
        let u : T (minus_zero (ends a d)) = subst T (sym i) tt in
        ap (so_far_lem a b c d f) (minus_minus (ends a d) u)
        ∙ scaled binary32 f (second a b c d) (not_both a b c d t u)
        ∙ sym (ap (so_far_lem a b c d f) (minus_plus (ends a d) u))

-- the cubic as it is computed
pub cubic_turned : (a b c d f : Float) → T (fits binary32 a)
    → add binary32 (mul binary32 (add binary32 (mul binary32 (so_far_lem a b c d f (sub binary32 (ends a d) (mul binary32 (sub binary32 c b) weight))) f) (mul binary32 (sub binary32 c a) half)) f) b ≡ cubic a b c d f
unfolding cubic
cubic_turned a b c d f t = ap (λ (z : Float). add binary32 (mul binary32 (add binary32 (mul binary32 z f) (mul binary32 (sub binary32 c a) half)) f) b) (third a b c d f t (sub_swap binary32 b c))
