-- The loop that subtracts 1: each difference is exact, so each iteration subtracts 1 from the whole part, and the rest is proper.
-- `Spinning` is its invariant, `spun` one iteration, `spun_out` its end. Assumes nothing.
use Rattle.std.proofs.Common.{◌≡◌, ℕ, zero, suc, ◌+◌, ◌-◌, ◌*◌, ◌/◌, ◌^◌, ◌<◌, ◌≤◌, Bool, true, false, ◌&&◌, ◌||◌, T, eqb, ltb, ℤ, pos, negsuc, sym, refl, ap, ◌∙◌, subst, inl, inr, true≢false, le_trans, le_refl, lt_of_lt_of_le, lt_of_le_of_lt, le_of_lt, mul-le-mul_right, mul_assoc, div-lt_iff_lt-mul, mul-le-mul, eq-or-lt_of_le, mul-lt-mul_of_pos_right, one-mul, le-div_iff_mul-le, zero-mul, mul-one, div-mul-le_self, sub-le, add-one, arith, lit<, lit≤, pow_pos, pow_mono, pow-add, ltb-false}
use native.Mathlib.Nat.{zero-sub, div-eq-sub-div, div-eq_of_lt}
use lib.Ieee.{Float, nan, inf, fin, binary64, up, down, round, add, sub, le, fits}
use lib.Ieee.Fits.{down_pos, sub-fits, add-fits}
use lib.Ieee.Exact.{HasValue, round_exact}
use lib.Ieee.Nearest.{div_same}
use borrow.Author.Tests.{eqb-false}
use Rattle.numbers.specs.Words.{one, finite_clear, proper, whole, taken, part}
use Rattle.numbers.proofs.Values.{down_le, digits_lt, sub_at, pow_le_back, back}
use Rattle.numbers.proofs.Fractions.{le_cross, cross_lt, add_most, add_finite_clear, whole_257}

-- ---- x - 1 is exact from 1 up, below 2 ^ 53
drop_one : (m : ℕ) (e : ℤ) → T (fits binary64 (fin false m e)) → m * up e < 2 ^ 53 * down e → HasValue (round binary64 false (m * up e - down e) (down e)) false (m * up e - down e) (down e)
drop_one m (pos a) t hi =
    let q = m * 2 ^ a - 1 in
    let small : q < 2 ^ 53 = lt_of_le_of_lt (sub-le (m * 2 ^ a) 1) hi in
    round_exact binary64 false q 1 q 1074 (lit< tt) small (lt_of_lt_of_le (mul-lt-mul_of_pos_right small (pow_pos 1074)) (lit≤ tt)) (sym (mul-one (q * 2 ^ 1074)))
drop_one zero (negsuc a) t hi =
    let none : zero * 1 - 2 ^ suc a ≡ 0 = ap (λ (z : ℕ). z - 2 ^ suc a) (zero-mul 1) ∙ zero-sub (2 ^ suc a) in
    subst (λ (z : ℕ). HasValue (round binary64 false z (2 ^ suc a)) false z (2 ^ suc a)) (sym none)
    (round_exact binary64 false 0 (2 ^ suc a) 0 0 (pow_pos (suc a)) (lit< tt) (lit< tt) (sym (zero-mul (2 ^ suc a))))
drop_one (suc m) (negsuc a) t hi =
    let h : suc a ≤ 1074 = pow_le_back (suc a) 1074 (down_le binary64 false m (negsuc a) t) in
    let q = suc m * 1 - 2 ^ suc a in
    let small : q < 2 ^ 53 = lt_of_le_of_lt (sub-le (suc m * 1) (2 ^ suc a)) (subst (λ (x : ℕ). x < 2 ^ 53) (sym (mul-one (suc m))) (digits_lt binary64 false (suc m) (negsuc a) t)) in
    let all : 2 ^ 1074 ≡ 2 ^ (1074 - suc a) * 2 ^ suc a = ap (λ (x : ℕ). 2 ^ x) (sym (back 1074 (suc a) h)) ∙ pow-add 2 (1074 - suc a) (suc a) in
    round_exact binary64 false q (2 ^ suc a) q (1074 - suc a) (pow_pos (suc a)) small
    (lt_of_le_of_lt (mul-le-mul (le_refl q) (pow_mono (sub-le 1074 (suc a)))) (lt_of_lt_of_le (mul-lt-mul_of_pos_right small (pow_pos 1074)) (lit≤ tt)))
    (ap (λ (x : ℕ). q * x) all ∙ sym (mul_assoc q (2 ^ (1074 - suc a)) (2 ^ suc a)))

sub_one : (m : ℕ) (e : ℤ) → T (fits binary64 (fin false m e)) → down e ≤ m * up e → m * up e < 2 ^ 53 * down e → HasValue (sub binary64 (fin false m e) one) false (m * up e - down e) (down e)
sub_one m e t lo hi =
    subst (λ (z : Float). HasValue z false (m * up e - down e) (down e))
    (sym (sub_at binary64 (fin false m e) one (m * up e) (down e) (down e) (down_pos e) lo (refl, refl) (refl, one-mul (down e) ∙ sym (mul-one (down e)))))
    (drop_one m e t hi)

-- ---- one iteration: x - 1 is finite and clear, and has one step less to go
pub record Turn (x y : Float) : Type 0 where
  pub finite_clear : T (finite_clear y)
  pub whole : whole x ≡ suc (whole y)

finite_clear_of_value : (y : Float) (a c : ℕ) → HasValue y false a c → T (finite_clear y)
finite_clear_of_value nan a c v = absurd v
finite_clear_of_value (inf s) a c v = absurd v
finite_clear_of_value (fin true n d) a c v = absurd (true≢false v.0)
finite_clear_of_value (fin false n d) a c v = tt

whole_of_value : (y : Float) (a c : ℕ) → 0 < c → HasValue y false a c → whole y ≡ a / c
unfolding whole
whole_of_value nan a c p v = absurd v
whole_of_value (inf s) a c p v = absurd v
whole_of_value (fin s n d) a c p v = div_same (n * up d) (down d) a c (down_pos d) p v.1

pub turn : (x : Float) (n : ℕ) → T (finite_clear x) → T (fits binary64 x) → whole x ≡ suc n → n < 1000 → Turn x (sub binary64 x one)
unfolding whole
turn nan n h t e k = absurd h
turn (inf s) n h t e k = absurd h
turn (fin true m e) n h t w k = absurd h
turn (fin false m e) n h t w k =
    let a = m * up e in
    let c = down e in
    let low : c ≤ a = reach a c n w in
    let v = sub_one m e t low (under_top a c n (down_pos e) w k) in
    record {
      finite_clear = finite_clear_of_value (sub binary64 (fin false m e) one) (a - c) c v;
      whole = div-eq-sub-div (down_pos e) low ∙ add-one ((a - c) / c) ∙ ap suc (sym (whole_of_value (sub binary64 (fin false m e) one) (a - c) c (down_pos e) v));
    }
  where
    reach : (a c n : ℕ) → a / c ≡ suc n → c ≤ a
    reach a c n e = subst (λ (z : ℕ). z ≤ a) (one-mul c) (le_trans (mul-le-mul_right c (one_le (a / c) n e)) (div-mul-le_self a c))
      where
        one_le : (q n : ℕ) → q ≡ suc n → 1 ≤ q
        one_le q n e = omega arith

    under_top : (a c n : ℕ) → 0 < c → a / c ≡ suc n → n < 1000 → a < 2 ^ 53 * c
    under_top a c n p e k = (div-lt_iff_lt-mul p).0 (lt_of_lt_of_le (few (a / c) n e k) (lit≤ tt))
      where
        few : (q n : ℕ) → q ≡ suc n → n < 1000 → q < 1001
        few q n e k = omega arith

-- ---- the rest is proper
stop_proper : (x : Float) → T (finite_clear x) → whole x ≡ 0 → T (proper x)
unfolding whole
stop_proper nan h e = absurd h
stop_proper (inf s) h e = absurd h
stop_proper (fin true m e) h w = absurd h
stop_proper (fin false m e) h w = cross_lt m e 1 (pos 0) (tidy (m * up e) (down e) ((div-lt_iff_lt-mul (down_pos e)).0 (subst (λ (q : ℕ). q < 1) (sym w) (lit< tt))))
  where
    tidy : (a c : ℕ) → a < 1 * c → a * 1 < 1 * c
    tidy a c h = omega arith

taken_proper : (n : ℕ) (x : Float) → T (finite_clear x) → T (fits binary64 x) → whole x ≡ n → n < 1000 → T (proper (taken n x))
unfolding taken
taken_proper zero x h t e k = stop_proper x h e
taken_proper (suc n) x h t e k =
    let r = turn x n h t e (le_of_lt k) in
    taken_proper n (sub binary64 x one) r.finite_clear (sub-fits binary64 x one) (less (sym r.whole ∙ e)) (le_of_lt k)
  where
    less : {a b : ℕ} → suc a ≡ suc b → a ≡ b
    less e = omega arith

pub part_proper : (x : Float) → T (finite_clear x) → T (le x (fin false 257 (pos 0))) → T (fits binary64 x) → T (proper (part x))
unfolding part
part_proper x h l t = taken_proper (whole x) x h t refl (whole_257 x h l)

pub sum_proper : (f a : Float) → T (proper f) → T (finite_clear a) → T (le a (fin false 1 (pos 8))) → T (proper (part (add binary64 f a)))
sum_proper f a p l h = part_proper (add binary64 f a) (add_finite_clear f a p l h) (add_most f a p l h).1 (add-fits binary64 f a)

-- ---- the test y ≥ 1
pub go_on : (y : Float) → T (finite_clear y) → le one y ≡ true → whole y ≡ suc (whole y - 1)
unfolding whole
go_on nan h e = absurd h
go_on (inf s) h e = absurd h
go_on (fin true m d) h e = absurd h
go_on (fin false m d) h e = some (m * up d / down d) ((le-div_iff_mul-le (down_pos d)).1 (tidy (down d) (m * up d) (le_cross 1 (pos 0) m d (subst T (sym e) tt))))
  where
    tidy : (c a : ℕ) → 1 * c ≤ a * 1 → 1 * c ≤ a
    tidy c a h = omega arith

    some : (n : ℕ) → 1 ≤ n → n ≡ suc (n - 1)
    some n h = omega arith

or_false : (a b : Bool) → (a || b) ≡ false → (a ≡ false) × (b ≡ false)
or_false true b e = absurd (true≢false e)
or_false false b e = (refl, e)

and_true_false : (b : Bool) → (b && true) ≡ false → b ≡ false
and_true_false true e = e
and_true_false false e = e

pub stop : (y : Float) → T (finite_clear y) → le one y ≡ false → whole y ≡ 0
unfolding whole le
stop nan h e = absurd h
stop (inf s) h e = absurd h
stop (fin true m d) h e = absurd h
stop (fin false m d) h e =
    let o = or_false (ltb (1 * down d) (m * up d * 1)) (eqb (1 * down d) (m * up d * 1) && true) e in
    div-eq_of_lt (less (down d) (m * up d) (ltb-false (1 * down d) (m * up d * 1) o.0) (eqb-false (1 * down d) (m * up d * 1) (and_true_false (eqb (1 * down d) (m * up d * 1)) o.1)))
  where
    less : (c a : ℕ) → a * 1 ≤ 1 * c → (1 * c ≡ a * 1 → ⊥) → a < c
    less c a h n = elim (eq-or-lt_of_le h) [ inl e ↦ absurd (n (sym e)) | inr l ↦ tidy l ]
      where
        tidy : a * 1 < 1 * c → a < c
        tidy l = omega arith

-- ---- the loop: n steps are made, and y is left of x
pub record Spinning (x y : Float) (n : ℕ) : Type 0 where
  pub finite_clear : T (finite_clear y)
  pub fits : T (fits binary64 y)
  pub fraction : part y ≡ part x
  pub sum : n + whole y ≡ whole x
  pub few : whole x < 1000

part_on : (y : Float) (n : ℕ) → whole y ≡ suc n → whole (sub binary64 y one) ≡ n → part (sub binary64 y one) ≡ part y
unfolding part taken
part_on y n e f = ap (λ (k : ℕ). taken k (sub binary64 y one)) f ∙ sym (ap (λ (k : ℕ). taken k y) e)

-- the sum that a frame begins with
pub spinning : (f a : Float) → T (proper f) → T (finite_clear a) → T (le a (fin false 1 (pos 8))) → Spinning (add binary64 f a) (add binary64 f a) 0
spinning f a p l h =
    let x = add_finite_clear f a p l h in
    record { finite_clear = x; fits = add-fits binary64 f a; fraction = refl; sum = none (whole (add binary64 f a)); few = whole_257 (add binary64 f a) x (add_most f a p l h).1 }
  where
    none : (n : ℕ) → 0 + n ≡ n
    none n = omega arith

-- one iteration
pub spun : (x y : Float) (n : ℕ) → Spinning x y n → le one y ≡ true → Turn y (sub binary64 y one) × Spinning x (sub binary64 y one) (n + 1)
spun x y n h e =
    let w = go_on y h.finite_clear e in
    let r = turn y (whole y - 1) h.finite_clear h.fits w (few (whole y) (whole x) n h.sum h.few) in (
      r,
      record {
        finite_clear = r.finite_clear;
        fits = sub-fits binary64 y one;
        fraction = part_on y (whole (sub binary64 y one)) r.whole refl ∙ h.fraction;
        sum = shift (whole y) (whole (sub binary64 y one)) (whole x) r.whole h.sum;
        few = h.few;
      },
    )
  where
    few : (a b n : ℕ) → n + a ≡ b → b < 1000 → a - 1 < 1000
    few a b n e h = omega arith

    shift : (a b c : ℕ) → a ≡ suc b → n + a ≡ c → n + 1 + b ≡ c
    shift a b c e f = omega arith

-- the end
pub spun_out : (x y : Float) (n : ℕ) → Spinning x y n → le one y ≡ false → (y ≡ part x) × (n ≡ whole x)
unfolding part taken
spun_out x y n h e =
    let w = stop y h.finite_clear e in
    (sym (ap (λ (k : ℕ). taken k y) w) ∙ h.fraction, done (whole y) (whole x) w h.sum)
  where
    done : (a b : ℕ) → a ≡ 0 → n + a ≡ b → n ≡ b
    done a b e f = omega arith
