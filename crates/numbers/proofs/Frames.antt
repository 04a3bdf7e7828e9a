-- Whole numbers from a float, cut off or rounded, as the library's conversion and rounding give them, and that none is above the largest.
-- A whole number up to 2 ^ 53 is a float, so rounding keeps it; a larger one stays at or above 2 ^ 32. Assumes nothing.
use Rattle.std.proofs.Common.{◌≡◌, ℕ, zero, suc, ◌+◌, ◌-◌, ◌*◌, ◌/◌, ◌^◌, ◌<◌, ◌≤◌, min, Bool, true, false, cond, T, ltb, leb, pos, refl, sym, ap, ◌∙◌, subst, not, mul-one, le_trans, le-div_iff_mul-le, arith, lit≤, le→leb, leb→le}
use mathlib.Core.Bool.{false≢true}
use lib.Dec.{nleb→lt}
use lib.Ieee.{Float, Format, nan, inf, fin, binary64, prec, low, emax, up, down, odd, units, round, le, to_unsigned, in_float}
use lib.Ieee.Fits.{down_pos}
use lib.Ieee.Back.{round_whole}
use lib.Ieee.Order.{round_mono}
use Rattle.std.specs.Float.{float_round, round_with}
use Rattle.numbers.specs.Frames.{most, rounded, cut_off}
use Rattle.numbers.proofs.Signs.{clear, round_clear}
use Rattle.numbers.proofs.Values.{le_at, unsigned_of_value}

capped : (q : ℕ) → min (min q (2 ^ 64 - 1)) most ≡ min q most
capped q = omega arith

pub cut_is : (x : Float) → min (to_unsigned 64 x) most ≡ cut_off x
unfolding to_unsigned cut_off
cut_is nan = refl
cut_is (inf true) = refl
cut_is (inf false) = refl
cut_is (fin true m e) = refl
cut_is (fin false m e) = capped (m * up e / down e)

-- ---- a whole number, rounded to a float
-- with its sign set it is 0 or below
odd_set : (d q k l : ℕ) → to_unsigned 64 (odd d true q k l) ≡ 0
unfolding odd to_unsigned
odd_set d zero k l = refl
odd_set d (suc q) k l = refl

units_set : (f : Format) (q k : ℕ) → to_unsigned 64 (units f true q k) ≡ 0
unfolding units
units_set f q k = go (ltb (q * 2 ^ k) (2 ^ (low f + suc (emax f))))
  where
    go : (b : Bool) → to_unsigned 64 (cond b (odd (suc (prec f)) true q k (low f)) (inf true)) ≡ 0
    go true = odd_set (suc (prec f)) q k (low f)
    go false = unfold to_unsigned in refl

round_set : (f : Format) (a b : ℕ) → to_unsigned 64 (round f true a b) ≡ 0
unfolding round
round_set f a b = units_set f _ _

-- at 2 ^ 32 or above, with its sign clear
abbrev big : Float
big = fin false 1 (pos 32)

big_is : round binary64 false (2 ^ 32) 1 ≡ big
unfolding round
big_is = refl

large : (x : Float) → T (clear x) → le big x ≡ true → min (to_unsigned 64 x) most ≡ most
unfolding to_unsigned
large nan c h = unfold le in absurd (false≢true h)
large (inf true) c h = absurd c
large (inf false) c h = refl
large (fin true m e) c h = absurd c
large (fin false m e) c h = capped (m * up e / down e) ∙ cap (m * up e / down e) ((le-div_iff_mul-le (down_pos e)).1 (leb→le (2 ^ 32 * down e) (m * up e) (yes (leb (2 ^ 32 * down e) (m * up e)) (sym (le_at big (fin false m e) (2 ^ 32 * down e) (m * up e) (down e) (down_pos e) (refl, sym (mul-one (2 ^ 32 * down e))) (refl, refl)) ∙ h))))
  where
    cap : (q : ℕ) → 2 ^ 32 ≤ q → min q most ≡ most
    cap q h = omega arith

    yes : (b : Bool) → b ≡ true → T b
    yes b e = subst T (sym e) tt

whole_is : (q : ℕ) → min (to_unsigned 64 (round binary64 false q 1)) most ≡ min q most
whole_is q = go (leb q (2 ^ 53)) refl
  where
    small : (q : ℕ) → q ≤ 2 ^ 53 → q / 1 < 2 ^ 64
    small q h = omega arith

    over : (q : ℕ) → 2 ^ 53 < q → 2 ^ 32 * 1 ≤ q * 1
    over q h = omega arith

    cap : (q : ℕ) → 2 ^ 53 < q → most ≡ min q most
    cap q h = omega arith

    is : (b : Bool) → T b → b ≡ true
    is true t = refl
    is false t = absurd t

    one : (q : ℕ) → q / 1 ≡ q
    one q = omega arith

    go : (b : Bool) → leb q (2 ^ 53) ≡ b → min (to_unsigned 64 (round binary64 false q 1)) most ≡ min q most
    go true e =
        let h = leb→le q (2 ^ 53) (subst T (sym e) tt) in
        ap (λ (n : ℕ). min n most) (unsigned_of_value (round binary64 false q 1) q 1 (lit≤ tt) (round_whole binary64 false q h) (small q h) ∙ one q)
    go false e =
        let h = nleb→lt q (2 ^ 53) (subst (λ (b : Bool). T (not b)) (sym e) tt) in
        large (round binary64 false q 1) (round_clear binary64 q 1)
        (is _ (subst (λ (x : Float). T (le x (round binary64 false q 1))) big_is (round_mono binary64 (2 ^ 32) 1 q 1 (lit≤ tt) (lit≤ tt) (over q h))))
        ∙ cap q h

pub rounded_is : (x : Float) → min (to_unsigned 64 (float_round binary64 x)) most ≡ rounded x
unfolding rounded round_with
rounded_is nan = unfold to_unsigned in refl
rounded_is (inf true) = unfold to_unsigned in refl
rounded_is (inf false) = unfold to_unsigned in refl
rounded_is (fin true m e) = ap (λ (n : ℕ). min n most) (round_set binary64 _ 1)
rounded_is (fin false m e) = whole_is _

-- ---- no frame index is above the largest
capped_le : (q : ℕ) → min q most ≤ most
capped_le q = omega arith

pub cut_le : (x : Float) → cut_off x ≤ most
unfolding cut_off
cut_le nan = lit≤ tt
cut_le (inf true) = lit≤ tt
cut_le (inf false) = lit≤ tt
cut_le (fin true m e) = lit≤ tt
cut_le (fin false m e) = capped_le (m * up e / down e)

-- an f64 represents a frame index exactly
pub number_held : (n : ℕ) → n ≤ most → T (in_float binary64 (pos n))
unfolding in_float
number_held n h = le→leb n (2 ^ 53) (le_trans h (lit≤ tt))
