-- At fraction 0 the cubic of samples of magnitude at most 8 equals b, except for the sign of a zero.
-- The bounds keep every coefficient finite, so each product by the fraction is a zero, and a zero added to b leaves b.
use mathlib.Core.Path.{◌≡◌}
use mathlib.Core.Bool.{true, false}
use lib.IntN.{pos, negsuc}
use lib.Dec.{T, lit≤}
use lib.Ieee.{Float, fin, binary32, add, sub, mul, eq, fits}
use Rattle.numbers.specs.Words.{positive_zero}
use Rattle.numbers.proofs.Bounds.{within, is_zero, add_within, sub_within, mul_within, mul_zero_right, zero_add_eq}
use Rattle.frame.specs.Frames.{cubic}

pub cubic_at_positive_zero : (a b c d : Float) → T (within 8 a) → T (within 8 b) → T (within 8 c) → T (within 8 d) → T (fits binary32 b) → eq (cubic a b c d positive_zero) b ≡ true
unfolding cubic within is_zero
cubic_at_positive_zero a b c d ha hb hc hd t =
    let half = fin false 1 (negsuc 0) in
    let two-and-half = fin false 5 (negsuc 0) in
    let two = fin false 1 (pos 1) in
    let one-and-half = fin false 3 (negsuc 0) in
    let c1 = mul binary32 (sub binary32 c a) half in
    let c2 = sub binary32 (add binary32 (sub binary32 a (mul binary32 b two-and-half)) (mul binary32 c two)) (mul binary32 d half) in
    let c3 = add binary32 (mul binary32 (sub binary32 d a) half) (mul binary32 (sub binary32 b c) one-and-half) in
    let h1 : T (within 16 c1) = mul_within binary32 16 1 (sub binary32 c a) half (lit≤ tt) (sub_within binary32 8 8 c a (lit≤ tt) hc ha) tt in
    let h2 : T (within 56 c2) =
    sub_within binary32 48 8 (add binary32 (sub binary32 a (mul binary32 b two-and-half)) (mul binary32 c two)) (mul binary32 d half) (lit≤ tt)
    (add_within binary32 32 16 (sub binary32 a (mul binary32 b two-and-half)) (mul binary32 c two) (lit≤ tt)
    (sub_within binary32 8 24 a (mul binary32 b two-and-half) (lit≤ tt) ha (mul_within binary32 8 3 b two-and-half (lit≤ tt) hb tt))
    (mul_within binary32 8 2 c two (lit≤ tt) hc tt))
    (mul_within binary32 8 1 d half (lit≤ tt) hd tt)
    in
    let h3 : T (within 48 c3) =
    add_within binary32 16 32 (mul binary32 (sub binary32 d a) half) (mul binary32 (sub binary32 b c) one-and-half) (lit≤ tt)
    (mul_within binary32 16 1 (sub binary32 d a) half (lit≤ tt) (sub_within binary32 8 8 d a (lit≤ tt) hd ha) tt)
    (mul_within binary32 16 2 (sub binary32 b c) one-and-half (lit≤ tt) (sub_within binary32 8 8 b c (lit≤ tt) hb hc) tt)
    in
    let u2 = add binary32 (mul binary32 c3 positive_zero) c2 in
    let k2 : T (within 56 u2) = add_within binary32 0 56 (mul binary32 c3 positive_zero) c2 (lit≤ tt) (mul_within binary32 48 0 c3 positive_zero (lit≤ tt) h3 tt) h2 in
    let u1 = add binary32 (mul binary32 u2 positive_zero) c1 in
    let k1 : T (within 16 u1) = add_within binary32 0 16 (mul binary32 u2 positive_zero) c1 (lit≤ tt) (mul_within binary32 56 0 u2 positive_zero (lit≤ tt) k2 tt) h1 in
    zero_add_eq binary32 8 (mul binary32 u1 positive_zero) b (mul_zero_right binary32 16 u1 positive_zero k1 tt) t hb
