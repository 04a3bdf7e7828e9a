-- The cubic of four samples of positive zero is positive zero at any fraction: every product and sum in the cubic is positive zero.
use mathlib.Core.Path.{◌≡◌}
use mathlib.Core.Bool.{false}
use lib.IntN.{pos, negsuc}
use lib.Dec.{T}
use lib.Ieee.{Float, fin, binary32}
use Rattle.numbers.specs.Words.{positive_zero, finite_clear}
use Rattle.numbers.proofs.Silence.{add_positive_zero, sub_positive_zero, mul_positive_zero}
use Rattle.frame.specs.Frames.{cubic, last_zero, interpolated}

pub cubic_positive_zero : (x : Float) → T (finite_clear x) → cubic positive_zero positive_zero positive_zero positive_zero x ≡ positive_zero
unfolding cubic
cubic_positive_zero x h =
    simp (
      add_positive_zero,
      sub_positive_zero,
      mul_positive_zero binary32 x h,
      mul_positive_zero binary32 (fin false 1 (negsuc 0)) tt,
      mul_positive_zero binary32 (fin false 5 (negsuc 0)) tt,
      mul_positive_zero binary32 (fin false 1 (pos 1)) tt,
      mul_positive_zero binary32 (fin false 3 (negsuc 0)) tt,
    )

pub interpolated_last_zero : (x : Float) → T (finite_clear x) → interpolated last_zero last_zero last_zero last_zero x ≡ last_zero
unfolding interpolated
interpolated_last_zero x h = simp (cubic_positive_zero x h)
