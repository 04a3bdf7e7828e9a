-- At fraction 0 the frame read is b: the cubic's law, channel by channel. Assumes nothing.
use mathlib.Core.Path.{refl}
use mathlib.Core.Bool.{false}
use lib.IntN.{pos}
use lib.Dec.{T}
use lib.Ieee.{Float, nan, inf, fin, le}
use Rattle.numbers.specs.Words.{magnitude}
use Rattle.numbers.proofs.Bounds.{within, within_of_le}
use Rattle.frame.specs.Frames.{interpolated}
use Rattle.frame.proofs.AtZero.{cubic_at_positive_zero}
use Rattle.theorems.specs.AtZero.{ReadsB}

-- at most 8 without its sign is within 8
small : (x : Float) → T (le (magnitude x) (fin false 8 (pos 0))) → T (within 8 x)
unfolding within magnitude le
small nan h = h
small (inf s) h = h
small (fin s m e) h = within_of_le 8 (fin false m e) (fin false 8 (pos 0)) tt (refl, refl) h

pub reads_b : ReadsB
unfolding interpolated
reads_b a b c d x = (
  cubic_at_positive_zero a.left b.left c.left d.left (small a.left x.0.0.0) (small b.left x.1.0.0) (small c.left x.2.0.0) (small d.left x.3.0.0) x.1.0.1,
  cubic_at_positive_zero a.right b.right c.right d.right (small a.right x.0.1.0) (small b.right x.1.1.0) (small c.right x.2.1.0) (small d.right x.3.1.0) x.1.1.1,
)
