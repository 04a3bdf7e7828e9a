-- `wrapping` reads two frames per iteration and chooses each position, so that it wraps at the loop's edge. The invariant: the scan so far.
use Prim.Native.Nat.{◌-◌}
use lib.ListN.{length}
use Rattle.sound_fast_reading.specs.Scans.{Scanned}
use Rattle.sound_fast_wrapping.proofs.wrapping.Given as goal

abbrev pub invariant-loop-r : goal.invariant-loop-r
invariant-loop-r g l = Scanned l.sound l.way (g.R.Rates.list l.rates) l.r l.out

abbrev pub decreases-loop-r : goal.decreases-loop-r
decreases-loop-r g l = length (g.R.Rates.list l.rates) - l.r.next
