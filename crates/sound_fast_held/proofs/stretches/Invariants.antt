-- `stretches` goes on while a stretch plays frames and some are left. The invariant: the scan so far.
use Prim.Native.Nat.{suc, ◌-◌}
use lib.ListN.{length}
use Rattle.sound_fast_reading.specs.Scans.{Scanned}
use Rattle.sound_fast_held.proofs.stretches.Given as goal

abbrev pub invariant-loop-r : goal.invariant-loop-r
invariant-loop-r g l = Scanned l.sound l.way (g.R.Rates.list l.rates) l.s l.out

abbrev pub decreases-loop-r : goal.decreases-loop-r
decreases-loop-r g l = length (g.R.Rates.list l.rates) - l.r.next
