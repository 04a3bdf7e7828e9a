-- `fours` reads four frames per iteration at consecutive positions. The invariant: the scan so far.
use Prim.Native.Nat.{◌-◌}
use lib.ListN.{length}
use Rattle.sound_fast_reading.specs.Scans.{Scanned}
use Rattle.sound_fast_reading.proofs.Scans.{place}
use Rattle.sound_fast_straight.proofs.fours.Given as goal

abbrev pub invariant-loop-i : goal.invariant-loop-i
invariant-loop-i g l = Scanned l.sound l.way (g.R.Rates.list l.rates) (place l.at l.fractional_position l.steps l.i) l.out

abbrev pub decreases-loop-i : goal.decreases-loop-i
decreases-loop-i g l = length (g.R.Rates.list l.rates) - l.i
