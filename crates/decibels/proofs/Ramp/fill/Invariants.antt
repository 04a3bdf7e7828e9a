-- `decibels::Ramp::fill` meets its contract: the frames so far are at the lane's start. Assumes nothing.
use mathlib.Core.Path.{◌≡◌}
use lib.ListN.{take}
use Rattle.decibels.specs.Ramps.{frames}
use Rattle.decibels.proofs.Ramp.fill.Given as goal

abbrev pub invariant-loop-i : goal.invariant-loop-i
invariant-loop-i l = take l.i l.lane ≡ frames l.self.start l.self.end l.self.count l.i
