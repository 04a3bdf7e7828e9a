-- `numbers::advance_by` meets its contract. The invariant: the steps made plus the rest are the sum (`Spinning`).
-- The measure is the whole part of the rest. Assumes nothing.
use lib.Ieee.{binary64, add}
use Rattle.numbers.specs.Words.{whole}
use Rattle.numbers.proofs.Stepping.{Spinning}
use Rattle.numbers.proofs.advance_by.Given as goal

abbrev pub invariant-loop-rest : goal.invariant-loop-rest
invariant-loop-rest l = Spinning (add binary64 l.fraction l.advance) l.rest l.steps

abbrev pub decreases-loop-rest : goal.decreases-loop-rest
decreases-loop-rest l = whole l.rest
