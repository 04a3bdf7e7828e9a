-- `numbers::advance_by` meets its contract. The invariant: the steps made plus the rest are the sum (`Spinning`).
-- The measure is the whole part of the rest. Assumes nothing.
use Rattle.std.proofs.Common.{arith}
use lib.Ieee.{of_bits}
use Rattle.numbers.proofs.Stepping.{spinning, spun, spun_out}
use Rattle.numbers.proofs.advance_by.Goals as goal

pub loop-rest-init : goal.loop-rest-init
loop-rest-init c = spinning c.args.fraction c.args.advance c.requires.fraction_proper c.requires.advance_clear c.requires.advance_most

pub overflow_add-steps : goal.overflow_add-steps
unfolding of_bits
overflow_add-steps c =
    let s = spun _ _ _ c.loop-rest.invariant c.loop-rest-test.true in
    record { fits = omega (arith, s.0.whole, c.loop-rest.invariant.sum, c.loop-rest.invariant.few) }

pub loop-rest-smaller : goal.loop-rest-smaller
unfolding of_bits
loop-rest-smaller c =
    let s = spun _ _ _ c.loop-rest.invariant c.loop-rest-test.true in
    omega (arith, s.0.whole)

pub loop-rest-preserved : goal.loop-rest-preserved
unfolding of_bits
loop-rest-preserved c = (spun _ _ _ c.loop-rest.invariant c.loop-rest-test.true).1

pub returns : goal.returns
unfolding of_bits
returns c =
    let s = spun_out _ _ _ c.loop-rest.invariant c.loop-rest-test.false in
    λ i. record { steps = s.1 i; fraction = s.0 i }
