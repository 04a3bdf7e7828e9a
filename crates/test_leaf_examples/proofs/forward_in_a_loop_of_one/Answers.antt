-- `test_leaf_examples::forward_in_a_loop_of_one` is safe and ends: 4 lies below 10 and the loop (4, 5) in 10 frames, which is what a step forward requires. Assumes nothing.
use mathlib.Core.Path.{sym, subst}
use lib.Dec.{lit<, lit≤}
use Rattle.transport.specs.WellFormed.{WellFormedTransport}
use Rattle.test_leaf_examples.specs.Places.{at}
use Rattle.test_leaf_examples.proofs.forward_in_a_loop_of_one.Goals as goal

transport_well_formed : WellFormedTransport 10 (at 4 4 5)
transport_well_formed = record { loop = tt; here = λ e. lit< tt; low = lit≤ tt }

pub increment_position-requires : goal.increment_position-requires
increment_position-requires c = subst (WellFormedTransport 10) (sym c.playing_at.ensures) transport_well_formed
