-- `test_leaf_examples::narrows_to_one` is safe and ends: 1 - 2^-25 is a proper fraction, which is what `narrow` requires. Assumes nothing.
use lib.Ieee.{of_bits, lt}
use Rattle.test_leaf_examples.proofs.narrows_to_one.Goals as goal

pub narrow-requires : goal.narrow-requires
unfolding of_bits lt
narrow-requires c = tt
