-- `test_leaf_examples::backward` is safe and ends: its loop is not empty, which is what a step back requires. Assumes nothing.
use lib.Dec.{lt→ltb}
use Rattle.test_leaf_examples.proofs.backward.Goals as goal

pub decrement_position-requires : goal.decrement_position-requires
decrement_position-requires c = rw c.playing_at.ensures (lt→ltb _ _ c.requires)
