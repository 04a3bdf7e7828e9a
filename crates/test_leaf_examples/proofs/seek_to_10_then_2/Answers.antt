-- `test_leaf_examples::seek_to_10_then_2` is safe and ends: no loop is not an empty loop, and a seek keeps it. Assumes nothing.
use Rattle.transport.specs.Moves.{seek}
use Rattle.test_leaf_examples.proofs.seek_to_10_then_2.Goals as goal

pub seek_to-requires : goal.seek_to-requires
seek_to-requires c = rw c.unlooped_at.ensures tt

pub seek_to-requires-2 : goal.seek_to-requires-2
unfolding seek
seek_to-requires-2 c = rw (c.seek_to.ensures, c.unlooped_at.ensures) tt
