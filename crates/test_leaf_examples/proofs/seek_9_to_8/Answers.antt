-- `test_leaf_examples::seek_9_to_8` is safe and ends: the loop (3, 6) is not empty, which is what a seek requires. Assumes nothing.
use Rattle.test_leaf_examples.proofs.seek_9_to_8.Goals as goal

pub seek_to-requires : goal.seek_to-requires
seek_to-requires c = rw c.playing_at.ensures tt
