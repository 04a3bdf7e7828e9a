-- `sound_creation::setup_of` meets its contract: the slice by its function, every other field as it is written.
use Rattle.sound_creation.proofs.setup_of.Goals as goal

pub returns : goal.returns
returns c = rw c.into_frames.ensures
