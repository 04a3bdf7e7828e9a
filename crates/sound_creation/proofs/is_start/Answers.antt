-- `sound_creation::is_start` meets its contract: both tests by their functions.
use Rattle.sound_creation.proofs.is_start.Goals as goal

pub returns : goal.returns
returns c = rw (c.is_finite_position.ensures, c.into_samples.ensures)
