-- `sound_commands::is_seek` meets its contract: both tests as they are written.
use lib.Ieee.{of_bits}
use Rattle.sound_commands.proofs.is_seek.Goals as goal

pub returns : goal.returns
unfolding of_bits
returns c = rw c.is_finite.ensures
