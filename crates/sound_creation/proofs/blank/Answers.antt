-- `sound_creation::blank` meets its contract: a window of zeros at 0, and every other field as it is written.
use lib.Ieee.{of_bits}
use Rattle.sound_creation.proofs.blank.Goals as goal

pub returns : goal.returns
unfolding of_bits
returns c = rw c.new.ensures
