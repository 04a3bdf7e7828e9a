-- `saved_loops::is_crc` meets its contract. Assumes nothing.
use mathlib.Core.Path.{refl}
use Rattle.saved_loops.proofs.is_crc.Goals as goal

pub returns : goal.returns
returns c = rw (c.number.ensures, c.checksum-crc.ensures) refl
