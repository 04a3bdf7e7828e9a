-- `crc32::promised` meets its contract: it proves the theorems. Assumes nothing.
use Rattle.crc32.proofs.Promises.{kept}
use Rattle.crc32.proofs.promised.Goals as goal

pub returns : goal.returns
returns c = kept
