-- `promised` is empty; its contract is the record of all theorems.
use Rattle.theorems.proofs.Promises.{promises}
use Rattle.theorems.proofs.promised.Goals as goal

-- src/lib.rt:4:1
pub returns : goal.returns
returns c = promises
