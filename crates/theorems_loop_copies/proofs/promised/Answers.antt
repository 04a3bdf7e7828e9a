-- `theorems_loop_copies::promised` is empty; its contract is the record of all theorems.
use Rattle.theorems_loop_copies.proofs.Promises.{promises}
use Rattle.theorems_loop_copies.proofs.promised.Goals as goal

pub returns : goal.returns
returns c = promises
