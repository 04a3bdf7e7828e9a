-- `theorems_loop_table::promised` is empty; its contract is the record of all theorems.
use Rattle.theorems_loop_table.proofs.Promises.{promises}
use Rattle.theorems_loop_table.proofs.promised.Goals as goal

pub returns : goal.returns
returns c = promises
