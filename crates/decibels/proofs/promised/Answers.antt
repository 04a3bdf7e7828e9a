-- `decibels::promised` meets its contract: it proves the theorems. Assumes nothing.
use Rattle.decibels.proofs.Promises.{kept}
use Rattle.decibels.proofs.promised.Goals as goal

pub returns : goal.returns
returns c = kept
