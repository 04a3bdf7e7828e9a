-- `saved_loops::promised` meets its contract: it proves the theorems. Assumes nothing.
use Rattle.saved_loops.proofs.Promises.{all_kept}
use Rattle.saved_loops.proofs.promised.Goals as goal

pub returns : goal.returns
returns c = all_kept
