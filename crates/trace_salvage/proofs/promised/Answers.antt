-- `trace_salvage::promised` meets its contract: it proves the theorems. Assumes nothing.
use Rattle.trace_salvage.proofs.Promises.{all_kept}
use Rattle.trace_salvage.proofs.promised.Goals as goal

pub returns : goal.returns
returns c = all_kept
