-- `trace_sealed::promised` meets its contract: it proves the theorems. Assumes nothing.
use Rattle.trace_sealed.proofs.Promises.{kept}
use Rattle.trace_sealed.proofs.promised.Goals as goal

pub returns : goal.returns
returns c = kept
