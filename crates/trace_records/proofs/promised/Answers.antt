-- `trace_records::promised` meets its contract: what is promised beyond the contracts is kept. Assumes nothing.
use Rattle.trace_records.proofs.Promises.{all_kept}
use Rattle.trace_records.proofs.promised.Goals as goal

pub returns : goal.returns
returns c = all_kept
