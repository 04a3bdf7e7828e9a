-- `cableowl_write_record` meets its contract: the result of `trace_records::write`, and the buffer after it. Assumes nothing.
use Rattle.cableowl.proofs.traces.cableowl_write_record.Goals as goal

pub returns : goal.returns
returns c = c.write.ensures
