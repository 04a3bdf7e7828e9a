-- `cableowl_write_record_v2` meets its contract: the answer, and the buffer after it. Assumes nothing.
use Rattle.cableowl.proofs.traces.cableowl_write_record_v2.Goals as goal

pub returns : goal.returns
returns c = rw c.written.ensures c.write-sent.ensures
