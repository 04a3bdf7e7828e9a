-- `trace_sealed::writes::write`: by the kind.
use Rattle.std.proofs.Common.{sym}
use Rattle.trace_sealed.proofs.Sends.{kind_sealed, sealed_way, open_way}
use Rattle.trace_sealed.proofs.writes.write.Goals as goal

pub returns-in-Ok : goal.returns-in-Ok
returns-in-Ok c = let a = c.args in rw c.in-Ok.ensures (sealed_way a.buf.now a.at _ a.values a.lanes.now _ (kind_sealed c.in-Ok.sealed) c.write_sealed.ensures)

pub returns-in-Err : goal.returns-in-Err
returns-in-Err c = let a = c.args in open_way a.buf.now a.at a.kind a.values a.lanes.now _ (sym c.in-Err.ensures.1) c.write.ensures
