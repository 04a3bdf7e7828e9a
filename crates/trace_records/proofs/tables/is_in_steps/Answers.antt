-- `trace_records::tables::is_in_steps`: the tests one after the other.
use Rattle.trace_records.proofs.Ways.{too_short, too_long, between}
use Rattle.trace_records.proofs.tables.is_in_steps.Goals as goal

pub returns-then-n-low : goal.returns-then-n-low
returns-then-n-low c = too_short _ _ _ _ c.if-n-low.true

pub returns-then-high-n : goal.returns-then-high-n
returns-then-high-n c = too_long _ _ _ _ c.if-n-low.false c.if-high-n.true

pub returns : goal.returns
returns c = between _ _ _ _ c.if-n-low.false c.if-high-n.false
