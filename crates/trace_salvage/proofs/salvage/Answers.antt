-- `trace_salvage::salvage` meets its contract: what `salvage_by` does for reader 1. Assumes nothing.
use Rattle.trace_salvage.proofs.salvage.Goals as goal

pub returns : goal.returns
returns c = c.salvage_by.ensures
