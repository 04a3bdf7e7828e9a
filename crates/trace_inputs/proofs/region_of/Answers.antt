-- `trace_inputs::region_of` meets its contract, field by field.
use Rattle.trace_inputs.proofs.region_of.Goals as goal

pub returns : goal.returns
returns c = rw (c.position_of.ensures, c.end_of.ensures)
