-- `trace_inputs::laned_block_of` meets its contract, field by field.
use Rattle.trace_inputs.specs.Inputs.{laned_block_of}
use Rattle.trace_inputs.proofs.laned_block_of.Goals as goal

pub returns : goal.returns
unfolding laned_block_of
returns c = rw (c.at_most-frames.ensures, c.f64_of.ensures, c.signals_of.ensures)
