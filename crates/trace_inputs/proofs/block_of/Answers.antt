-- `trace_inputs::block_of` meets its contract, field by field.
use Rattle.trace_inputs.specs.Inputs.{block_of}
use Rattle.trace_inputs.proofs.block_of.Goals as goal

pub returns : goal.returns
unfolding block_of
returns c = rw (c.at_most.ensures, c.single_of.ensures, c.single_of-2.ensures, c.single_of-3.ensures, c.single_of-4.ensures, c.f64_of.ensures, c.f64_of-2.ensures, c.signals_of.ensures)
