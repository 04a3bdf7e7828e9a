-- `trace_inputs::signals_of` meets its contract, field by field.
use Rattle.trace_inputs.proofs.signals_of.Goals as goal

pub returns : goal.returns
returns c = rw (c.yes_of.ensures, c.answer_of.ensures, c.answer_of-2.ensures)
