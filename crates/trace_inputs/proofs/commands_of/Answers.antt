-- `trace_inputs::commands_of` meets its contract, field by field.
use Rattle.trace_inputs.specs.Inputs.{commands_of}
use Rattle.trace_inputs.proofs.commands_of.Goals as goal

pub returns : goal.returns
unfolding commands_of
returns c = rw (c.amount_of.ensures, c.loop_of.ensures, c.yes_of.ensures, c.resume_of.ensures, c.yes_of-2.ensures, c.amount_of-2.ensures, c.amount_of-3.ensures)
