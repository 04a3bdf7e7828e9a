-- `trace_inputs::settings_of` meets its contract, field by field.
use Rattle.trace_inputs.specs.Inputs.{settings_of}
use Rattle.trace_inputs.proofs.settings_of.Goals as goal

pub returns : goal.returns
unfolding settings_of
returns c = rw (c.half_of.ensures, c.optional_of.ensures, c.position_of.ensures, c.optional_of-2.ensures, c.yes_of.ensures, c.f64_of.ensures, c.yes_of-2.ensures)
