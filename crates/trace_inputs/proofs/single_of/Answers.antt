-- `trace_inputs::single_of` meets its contract, by its bits.
use mathlib.Core.Path.{ap, ◌∙◌}
use lib.Ieee.{binary32}
use Rattle.float_bits.specs.Patterns.{float_of}
use Rattle.trace_inputs.proofs.single_of.Goals as goal

pub returns : goal.returns
returns c = c.f32_of.ensures ∙ ap (float_of binary32) c.half_of.ensures
