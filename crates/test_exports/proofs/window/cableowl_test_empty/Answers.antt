-- `test_exports::window::cableowl_test_empty` meets its contract, by its callees'. Assumes nothing.
use mathlib.Core.Path.{ap, ◌∙◌}
use Rattle.resampler.specs.Windows.{is_empty}
use Rattle.test_exports.specs.Answers.{bit}
use Rattle.test_exports.proofs.Bits.{byte_bit}
use Rattle.test_exports.proofs.window.cableowl_test_empty.Goals as goal

pub returns : goal.returns
returns c = c.from-2.ensures ∙ byte_bit _ ∙ ap bit (c.empty.ensures ∙ ap is_empty c.from.ensures)
