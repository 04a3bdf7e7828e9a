-- `test_exports::cableowl_test_is_proper` meets its contract, by its callees'. Assumes nothing.
use mathlib.Core.Path.{ap, ◌∙◌}
use Rattle.test_exports.specs.Answers.{bit}
use Rattle.test_exports.proofs.Bits.{byte_bit}
use Rattle.test_exports.proofs.cableowl_test_is_proper.Goals as goal

pub returns : goal.returns
returns c = c.from.ensures ∙ byte_bit _ ∙ ap bit c.is_proper.ensures
