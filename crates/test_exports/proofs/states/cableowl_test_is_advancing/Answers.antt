-- `test_exports::states::cableowl_test_is_advancing` meets its contract, by its callees'. Assumes nothing.
use mathlib.Core.Path.{ap, ◌∙◌}
use Rattle.playback_state_manager.specs.States.{advancing}
use Rattle.test_exports.specs.Answers.{bit}
use Rattle.test_exports.proofs.Bits.{byte_bit}
use Rattle.test_exports.proofs.states.cableowl_test_is_advancing.Goals as goal

pub returns : goal.returns
returns c = c.from.ensures ∙ byte_bit _ ∙ ap bit (c.is_advancing.ensures ∙ ap advancing c.state_of.ensures)
