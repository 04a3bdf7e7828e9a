-- `test_exports::states::cableowl_test_pause` meets its contract, by its callees'. Assumes nothing.
use mathlib.Core.Path.{ap, ◌∙◌}
use Rattle.playback_state_manager.specs.States.{number, pausing}
use Rattle.test_exports.proofs.states.cableowl_test_pause.Goals as goal

pub returns : goal.returns
returns c = c.from.ensures ∙ ap number (c.pause.ensures ∙ ap pausing c.state_of.ensures)
