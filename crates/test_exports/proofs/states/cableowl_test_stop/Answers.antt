-- `test_exports::states::cableowl_test_stop` meets its contract, by its callees'. Assumes nothing.
use mathlib.Core.Path.{ap, ◌∙◌}
use Rattle.playback_state_manager.specs.States.{number, stopping}
use Rattle.test_exports.proofs.states.cableowl_test_stop.Goals as goal

pub returns : goal.returns
returns c = c.from.ensures ∙ ap number (c.stop.ensures ∙ ap stopping c.state_of.ensures)
