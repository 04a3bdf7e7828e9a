-- `test_exports::states::cableowl_test_resume` meets its contract, by its callees'. Assumes nothing.
use mathlib.Core.Path.{ap, ap₂, ◌∙◌}
use Rattle.playback_state_manager.specs.States.{number, resuming}
use Rattle.test_exports.proofs.states.cableowl_test_resume.Goals as goal

pub returns : goal.returns
returns c = c.from.ensures ∙ ap number (c.resume.ensures ∙ ap₂ resuming c.is_yes.ensures c.state_of.ensures)
