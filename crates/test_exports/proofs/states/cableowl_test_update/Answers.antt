-- `test_exports::states::cableowl_test_update` meets its contract, by its callees'. Assumes nothing.
use mathlib.Core.Path.{◌≡◌, ap, ◌∙◌}
use mathlib.Core.Bool.{Bool}
use Rattle.playback_state_manager.specs.declared.PlaybackState.{PlaybackState}
use Rattle.playback_state_manager.specs.declared.StartAnswer.{StartAnswer}
use Rattle.playback_state_manager.specs.States.{number, settled}
use Rattle.test_exports.proofs.states.cableowl_test_update.Goals as goal

same : {f g : Bool} {a b : StartAnswer} {s t : PlaybackState} → f ≡ g → a ≡ b → s ≡ t → settled f a s ≡ settled g b t
same p q r = rw (p, q, r)

pub returns : goal.returns
returns c =
    let told = c.before.before in
    c.from.ensures
    ∙ ap number (c.update-after.ensures ∙ same told.is_yes.ensures told.answer_of.ensures told.state_of.ensures)
