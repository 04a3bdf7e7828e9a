-- `cableowl_store_settings` meets its contract. Assumes nothing.
use mathlib.Core.Path.{ap, ◌∙◌}
use lib.ListN.{length}
use Rattle.saved_settings.specs.declared.SavedSettings.{SavedSettings}
use Rattle.saved_settings.specs.Records.{store_refusal, stored}
use Rattle.cableowl.specs.Saved.{version_in}
use Rattle.cableowl.proofs.saved.cableowl_store_settings.Goals as goal

pub returns : goal.returns
returns c =
    let a = c.args in
    let e = c.store.ensures in (
      c.number_of.ensures ∙ e.0 ∙ ap (λ (s : SavedSettings). store_refusal (version_in a.saved.now) s (length a.buffer.now)) c.saved_in.ensures,
      e.1 ∙ ap (λ (s : SavedSettings). stored (version_in a.saved.now) s a.buffer.now) c.saved_in.ensures,
    )
