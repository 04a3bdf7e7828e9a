-- `cableowl_load_settings` meets its contract: what is loaded, as words. Assumes nothing.
use mathlib.Core.Path.{sym, ap, ◌∙◌}
use Rattle.saved_settings.specs.Records.{Loaded, loaded_of}
use Rattle.cableowl.specs.Saved.{words_of}
use Rattle.cableowl.proofs.saved.cableowl_load_settings.Goals as goal

pub returns-in-Ok : goal.returns-in-Ok
returns-in-Ok c =
    let e = ap loaded_of (sym c.in-Ok.is) ∙ c.load.ensures in
    (ap (λ (l : Loaded). l.refusal) e, c.words_of-words.ensures ∙ ap words_of e)

pub returns-in-Err : goal.returns-in-Err
returns-in-Err c =
    let e = ap loaded_of (sym c.in-Err.is) ∙ c.load.ensures in
    (c.from.ensures ∙ ap (λ (l : Loaded). l.refusal) e, ap words_of e)
