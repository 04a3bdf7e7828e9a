-- `saved_settings::load` meets its contract. Assumes nothing.
use Rattle.std.proofs.Common.{ap, ◌∙◌}
use Rattle.std.proofs.lemmas.Result.{err_from_is_err_and}
use Rattle.saved_settings.specs.Records.{version_number, shown}
use Rattle.saved_settings.proofs.Loads.{refused_load, shown_load}
use Rattle.saved_settings.proofs.load.Goals as goal

pub returns-in_err-parsed : goal.returns-in_err-parsed
returns-in_err-parsed c =
    let a = c.args in
    let p = err_from_is_err_and c.from_residual.result c.from_residual.ensures.1 in
    rw (p.1, p.2) (refused_load a.reader a.s.now _ (rw c.version_in-version.ensures at c.in_err-parsed.ensures))

pub returns : goal.returns
returns c =
    let a = c.args in
    let v = c.version_in-version.result in
    c.show.ensures ∙ ap (shown (version_number v)) c.saved_of.ensures
    ∙ rw c.version_in-version.ensures (shown_load a.reader a.s.now c.in_ok-parsed.parsed (rw c.version_in-version.ensures at c.in_ok-parsed.ensures))
