-- `test_exports::window::cableowl_test_get` meets its contract, by its callees'. Assumes nothing.
use mathlib.Core.Path.{ap, ◌∙◌}
use Rattle.resampler.specs.declared.Resampler.{Resampler}
use Rattle.resampler.specs.Windows.{reading}
use Rattle.test_exports.specs.Windows.{plain_reading}
use Rattle.test_exports.proofs.window.cableowl_test_get.Goals as goal

pub returns : goal.returns
returns c =
    let f = c.args.fractional_position in
    c.from-2.ensures ∙ ap plain_reading (c.get.ensures ∙ ap (λ (w : Resampler). reading w f) c.from.ensures)
