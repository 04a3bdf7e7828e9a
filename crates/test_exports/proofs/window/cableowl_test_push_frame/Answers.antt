-- `test_exports::window::cableowl_test_push_frame` meets its contract, by its callees'. Assumes nothing.
use Rattle.std.specs.Prelude.{Option}
use mathlib.Core.Path.{ap, ap₂, ◌∙◌}
use Rattle.resampler.specs.declared.Resampler.{Resampler}
use Rattle.resampler.specs.Windows.{push}
use Rattle.test_exports.specs.Windows.{plain_window}
use Rattle.test_exports.proofs.window.cableowl_test_push_frame.Goals as goal
use Rattle.frame.specs.declared.Frame.{Frame}

pub returns : goal.returns
returns c =
    let pushed = c.before in
    let given = pushed.before in
    let n = given.args.frame_index in
    c.from-2.ensures
    ∙ ap plain_window (pushed.push_frame.ensures ∙ ap₂ (λ (w : Resampler) (g : Option Frame). push w g n) given.from.ensures given.given_frame.ensures)
