-- `test_exports::window::cableowl_test_new_window` meets its contract, by its callees'. Assumes nothing.
use mathlib.Core.Path.{ap, ◌∙◌}
use Rattle.test_exports.specs.Windows.{plain_window}
use Rattle.test_exports.proofs.window.cableowl_test_new_window.Goals as goal

pub returns : goal.returns
returns c = c.from.ensures ∙ ap plain_window c.new.ensures
