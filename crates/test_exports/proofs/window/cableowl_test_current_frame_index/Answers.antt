-- `test_exports::window::cableowl_test_current_frame_index` meets its contract, by its callees'. Assumes nothing.
use mathlib.Core.Path.{ap, ◌∙◌}
use Rattle.resampler.specs.Windows.{current_frame_index}
use Rattle.test_exports.proofs.window.cableowl_test_current_frame_index.Goals as goal

pub returns : goal.returns
returns c = c.current_frame_index.ensures ∙ ap current_frame_index c.from.ensures
