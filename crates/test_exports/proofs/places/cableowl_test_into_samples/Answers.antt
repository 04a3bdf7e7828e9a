-- `test_exports::places::cableowl_test_into_samples` meets its contract, by its callees'. Assumes nothing.
use mathlib.Core.Path.{ap, ◌∙◌}
use Rattle.playback_position.specs.Positions.{position_in_frames}
use Rattle.test_exports.proofs.places.cableowl_test_into_samples.Goals as goal

pub returns : goal.returns
returns c = c.into_samples.ensures ∙ ap (position_in_frames c.args.sample_rate) c.from.ensures
