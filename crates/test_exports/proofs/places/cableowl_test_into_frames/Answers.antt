-- `test_exports::places::cableowl_test_into_frames` meets its contract, by its callees'. Assumes nothing.
use Rattle.std.specs.Prelude.{ℕ, Some}
use mathlib.Core.Path.{ap, ◌∙◌}
use Rattle.playback_position.specs.Positions.{region_in_frames}
use Rattle.test_exports.specs.Places.{plain_range}
use Rattle.test_exports.proofs.places.cableowl_test_into_frames.Goals as goal

pub returns : goal.returns
returns c =
    let start = c.before.before.before in
    c.from-2.ensures
    ∙ ap (λ (r : ℕ × ℕ). plain_range (Some r)) (c.into_frames-frames.ensures ∙ ap (region_in_frames start.args.sample_rate start.args.num_frames) c.from.ensures)
