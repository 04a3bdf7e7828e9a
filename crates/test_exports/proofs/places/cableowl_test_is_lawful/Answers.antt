-- `test_exports::places::cableowl_test_is_lawful` meets its contract, by its callees'. Assumes nothing.
use mathlib.Core.Path.{ap, ◌∙◌}
use Rattle.playback_position.specs.Positions.{well_formed_region}
use Rattle.test_exports.specs.Answers.{bit}
use Rattle.test_exports.proofs.Bits.{byte_bit}
use Rattle.test_exports.proofs.places.cableowl_test_is_lawful.Goals as goal

pub returns : goal.returns
returns c =
    let start = c.before.before.before in
    c.from-2.ensures ∙ byte_bit _
    ∙ ap bit (c.is_well_formed.ensures ∙ ap (well_formed_region start.args.sample_rate start.args.num_frames) c.from.ensures)
