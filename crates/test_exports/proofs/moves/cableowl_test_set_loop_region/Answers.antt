-- `test_exports::moves::cableowl_test_set_loop_region` meets its contract, by its callees'. Assumes nothing.
use mathlib.Core.Path.{ap, ap₂, ◌∙◌}
use Rattle.transport.specs.Moves.{reloop}
use Rattle.test_exports.specs.Moves.{plain_transport}
use Rattle.test_exports.proofs.moves.cableowl_test_set_loop_region.Goals as goal

pub returns : goal.returns
returns c =
    let given = c.before.before in
    c.from-2.ensures ∙ ap plain_transport (c.set_loop_region.ensures ∙ ap₂ reloop given.from.ensures given.range_of.ensures)
