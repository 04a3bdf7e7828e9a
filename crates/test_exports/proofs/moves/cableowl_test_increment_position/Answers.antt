-- `test_exports::moves::cableowl_test_increment_position` meets its contract: the test is what `increment_position` requires. Assumes nothing.
use mathlib.Core.Path.{sym, ap, subst, ◌∙◌}
use lib.Dec.{T}
use Rattle.transport.specs.WellFormed.{well_formed_transport}
use Rattle.transport.specs.Moves.{forward}
use Rattle.transport.proofs.WellFormed.{well_formed_transport_parts}
use Rattle.test_exports.specs.Moves.{plain_transport}
use Rattle.test_exports.proofs.Tested.{passed, refused}
use Rattle.test_exports.proofs.moves.cableowl_test_increment_position.Goals as goal

pub increment_position-requires : goal.increment_position-requires
increment_position-requires c = well_formed_transport_parts _ _ (subst T (sym (sym c.is_well_formed_transport.ensures ∙ c.if-is_well_formed_transport.true)) tt)

pub returns-then-is_well_formed_transport : goal.returns-then-is_well_formed_transport
returns-then-is_well_formed_transport c =
    let tested = c.before.before.before in
    let n = tested.args.num_frames in
    c.from.ensures
    ∙ ap plain_transport c.increment_position.ensures
    ∙ passed (well_formed_transport n) (forward n) tested.from-given.ensures (sym tested.is_well_formed_transport.ensures ∙ c.if-is_well_formed_transport.true)

pub returns-else-is_well_formed_transport : goal.returns-else-is_well_formed_transport
returns-else-is_well_formed_transport c =
    let tested = c.before in
    let n = tested.args.num_frames in
    refused (well_formed_transport n) (forward n) tested.from-given.ensures (sym tested.is_well_formed_transport.ensures ∙ c.if-is_well_formed_transport.false)
