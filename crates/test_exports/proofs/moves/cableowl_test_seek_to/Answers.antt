-- `test_exports::moves::cableowl_test_seek_to` meets its contract: the test is what `seek_to` requires. Assumes nothing.
use mathlib.Core.Path.{sym, ap, subst, ◌∙◌}
use lib.Dec.{T}
use Rattle.transport.specs.declared.Transport.{Transport}
use Rattle.playback_position.specs.Positions.{ordered}
use Rattle.transport.specs.Moves.{seek}
use Rattle.test_exports.specs.Moves.{plain_transport}
use Rattle.test_exports.proofs.Tested.{passed, refused}
use Rattle.test_exports.proofs.moves.cableowl_test_seek_to.Goals as goal

pub seek_to-requires : goal.seek_to-requires
seek_to-requires c = subst T (sym (sym c.is_ordered.ensures ∙ c.if-is_ordered.true)) tt

pub returns-then-is_ordered : goal.returns-then-is_ordered
returns-then-is_ordered c =
    let tested = c.before.before.before in
    let start = tested.before.before in
    c.from.ensures
    ∙ ap plain_transport c.seek_to.ensures
    ∙ passed (λ (t : Transport). ordered t.loop_region) (λ (t : Transport). seek start.args.num_frames t start.args.position) tested.from-given.ensures
    (sym tested.is_ordered.ensures ∙ c.if-is_ordered.true)

pub returns-else-is_ordered : goal.returns-else-is_ordered
returns-else-is_ordered c =
    let tested = c.before in
    let start = tested.before.before in
    refused (λ (t : Transport). ordered t.loop_region) (λ (t : Transport). seek start.args.num_frames t start.args.position) tested.from-given.ensures
    (sym tested.is_ordered.ensures ∙ c.if-is_ordered.false)
