-- `test_exports::moves::cableowl_test_new_transport` meets its contract: the test is what `new` requires. Assumes nothing.
use Rattle.std.specs.Prelude.{ℕ, Option}
use mathlib.Core.Path.{ap, ap₂, ◌∙◌}
use mathlib.Core.Bool.{Bool}
use borrow.Author.Tests.{lt-ltb, le-ltb}
use Rattle.transport.specs.Moves.{begun}
use Rattle.test_exports.specs.Moves.{plain_transport}
use Rattle.test_exports.proofs.moves.cableowl_test_new_transport.Goals as goal

pub returns-then-start_position-num_frames : goal.returns-then-start_position-num_frames
returns-then-start_position-num_frames c =
    let made = c.before in
    let given = made.before in
    let start = given.before.before.before in
    rw (lt-ltb _ _ given.if-start_position-num_frames.true)
    (c.from.ensures
    ∙ ap plain_transport
    (made.new.ensures
    ∙ ap₂ (λ (b : Bool) (r : Option (ℕ × ℕ)). begun start.args.num_frames b r start.args.start_position) given.is_yes.ensures given.range_of.ensures))

pub returns-else-start_position-num_frames : goal.returns-else-start_position-num_frames
returns-else-start_position-num_frames c = simp (le-ltb _ _ c.if-start_position-num_frames.false)
