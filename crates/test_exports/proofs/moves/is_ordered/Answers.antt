-- `test_exports::moves::is_ordered` meets its contract: each arm is a case of `ordered`. Assumes nothing.
use Rattle.test_exports.proofs.moves.is_ordered.Goals as goal

pub returns-in-Some : goal.returns-in-Some
returns-in-Some c = rw c.in-Some.is
