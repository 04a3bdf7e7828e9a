-- `test_exports::moves::is_well_formed_transport` meets its contract: the three tests of `well_formed_transport`. Assumes nothing.
use Rattle.test_exports.proofs.moves.is_well_formed_transport.Goals as goal

pub returns : goal.returns
returns c = rw c.is_within.ensures
