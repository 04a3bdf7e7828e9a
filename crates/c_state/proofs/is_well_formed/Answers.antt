-- `c_state::is_well_formed` meets its contract, test by test.
use Rattle.c_state.specs.Records.{well_formed_state}
use Rattle.c_state.proofs.is_well_formed.Goals as goal

pub returns : goal.returns
unfolding well_formed_state
returns c = rw (c.is_range.ensures, c.is_range-2.ensures)
