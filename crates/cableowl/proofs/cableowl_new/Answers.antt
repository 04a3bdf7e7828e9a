-- `cableowl_new` meets its contract: creation between records of numbers.
use Rattle.cableowl.specs.Entries.{created_c}
use Rattle.cableowl.proofs.cableowl_new.Goals as goal

pub returns : goal.returns
unfolding created_c
returns c = rw (c.create.ensures, c.from.ensures)
