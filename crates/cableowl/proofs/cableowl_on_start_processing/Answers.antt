-- `cableowl_on_start_processing` meets its contract: the command set between records of numbers.
use Rattle.cableowl.specs.Entries.{commanded_c}
use Rattle.cableowl.proofs.cableowl_on_start_processing.Goals as goal

pub returns : goal.returns
unfolding commanded_c
returns c = rw (c.command.ensures, c.from.ensures)
