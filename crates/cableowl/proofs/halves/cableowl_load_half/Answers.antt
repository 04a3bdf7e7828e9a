-- `cableowl_load_half` meets its contract: what is loaded. Assumes nothing.
use Rattle.cableowl.proofs.Results.{half_value_or}
use Rattle.cableowl.proofs.halves.cableowl_load_half.Goals as goal

pub returns : goal.returns
returns c = rw c.value_or-refusal.ensures (half_value_or c.load.result _ c.load.ensures)
