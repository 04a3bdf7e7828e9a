-- `cableowl_store_half` meets its contract.
use mathlib.Core.Path.{◌∙◌}
use Rattle.cableowl.proofs.halves.cableowl_store_half.Goals as goal

pub returns : goal.returns
returns c = (c.number_of.ensures ∙ c.store.ensures.0, c.store.ensures.1)
