-- `cableowl_fade_ramp` meets its contract.
use mathlib.Core.Path.{◌∙◌}
use Rattle.cableowl.proofs.fades.cableowl_fade_ramp.Goals as goal

pub returns : goal.returns
returns c = (c.number_of.ensures ∙ c.fade_ramp.ensures.0, c.fade_ramp.ensures.1)
