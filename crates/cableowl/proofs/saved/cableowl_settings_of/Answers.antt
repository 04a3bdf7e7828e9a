-- `cableowl::cableowl_settings_of` meets its contract. Assumes nothing.
use mathlib.Core.Path.{◌≡◌, refl, ◌∙◌}
use Rattle.cableowl.proofs.saved.cableowl_settings_of.Goals as goal

pub returns : goal.returns
returns c = rw (c.rate_of.ensures, c.tag_of-2.ensures, c.tag_of.ensures, c.frame-4.ensures, c.frame-3.ensures, c.frame-2.ensures, c.frame.ensures, c.frame-start.ensures) refl
