-- `cableowl_merge_copies` meets its contract: the merged copy and the number.
use mathlib.Core.Path.{ap, ◌∙◌}
use Rattle.cableowl.specs.Loops.{copy_changed_c}
use Rattle.cableowl.proofs.copies.cableowl_merge_copies.Goals as goal

pub returns : goal.returns
returns c = c.changed.ensures ∙ ap copy_changed_c c.merge.ensures
