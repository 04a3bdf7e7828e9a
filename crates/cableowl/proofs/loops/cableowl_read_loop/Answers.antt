-- `cableowl_read_loop` meets its contract: the slot and the number.
use mathlib.Core.Path.{ap, ◌∙◌}
use Rattle.cableowl.specs.Loops.{found_c}
use Rattle.cableowl.proofs.Results.{found_value_or}
use Rattle.cableowl.proofs.loops.cableowl_read_loop.Goals as goal

pub returns : goal.returns
returns c = rw c.value_or-refusal.ensures (found_value_or c.read.result ∙ ap found_c c.read.ensures)
