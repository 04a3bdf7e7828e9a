-- `changed`: the table and the number.
use Rattle.cableowl.proofs.Results.{changed_value_or}
use Rattle.cableowl.proofs.loops.changed.Goals as goal

pub returns : goal.returns
returns c = rw c.value_or-refusal.ensures (changed_value_or c.args.given c.args.answer)
