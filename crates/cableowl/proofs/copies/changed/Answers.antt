-- `changed`: the copy and the number.
use Rattle.cableowl.proofs.Results.{copy_value_or}
use Rattle.cableowl.proofs.copies.changed.Goals as goal

pub returns : goal.returns
returns c = rw c.value_or-refusal.ensures (copy_value_or c.args.given c.args.answer)
