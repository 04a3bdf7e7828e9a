-- `written`: the offset and the number.
use Rattle.cableowl.proofs.Results.{sent_value_or}
use Rattle.cableowl.proofs.traces.written.Goals as goal

pub returns : goal.returns
returns c = rw (c.from.ensures, c.value_or-next.ensures) (sent_value_or c.args.at c.args.answer)
