-- `cableowl::answer` meets its contract: the new state, or the given one.
use Rattle.cableowl.specs.Entries.{after}
use Rattle.cableowl.proofs.Answers.{after_accepted, after_refused}
use Rattle.cableowl.proofs.answer.Goals as goal

pub returns-in-Ok : goal.returns-in-Ok
unfolding after
returns-in-Ok c = rw (c.in-Ok.is, c.encode.ensures)

pub returns-in-Err : goal.returns-in-Err
returns-in-Err c = rw (c.in-Err.is, c.from.ensures, ← after_refused c.in-Err.refusal _ c.args.state)
