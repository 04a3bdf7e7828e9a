-- `transport::Transport::wraps` meets its contract: by whether it plays, and by the direction.
-- Assumes nothing.
use borrow.Author.Rules.{rules}
use Rattle.transport.specs.Moves.{wraps}
use Rattle.transport.proofs.Transport.wraps.Goals as goal

pub returns-then-backwards : goal.returns-then-backwards
unfolding wraps
returns-then-backwards c = search rules

pub returns-else-backwards : goal.returns-else-backwards
unfolding wraps
returns-else-backwards c = search rules

pub returns-else-self : goal.returns-else-self
unfolding wraps
returns-else-self c = search rules
