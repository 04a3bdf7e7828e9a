-- `transport::Transport::seek_to` meets its contract: the position from the side that the seek goes to, the end from `ended_from`.
-- Assumes nothing.
use borrow.Author.Rules.{rules}
use Rattle.transport.specs.Moves.{seek}
use Rattle.transport.proofs.Transport.seek_to.Goals as goal

pub returns : goal.returns
unfolding seek
returns c = search rules
