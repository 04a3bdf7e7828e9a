-- `transport::Transport::new` meets its contract: its test is the definition's.
-- Assumes nothing.
use Rattle.transport.proofs.Transport.new.Goals as goal

pub returns-then-reverse : goal.returns-then-reverse
returns-then-reverse c = simp c.if-reverse.true

pub returns-else-reverse : goal.returns-else-reverse
returns-else-reverse c = simp c.if-reverse.false
