-- `trace_sealed::check_tail` meets its contract: the tests one after the other. Assumes nothing.
use Rattle.trace_sealed.proofs.Ways.{lanes_missing, not_at_the_checksum, checksum_missing, tail_there, in_the_checksum, payload_missing}
use Rattle.trace_sealed.proofs.check_tail.Goals as goal

pub returns-then-input-w : goal.returns-then-input-w
returns-then-input-w c = lanes_missing _ _ _ c.if-w-left.true c.if-input-w.true

pub returns-then-w-left-2 : goal.returns-then-w-left-2
returns-then-w-left-2 c = not_at_the_checksum _ _ _ c.if-w-left.true c.if-input-w.false c.if-w-left-2.true

pub returns-then-input-w-lt4 : goal.returns-then-input-w-lt4
returns-then-input-w-lt4 c = checksum_missing _ _ _ c.if-w-left.true c.if-input-w.false c.if-w-left-2.false c.if-input-w-lt4.true

pub returns-then-w-left : goal.returns-then-w-left
returns-then-w-left c = tail_there _ _ _ c.if-w-left.true c.if-input-w.false c.if-w-left-2.false c.if-input-w-lt4.false

pub returns-then-left-input : goal.returns-then-left-input
returns-then-left-input c = in_the_checksum _ _ _ c.if-w-left.false c.if-left-input.true

pub returns : goal.returns
returns c = payload_missing _ _ _ c.if-w-left.false c.if-left-input.false
