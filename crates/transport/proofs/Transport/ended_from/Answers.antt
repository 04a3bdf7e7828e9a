-- `transport::Transport::ended_from` meets its contract: its test is that of `landed`.
-- Assumes nothing.
use mathlib.Core.Path.{sym}
use Rattle.transport.proofs.Steps.{landed_past, landed_inside}
use Rattle.transport.proofs.Transport.ended_from.Goals as goal

pub returns-then-self-num_frames : goal.returns-then-self-num_frames
returns-then-self-num_frames c = let a = c.args in sym (landed_past a.num_frames a.self a.self.position c.if-self-num_frames.true)

pub returns-else-self-num_frames : goal.returns-else-self-num_frames
returns-else-self-num_frames c = let a = c.args in sym (landed_inside a.num_frames a.self a.self.position c.if-self-num_frames.false)
