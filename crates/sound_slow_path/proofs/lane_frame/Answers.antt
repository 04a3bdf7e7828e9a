-- `lane_frame` is 0 for lanes of one frame.
use borrow.Author.Tests.{eq-eqb, ne_eqb}
use Rattle.sound_slow_path.proofs.lane_frame.Goals as goal

pub returns-then-frames-eq1 : goal.returns-then-frames-eq1
returns-then-frames-eq1 c = simp (eq-eqb _ _ c.if-frames-eq1.true)

pub returns-else-frames-eq1 : goal.returns-else-frames-eq1
returns-else-frames-eq1 c = simp (ne_eqb _ _ c.if-frames-eq1.false)
