-- `holds` is its two tests, in whole frames.
use Rattle.static_sound.proofs.Places.{holds_even, holds_odd}
use Rattle.static_sound.proofs.holds.Goals as goal

pub returns-then-samples-eq0 : goal.returns-then-samples-eq0
returns-then-samples-eq0 c = holds_even _ _ c.if-samples-eq0.true

pub returns-else-samples-eq0 : goal.returns-else-samples-eq0
returns-else-samples-eq0 c = holds_odd _ _ c.if-samples-eq0.false
