-- `check`: test by test.
use mathlib.Core.Path.{◌∙◌}
use Rattle.cableowl.proofs.ReplayStepsV2.{number_1_v2, number_room_v2}
use Rattle.cableowl.proofs.replays_v2.check.Goals as goal

pub returns-then-not-replay-held : goal.returns-then-not-replay-held
returns-then-not-replay-held c = let a = c.args in number_1_v2 a.replay a.sound a.out c.if-not-replay-held.true

pub returns : goal.returns
returns c = let a = c.args in c.check_room.ensures ∙ number_room_v2 a.replay a.sound a.out c.if-not-replay-held.false
