-- `check`: test by test.
use mathlib.Core.Path.{◌∙◌}
use Rattle.cableowl.proofs.ReplaySteps.{number_1, number_room}
use Rattle.cableowl.proofs.replays.check.Goals as goal

pub returns-then-not-replay-sound : goal.returns-then-not-replay-sound
returns-then-not-replay-sound c = let a = c.args in number_1 a.replay a.sound a.out c.if-not-replay-sound.true

pub returns : goal.returns
returns c = let a = c.args in c.check_room.ensures ∙ number_room a.replay a.sound a.out c.if-not-replay-sound.false
