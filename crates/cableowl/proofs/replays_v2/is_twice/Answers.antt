-- `is_twice`: halves and the rest.
use Rattle.cableowl.proofs.ReplayStepsV2.{twice}
use Rattle.cableowl.proofs.replays_v2.is_twice.Goals as goal

pub returns : goal.returns
returns c = twice c.args.n c.args.frames
