-- `theorems_replay::promised` meets its contract: it proves the theorems. Assumes nothing.
use Rattle.theorems_replay.proofs.Promises.{all_kept}
use Rattle.theorems_replay.proofs.promised.Goals as goal

pub returns : goal.returns
returns c = all_kept
