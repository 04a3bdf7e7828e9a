-- `semitones::promised` meets its contract: it proves the theorems. Assumes nothing.
use Rattle.semitones.proofs.Promises.{kept}
use Rattle.semitones.proofs.promised.Goals as goal

pub returns : goal.returns
returns c = kept
