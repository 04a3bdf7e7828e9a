-- `theorems_sound_length::promised` is empty; its contract is the record of all theorems.
use Rattle.theorems_sound_length.proofs.Promises.{promises}
use Rattle.theorems_sound_length.proofs.promised.Goals as goal

pub returns : goal.returns
returns c = promises
