-- `saved_settings::promised` meets its contract: it proves the theorems. Assumes nothing.
use Rattle.saved_settings.proofs.Promises.{all_kept}
use Rattle.saved_settings.proofs.promised.Goals as goal

pub returns : goal.returns
returns c = all_kept
