-- `saved_settings::numbers` meets its contract. Assumes nothing.
use Rattle.saved_settings.proofs.Stores.{listed}
use Rattle.saved_settings.proofs.numbers.Goals as goal

pub returns : goal.returns
returns c = listed c.args.version c.args.s _ _ _ _ c.number.ensures c.size.ensures c.copy_from_slice.ensures.after
