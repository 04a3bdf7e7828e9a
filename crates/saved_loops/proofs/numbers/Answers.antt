-- `saved_loops::numbers` meets its contract. Assumes nothing.
use mathlib.Core.Path.{◌≡◌}
use lib.ListN.{length}
use Rattle.saved_loops.proofs.Stores.{listed}
use borrow.Author.Rules.{rules}
use Rattle.saved_loops.proofs.numbers.Goals.{Start}
use Rattle.saved_loops.proofs.numbers.Goals as goal

nineteen : (c : Start) → length c.args.words ≡ 19
nineteen c = search rules

pub returns : goal.returns
returns c = listed c.args.words _ _ (nineteen (goal.at.returns c).Start) c.copy_from_slice.ensures.after
