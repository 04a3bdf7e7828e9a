-- `saved_loops::put_numbers` meets its contract. Assumes nothing.
use mathlib.Core.Path.{◌≡◌}
use native.Mathlib.Omega.{arith}
use lib.ListN.{length}
use Rattle.saved_loops.specs.Tables.{half_rows}
use Rattle.saved_loops.proofs.Stores.{half_room, half_put}
use borrow.Author.Rules.{rules}
use Rattle.saved_loops.proofs.put_numbers.Goals.{Start}
use Rattle.saved_loops.proofs.put_numbers.Goals as goal

nineteen : (c : Start) → length c.args.words ≡ 19
nineteen c = search rules

pub put_rows-requires : goal.put_rows-requires
unfolding half_rows
put_rows-requires c =
    (omega arith, half_room c.args.words c.numbers.result _ (nineteen (goal.at.put_rows-requires c).Start) c.numbers.ensures c.requires)

pub returns : goal.returns
unfolding half_rows
returns c = half_put c.args.words c.numbers.result c.args.buffer.now _ c.numbers.ensures c.put_rows.ensures.0
