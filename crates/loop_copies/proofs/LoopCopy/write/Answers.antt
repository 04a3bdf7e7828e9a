-- `loop_copies::LoopCopy::write` meets its contract: the table's own write, counted.
use Rattle.std.proofs.lemmas.Result.{err_from_is_err_and}
use Rattle.loop_copies.specs.Copies.{copy_written}
use Rattle.loop_copies.proofs.Counts.{counted_refused, counted_accepted}
use Rattle.loop_copies.proofs.LoopCopy.write.Goals as goal

pub returns-in_err-table : goal.returns-in_err-table
unfolding copy_written
returns-in_err-table c =
    let p = err_from_is_err_and c.from_residual.result c.from_residual.ensures.1 in
    rw (p.1, p.2) (counted_refused _ _ _ _ c.in_err-table.ensures)

pub returns : goal.returns
unfolding copy_written
returns c = counted_accepted _ _ _ _ _ c.in_ok-table.ensures c.count.ensures
