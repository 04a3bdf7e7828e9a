-- `loop_table::LoopTable::read` meets its contract: it makes the tests of `refused_read` in the same order. Assumes nothing.
use mathlib.Core.Path.{◌≡◌}
use borrow.Author.Tests.{le-leb, lt-leb}
use Rattle.std.proofs.lemmas.Result.{err_from_is_err_and}
use Rattle.loop_table.specs.Tables.{is_empty, held_in, refused_read, found}
use Rattle.loop_table.proofs.Accepted.{refused_found, passed_first}
use Rattle.loop_table.proofs.LoopTable.read.Goals.{After-is_empty}
use Rattle.loop_table.proofs.LoopTable.read.Goals as goal

empty-told : (c : After-is_empty) → let a = c.args in c.is_empty.result ≡ is_empty (held_in a.self a.slot)
empty-told c = c.is_empty.ensures

pub returns-in_err-check : goal.returns-in_err-check
returns-in_err-check c =
    let p = err_from_is_err_and c.from_residual.result c.from_residual.ensures.1 in
    rw (p.1, p.2) (refused_found _ _ _ c.in_err-check.ensures)

pub returns-then-slot-gt15 : goal.returns-then-slot-gt15
unfolding refused_read found
returns-then-slot-gt15 c = rw (passed_first _ _ c.in_ok-check.ensures, lt-leb _ _ c.if-slot-gt15.true)

pub returns-then-is_empty : goal.returns-then-is_empty
unfolding refused_read found
returns-then-is_empty c =
    rw (passed_first _ _ c.in_ok-check.ensures, le-leb _ _ c.if-slot-gt15.false, ← empty-told (goal.at.returns-then-is_empty c).After-is_empty, c.if-is_empty.true)

pub returns : goal.returns
unfolding refused_read found
returns c =
    rw (passed_first _ _ c.in_ok-check.ensures, le-leb _ _ c.if-slot-gt15.false, ← empty-told (goal.at.returns c).After-is_empty, c.if-is_empty.false)
