-- `loop_table::LoopTable::write` meets its contract: the tests of `refused_write` in the same order, and the change. Assumes nothing.
use mathlib.Core.Path.{◌≡◌, refl, sym, ◌∙◌}
use Rattle.std.proofs.lemmas.Result.{err_from_is_err_and}
use Rattle.loop_table.specs.Tables.{refused_slot, refused_write, written}
use Rattle.loop_table.proofs.Accepted.{write_accepted, refused_first, passed_first, refused_change, accepted_change}
use Rattle.loop_table.proofs.LoopTable.write.Goals.{Else-not-is_loop}
use Rattle.loop_table.proofs.LoopTable.write.Goals as goal

-- the table and the loop have passed: the slot decides
slot-decides : (c : Else-not-is_loop) → let a = c.args in refused_write a.self a.hall a.slot a.start a.end ≡ refused_slot a.hall a.slot
unfolding refused_write
slot-decides c = rw (passed_first _ _ c.in_ok-check.ensures, ← c.if-not-is_loop.ensures) refl

pub returns-in_err-check : goal.returns-in_err-check
unfolding written refused_write
returns-in_err-check c =
    let p = err_from_is_err_and c.from_residual.result c.from_residual.ensures.1 in
    rw (p.1, p.2) (refused_change _ _ _ _ _ (refused_first _ _ _ c.in_err-check.ensures))

pub returns-then-not-is_loop : goal.returns-then-not-is_loop
unfolding written refused_write
returns-then-not-is_loop c = rw (passed_first _ _ c.in_ok-check.ensures, ← c.if-not-is_loop.ensures)

pub returns-in_err-check-2 : goal.returns-in_err-check-2
unfolding written
returns-in_err-check-2 c =
    let p = err_from_is_err_and c.from_residual-in_err-check-2.result c.from_residual-in_err-check-2.ensures.1 in
    rw (p.1, p.2) (refused_change _ _ _ _ _ (c.in_err-check-2.ensures ∙ sym (slot-decides (goal.at.returns-in_err-check-2 c).Else-not-is_loop)))

pub stored-requires : goal.stored-requires
stored-requires c =
    (write_accepted c.args.self c.args.hall _ c.args.start c.args.end (slot-decides (goal.at.stored-requires c).Else-not-is_loop ∙ sym c.in_ok-check-2.ensures)).2.among

pub returns : goal.returns
unfolding written
returns c = accepted_change _ _ _ _ _ (c.in_ok-check-2.ensures ∙ sym (slot-decides (goal.at.returns c).Else-not-is_loop)) c.stored.ensures
