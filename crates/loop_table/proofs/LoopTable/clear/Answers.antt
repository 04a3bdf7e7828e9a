-- `loop_table::LoopTable::clear` meets its contract: the tests of `refused_clear` in the same order, and the change. Assumes nothing.
use mathlib.Core.Path.{sym, ◌∙◌}
use Rattle.std.proofs.lemmas.Result.{err_from_is_err_and}
use Rattle.loop_table.specs.Tables.{refused_clear, cleared}
use Rattle.loop_table.proofs.Accepted.{clear_accepted, refused_first, passed_first, refused_change, accepted_change}
use Rattle.loop_table.proofs.LoopTable.clear.Goals as goal

pub returns-in_err-check : goal.returns-in_err-check
unfolding cleared refused_clear
returns-in_err-check c =
    let p = err_from_is_err_and c.from_residual.result c.from_residual.ensures.1 in
    rw (p.1, p.2) (refused_change _ _ _ _ _ (refused_first _ _ _ c.in_err-check.ensures))

pub returns-in_err-check-2 : goal.returns-in_err-check-2
unfolding cleared refused_clear
returns-in_err-check-2 c =
    let p = err_from_is_err_and c.from_residual-in_err-check-2.result c.from_residual-in_err-check-2.ensures.1 in
    rw (p.1, p.2) (refused_change _ _ _ _ _ (c.in_err-check-2.ensures ∙ sym (passed_first _ _ c.in_ok-check.ensures)))

pub stored-requires : goal.stored-requires
unfolding refused_clear
stored-requires c = (clear_accepted _ c.args.hall _ (passed_first c.args.self _ c.in_ok-check.ensures ∙ sym c.in_ok-check-2.ensures)).1.among

pub returns : goal.returns
unfolding cleared refused_clear
returns c = accepted_change _ _ _ _ _ (c.in_ok-check-2.ensures ∙ sym (passed_first _ _ c.in_ok-check.ensures)) c.stored.ensures
