-- `trace_records::writes::write`: each return is one of the ways of proofs/Sends.antt.
use Rattle.std.proofs.Common.{sym, arith}
use Rattle.std.proofs.lemmas.Result.{err_from_is_err_and}
use Rattle.trace_records.specs.Tables.{kind_number}
use Rattle.trace_records.proofs.Rounds.{body_long, body_sound, fields_few}
use Rattle.trace_records.proofs.Sends.{chosen, no_kind, unfit, few, no_room, written}
use Rattle.trace_records.proofs.writes.write.Goals as goal

pub returns-in_err-try_from : goal.returns-in_err-try_from
returns-in_err-try_from c =
    let p = err_from_is_err_and c.from_residual.result c.from_residual.ensures.1 in
    rw (p.1, p.2, c.in_err-try_from.ensures.0) (no_kind _ _ _ _ (sym c.in_err-try_from.ensures.1))

pub rows_fit-requires : goal.rows_fit-requires
rows_fit-requires c = rw c.rows-rows.ensures (omega (arith, body_long, fields_few))

pub returns-then-not-rows_fit : goal.returns-then-not-rows_fit
returns-then-not-rows_fit c =
    let x = chosen _ _ _ c.in_ok-try_from.ensures c.rows-rows.ensures in
    unfit _ _ x _ _ _ c.if-not-rows_fit.ensures

pub rows_length-n-requires : goal.rows_length-n-requires
rows_length-n-requires c = (rw c.rows-rows.ensures (omega (arith, body_long, fields_few)), rw c.rows-rows.ensures (body_sound (kind_number c.in_ok-try_from.field-0)))

pub overflow_add-n : goal.overflow_add-n
overflow_add-n c =
    let x = chosen _ _ _ c.in_ok-try_from.ensures c.rows-rows.ensures in
    omega (arith, few _ _ x _ c.if-not-rows_fit.ensures _ c.rows_length-n.ensures)

pub returns-then-saturating_sub-n : goal.returns-then-saturating_sub-n
returns-then-saturating_sub-n c =
    let x = chosen _ _ _ c.in_ok-try_from.ensures c.rows-rows.ensures in
    no_room _ _ x _ c.if-not-rows_fit.ensures _ c.rows_length-n.ensures _ _ (omega (arith, c.saturating_sub.ensures, c.if-saturating_sub-n.true))

pub put_rows-requires : goal.put_rows-requires
put_rows-requires c = (rw c.rows-rows.ensures (omega (arith, body_long, fields_few)), omega (arith, c.put_head-start.auto.buf))

pub returns : goal.returns
returns c =
    let x = chosen _ _ _ c.in_ok-try_from.ensures c.rows-rows.ensures in
    let h = c.put_head-start in
    let r = c.put_rows in
    written _ _ x _ c.if-not-rows_fit.ensures _ c.rows_length-n.ensures _ _ (omega (arith, c.saturating_sub.ensures, c.if-saturating_sub-n.false)) _ _ _ _ h.ensures.0 h.ensures.1 r.ensures.0 r.ensures.1
