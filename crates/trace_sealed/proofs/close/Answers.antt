-- `trace_sealed::close`: each return is one of the ways of proofs/Ways.antt.
use Rattle.std.proofs.Common.{◌∙◌, arith}
use Rattle.std.proofs.lemmas.Result.{err_from_is_err_and}
use Rattle.trace_sealed.proofs.Ways.{tail_wrong, room, sum_wrong, sum_right}
use Rattle.trace_sealed.proofs.close.Goals as goal

pub returns-in_err-check_tail : goal.returns-in_err-check_tail
returns-in_err-check_tail c =
    let a = c.args in
    let p = err_from_is_err_and c.from_residual.result c.from_residual.ensures.1 in
    rw (p.1, p.2) (tail_wrong a.s.now a.at _ a.n a.fields c.requires c.lane_bytes-w.result c.lane_bytes-w.ensures _ c.in_err-check_tail.ensures)

pub overflow_add-sum : goal.overflow_add-sum
overflow_add-sum c =
    let a = c.args in
    let r = room a.s.now a.at _ a.n a.fields c.requires c.lane_bytes-w.result c.lane_bytes-w.ensures c.in_ok-check_tail.ensures in
    record { fits = omega (arith, r) }

pub number-requires : goal.number-requires
number-requires c =
    let a = c.args in
    (room a.s.now a.at _ a.n a.fields c.requires c.lane_bytes-w.result c.lane_bytes-w.ensures c.in_ok-check_tail.ensures, omega arith)

pub returns-then-number-from : goal.returns-then-number-from
returns-then-number-from c =
    let a = c.args in
    sum_wrong a.s.now a.at _ a.n a.fields c.requires c.lane_bytes-w.result c.lane_bytes-w.ensures c.in_ok-check_tail.ensures c.number.result c.from.result c.number.ensures (c.from.ensures ∙ c.checksum-wanted.ensures) c.if-number-from.true

pub overflow_add-result : goal.overflow_add-result
overflow_add-result c =
    let a = c.args in
    let r = room a.s.now a.at _ a.n a.fields c.requires c.lane_bytes-w.result c.lane_bytes-w.ensures c.in_ok-check_tail.ensures in
    record { fits = omega (arith, r) }

pub returns : goal.returns
returns c =
    let a = c.args in
    rw c.from-2.ensures
    (sum_right a.s.now a.at _ a.n a.fields c.requires c.lane_bytes-w.result c.lane_bytes-w.ensures c.in_ok-check_tail.ensures c.number.result c.from.result c.number.ensures (c.from.ensures ∙ c.checksum-wanted.ensures) c.if-number-from.false)
