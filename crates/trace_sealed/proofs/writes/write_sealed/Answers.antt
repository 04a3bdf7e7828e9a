-- `trace_sealed::writes::write_sealed`: each return is one of the ways of proofs/Sends.antt.
use Rattle.std.proofs.Common.{◌+◌, ◌-◌, ◌≤◌, length, arith}
use Rattle.trace_sealed.specs.Tables.{kind_number}
use Rattle.trace_sealed.proofs.Ways.{rows_long, rows_sound, count_few}
use Rattle.trace_sealed.proofs.Sends.{first_fits, unfit, not_whole, whole, few, no_room, written}
use Rattle.trace_sealed.proofs.writes.write_sealed.Goals as goal

pub rows_fit-requires : goal.rows_fit-requires
rows_fit-requires c = rw c.rows-rows.ensures (omega (arith, rows_long, count_few))

pub returns-then-not-rows_fit : goal.returns-then-not-rows_fit
returns-then-not-rows_fit c = unfit _ _ _ _ _ _ c.rows-rows.ensures c.if-not-rows_fit.ensures

pub lane_bytes-w-requires : goal.lane_bytes-w-requires
lane_bytes-w-requires c = first_fits _ _ _ c.rows-rows.ensures c.if-not-rows_fit.ensures

pub returns-then-lanes-w : goal.returns-then-lanes-w
returns-then-lanes-w c = not_whole _ _ _ _ _ _ c.rows-rows.ensures c.if-not-rows_fit.ensures _ c.lane_bytes-w.ensures c.if-lanes-w.true

pub rows_length-requires : goal.rows_length-requires
rows_length-requires c = (rw c.rows-rows.ensures (omega (arith, rows_long, count_few)), rw c.rows-rows.ensures (rows_sound (kind_number c.args.kind)))

pub overflow_add-n : goal.overflow_add-n
overflow_add-n c =
    let x = whole _ _ _ _ _ _ c.rows-rows.ensures c.if-not-rows_fit.ensures c.lane_bytes-w.ensures c.if-lanes-w.false c.rows_length.ensures in
    record { fits = omega (arith, few _ _ _ _ _ x) }

pub overflow_add-n-2 : goal.overflow_add-n-2
overflow_add-n-2 c =
    let x = whole _ _ _ _ _ _ c.rows-rows.ensures c.if-not-rows_fit.ensures c.lane_bytes-w.ensures c.if-lanes-w.false c.rows_length.ensures in
    record { fits = omega (arith, few _ _ _ _ _ x) }

pub overflow_add-n-3 : goal.overflow_add-n-3
overflow_add-n-3 c =
    let x = whole _ _ _ _ _ _ c.rows-rows.ensures c.if-not-rows_fit.ensures c.lane_bytes-w.ensures c.if-lanes-w.false c.rows_length.ensures in
    record { fits = omega (arith, few _ _ _ _ _ x) }

pub returns-then-saturating_sub-n : goal.returns-then-saturating_sub-n
returns-then-saturating_sub-n c =
    let x = whole _ _ _ _ _ _ c.rows-rows.ensures c.if-not-rows_fit.ensures c.lane_bytes-w.ensures c.if-lanes-w.false c.rows_length.ensures in
    no_room _ _ _ _ _ _ _ x (omega (arith, c.saturating_sub.ensures, c.if-saturating_sub-n.true))

pub seal-requires : goal.seal-requires
seal-requires c =
    let x = whole _ _ _ _ _ _ c.rows-rows.ensures c.if-not-rows_fit.ensures c.lane_bytes-w.ensures c.if-lanes-w.false c.rows_length.ensures in
    (omega (arith, c.saturating_sub.ensures, c.if-saturating_sub-n.false), omega (arith, x.fields, x.equal))

pub returns : goal.returns
returns c =
    let x = whole _ _ _ _ _ _ c.rows-rows.ensures c.if-not-rows_fit.ensures c.lane_bytes-w.ensures c.if-lanes-w.false c.rows_length.ensures in
    let room : 5 + (c.rows_length.result + c.lane_bytes-w.result + 4) ≤ length c.args.buf.now - c.args.at = omega (arith, c.saturating_sub.ensures, c.if-saturating_sub-n.false) in
    written _ _ _ _ _ _ _ x room c.seal.new.buf c.seal.result c.seal.ensures.0 c.seal.ensures.1
