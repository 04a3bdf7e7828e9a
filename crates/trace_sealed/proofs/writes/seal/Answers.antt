-- `trace_sealed::writes::seal`: head, fields, lanes, then the checksum of what was written.
use Rattle.std.proofs.Common.{[], ◌∙◌, ap, arith}
use Rattle.std.proofs.lemmas.List.Edits.{sets}
use Rattle.byte_layout.specs.Writes.{payload}
use Rattle.trace_records.specs.Tables as of-version-1
use Rattle.trace_records.specs.Writes.{head_of}
use Rattle.trace_sealed.proofs.Ways.{rows_long, count_few}
use Rattle.trace_sealed.proofs.Sends.{rows_size, fields_end, sealing}
use Rattle.trace_sealed.proofs.writes.seal.Goals as goal

pub put_rows-start-requires : goal.put_rows-start-requires
put_rows-start-requires c =
    let l = rows_size _ _ c.args.values c.rows.ensures in
    (rw c.rows.ensures (omega (arith, rows_long, count_few)), omega (arith, l, c.put_head-fields.auto.buf, c.put_head-fields.ensures.1, c.requires.0, c.requires.1))

pub copy-requires : goal.copy-requires
copy-requires c =
    let l = fields_end _ _ _ c.args.lanes.now _ _ _ _ c.rows.ensures c.requires.1 c.put_head-fields.ensures.1 c.put_rows-start.ensures.1 in
    (omega arith, omega arith, omega (arith, l, c.put_rows-start.auto.buf, c.put_head-fields.auto.buf, c.requires.0))

pub overflow_add-start : goal.overflow_add-start
overflow_add-start c =
    let l = fields_end _ _ _ c.args.lanes.now _ _ _ _ c.rows.ensures c.requires.1 c.put_head-fields.ensures.1 c.put_rows-start.ensures.1 in
    record { fits = omega (arith, l, c.requires.0) }

pub put_number-requires : goal.put_number-requires
put_number-requires c =
    let l = fields_end _ _ _ c.args.lanes.now _ _ _ _ c.rows.ensures c.requires.1 c.put_head-fields.ensures.1 c.put_rows-start.ensures.1 in
    omega (arith, l, c.copy.auto.out, c.put_rows-start.auto.buf, c.put_head-fields.auto.buf, c.requires.0)

pub overflow_add-result : goal.overflow_add-result
overflow_add-result c =
    let l = fields_end _ _ _ c.args.lanes.now _ _ _ _ c.rows.ensures c.requires.1 c.put_head-fields.ensures.1 c.put_rows-start.ensures.1 in
    record { fits = omega (arith, l, c.requires.0) }

pub overflow_add-result-2 : goal.overflow_add-result-2
overflow_add-result-2 c =
    let l = fields_end _ _ _ c.args.lanes.now _ _ _ _ c.rows.ensures c.requires.1 c.put_head-fields.ensures.1 c.put_rows-start.ensures.1 in
    record { fits = omega (arith, l, c.requires.0) }

pub returns : goal.returns
returns c =
    let a = c.args in
    let h = c.put_head-fields in
    let f = c.put_rows-start in (
      sealing _ _ _ _ _ _ _ c.requires.0 c.requires.1 c.rows.ensures _ _ _ _ _ _ _
          (h.ensures.0 ∙ ap (λ z. sets a.buf.now a.at (payload of-version-1.head_rows [] (head_of z a.n))) c.from.ensures) h.ensures.1
          f.ensures.0 f.ensures.1 c.copy.ensures (c.from-2.ensures ∙ c.checksum-sum.ensures) c.put_number.ensures,
      fields_end _ _ _ c.args.lanes.now _ _ _ _ c.rows.ensures c.requires.1 c.put_head-fields.ensures.1 c.put_rows-start.ensures.1,
    )
