-- `trace_sealed::read_sealed`: each return is one of the ways of proofs/Ways.antt.
use Rattle.std.proofs.Common.{refl, sym, ap, ◌∙◌, arith, get_or-take}
use Rattle.std.proofs.lemmas.Result.{err_from_is_err_and}
use Rattle.byte_layout.specs.declared.Parsed.{Parsed}
use Rattle.byte_layout.specs.Reads.{steps}
use Rattle.byte_layout.proofs.Codec.{never}
use Rattle.byte_layout.proofs.Numbers.{small_drop}
use Rattle.byte_layout.proofs.Ways.{begun}
use Rattle.trace_sealed.specs.Tables.{head_rows, kind_number}
use Rattle.trace_sealed.specs.Writes.{sealed_kind}
use Rattle.trace_sealed.proofs.Rounds.{kind_read}
use Rattle.trace_sealed.proofs.Ways.{head_rows_sound, rows_long, rows_sound, count_few, some, no_head, no_length, no_fields, fields_read, closes}
use Rattle.trace_sealed.proofs.read_sealed.Goals as goal

pub read_rows-requires : goal.read_rows-requires
unfolding head_rows
read_rows-requires c = (omega (arith, ap (λ (x : Parsed). x.at) c.begin.ensures, c.requires), omega arith, head_rows_sound)

pub returns-in_err-head : goal.returns-in_err-head
unfolding head_rows
returns-in_err-head c =
    let a = c.args in
    let p = err_from_is_err_and c.from_residual.result c.from_residual.ensures.1 in
    rw (p.1, p.2) (no_head a.s.now a.at _ (c.in_err-head.ensures.0 ∙ ap (steps head_rows) (begun a.s.now a.at 5 _ c.begin.ensures)))

pub returns-in_err-kind : goal.returns-in_err-kind
unfolding head_rows
returns-in_err-kind c =
    let a = c.args in
    let h = c.in_ok-head.head in
    let e = c.in_ok-head.ensures.0 ∙ ap (steps head_rows) (begun a.s.now a.at 5 _ c.begin.ensures) in
    never (sym c.in_err-kind.ensures.1 ∙ ap sealed_kind (sym (get_or-take 4 h.values 2 0 (omega arith))) ∙ kind_read _ h.left _ _ (small_drop a.at a.s.now (λ i. let q = c.type_inv.s i in omega (arith, q))) (sym e))

pub returns-then-not-is_possible : goal.returns-then-not-is_possible
unfolding head_rows
returns-then-not-is_possible c =
    let a = c.args in
    let e = c.in_ok-head.ensures.0 ∙ ap (steps head_rows) (begun a.s.now a.at 5 _ c.begin.ensures) in
    no_length a.s.now a.at c.in_ok-head.head e _ _ c.in_ok-kind.ensures refl c.if-not-is_possible.ensures

pub overflow_sub-n : goal.overflow_sub-n
overflow_sub-n c = omega (arith, some _ _ (sym c.if-not-is_possible.ensures))

pub read_rows-requires-2 : goal.read_rows-requires-2
read_rows-requires-2 c = (
  omega (arith, ap (λ (x : Parsed). x.at) c.begin-start.ensures, c.in_ok-head.ensures.1.0),
  rw c.rows.ensures (omega (arith, rows_long, count_few)),
  rw c.rows.ensures (rows_sound (kind_number c.in_ok-kind.kind)),
)

pub returns-in_err-fields : goal.returns-in_err-fields
unfolding head_rows
returns-in_err-fields c =
    let a = c.args in
    let p = err_from_is_err_and c.from_residual-in_err-fields.result c.from_residual-in_err-fields.ensures.1 in
    let e = c.in_ok-head.ensures.0 ∙ ap (steps head_rows) (begun a.s.now a.at 5 _ c.begin.ensures) in
    rw (p.1, p.2) (no_fields a.s.now a.at c.in_ok-head.head e _ _ c.in_ok-kind.ensures refl c.if-not-is_possible.ensures _ c.rows.ensures _ c.begin-start.ensures _ c.in_err-fields.ensures.0)

pub close-requires : goal.close-requires
unfolding head_rows
close-requires c =
    let a = c.args in
    let r = c.in_ok-fields in
    let e = c.in_ok-head.ensures.0 ∙ ap (steps head_rows) (begun a.s.now a.at 5 _ c.begin.ensures) in
    fields_read a.s.now a.at c.in_ok-head.head e _ _ c.in_ok-kind.ensures refl c.if-not-is_possible.ensures _ c.rows.ensures _ c.begin-start.ensures r.fields r.ensures.0 c.requires r.ensures.1.0 r.ensures.1.1

pub returns : goal.returns
unfolding head_rows
returns c =
    let a = c.args in
    let r = c.in_ok-fields in
    let e = c.in_ok-head.ensures.0 ∙ ap (steps head_rows) (begun a.s.now a.at 5 _ c.begin.ensures) in
    closes a.s.now a.at c.in_ok-head.head e _ _ c.in_ok-kind.ensures refl c.if-not-is_possible.ensures _ c.rows.ensures _ c.begin-start.ensures r.fields r.ensures.0 _ c.close.ensures
