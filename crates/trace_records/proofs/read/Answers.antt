-- `trace_records::read`: each return is one of the ways of proofs/Ways.antt.
use Rattle.std.proofs.Common.{refl, sym, ap, ◌∙◌, arith, get_or-take}
use Rattle.std.proofs.lemmas.Result.{err_from_is_err_and}
use Rattle.byte_layout.specs.declared.Parsed.{Parsed}
use Rattle.byte_layout.specs.Reads.{steps}
use Rattle.byte_layout.proofs.Codec.{never}
use Rattle.byte_layout.proofs.Numbers.{small_drop}
use Rattle.byte_layout.proofs.Ways.{begun}
use Rattle.trace_records.specs.Tables.{head_rows, kind_number}
use Rattle.trace_records.specs.Writes.{known}
use Rattle.trace_records.proofs.Rounds.{head_known, head_rows_sound, body_long, body_sound, fields_few}
use Rattle.trace_records.proofs.Ways.{no_place, no_head, no_length, no_fields, goes_on, read_found}
use Rattle.trace_records.proofs.read.Goals as goal

pub returns-then-s-at : goal.returns-then-s-at
returns-then-s-at c = no_place _ _ c.if-s-at.true

pub read_rows-requires : goal.read_rows-requires
unfolding head_rows
read_rows-requires c = (omega (arith, ap (λ (x : Parsed). x.at) c.begin.ensures), omega arith, head_rows_sound)

pub returns-in_err-head : goal.returns-in_err-head
unfolding head_rows
returns-in_err-head c =
    let a = c.args in
    let p = err_from_is_err_and c.from_residual.result c.from_residual.ensures.1 in
    rw (p.1, p.2) (no_head a.s.now a.at _ (c.in_err-head.ensures.0 ∙ ap (steps head_rows) (begun a.s.now a.at 5 _ c.begin.ensures)))

pub returns-in_err-kind : goal.returns-in_err-kind
unfolding head_rows
returns-in_err-kind c =
    let a = c.args in
    let h = c.in_ok-head.head in
    let e = c.in_ok-head.ensures.0 ∙ ap (steps head_rows) (begun a.s.now a.at 5 _ c.begin.ensures) in
    never (sym c.in_err-kind.ensures.1 ∙ ap known (sym (get_or-take 4 h.values 2 0 (omega arith))) ∙ head_known 1 3 _ h.left _ _ (small_drop a.at a.s.now (λ i. let q = c.type_inv.s i in omega (arith, q))) (sym e))

pub returns-then-not-is_possible : goal.returns-then-not-is_possible
unfolding head_rows
returns-then-not-is_possible c =
    let a = c.args in
    let e = c.in_ok-head.ensures.0 ∙ ap (steps head_rows) (begun a.s.now a.at 5 _ c.begin.ensures) in
    no_length a.s.now a.at c.in_ok-head.head e _ _ c.in_ok-kind.ensures refl c.if-not-is_possible.ensures

pub read_rows-requires-2 : goal.read_rows-requires-2
read_rows-requires-2 c = (
  omega (arith, ap (λ (x : Parsed). x.at) c.begin-start.ensures, c.in_ok-head.ensures.1.0),
  rw c.rows.ensures (omega (arith, body_long, fields_few)),
  rw c.rows.ensures (body_sound (kind_number c.in_ok-kind.kind)),
)

pub returns-in_err-next : goal.returns-in_err-next
unfolding head_rows
returns-in_err-next c =
    let a = c.args in
    let p = err_from_is_err_and c.from_residual-in_err-next.result c.from_residual-in_err-next.ensures.1 in
    let e = c.in_ok-head.ensures.0 ∙ ap (steps head_rows) (begun a.s.now a.at 5 _ c.begin.ensures) in
    rw (p.1, p.2) (no_fields a.s.now a.at c.in_ok-head.head e _ _ c.in_ok-kind.ensures refl c.if-not-is_possible.ensures _ c.rows.ensures _ c.begin-start.ensures _ c.in_err-next.ensures.0)

pub returns-then-left-gt0 : goal.returns-then-left-gt0
unfolding head_rows
returns-then-left-gt0 c =
    let a = c.args in
    let e = c.in_ok-head.ensures.0 ∙ ap (steps head_rows) (begun a.s.now a.at 5 _ c.begin.ensures) in
    goes_on a.s.now a.at c.in_ok-head.head e _ _ c.in_ok-kind.ensures refl c.if-not-is_possible.ensures _ c.rows.ensures _ c.begin-start.ensures c.in_ok-next.field-0 c.in_ok-next.ensures.0 c.if-left-gt0.true

pub returns : goal.returns
unfolding head_rows
returns c =
    let a = c.args in
    let r = c.in_ok-next in
    let e = c.in_ok-head.ensures.0 ∙ ap (steps head_rows) (begun a.s.now a.at 5 _ c.begin.ensures) in
    rw c.in_ok-kind.ensures
    (read_found a.s.now a.at c.in_ok-head.head e _ _ c.in_ok-kind.ensures refl c.if-not-is_possible.ensures _ c.rows.ensures _ c.begin-start.ensures r.field-0 r.ensures.0 c.if-left-gt0.false r.ensures.1.0 r.ensures.1.1)
