-- `trace_salvage::record_end`: what the reader accepts.
use Rattle.std.proofs.Common.{refl, sym, ap, ◌∙◌, Ok, Err, arith}
use Rattle.trace_records.specs.Records.{record_read}
use Rattle.trace_salvage.proofs.Keeps.{size_past, size_unmarked, read_1, read_2, none_read, ends}
use Rattle.trace_salvage.proofs.record_end.Goals.{then-reader-eq1, else-reader-eq1}
use Rattle.trace_salvage.proofs.record_end.Goals as goal

pub returns-then-s-at : goal.returns-then-s-at
returns-then-s-at c = let a = c.args in size_past a.reader a.s.now a.at c.if-s-at.true

pub returns-then-s-at-2 : goal.returns-then-s-at-2
returns-then-s-at-2 c =
    let a = c.args in
    size_unmarked a.reader a.s.now a.at c.if-s-at.false c.if-s-at-2.true

pub returns-in-Ok : goal.returns-in-Ok
returns-in-Ok c =
    let a = c.args in
    let r = record_read a.at (Ok c.in-Ok.record) in
    ends a.reader a.s.now a.at r (λ i. let q = c.type_inv.s i in omega (arith, q)) refl
    (elim c.if-reader-eq1.branch [
      | then-reader-eq1 w ↦ read_1 a.reader a.s.now a.at r w.if-reader-eq1.true (ap (record_read a.at) (sym c.in-Ok.is ∙ w.record-is) ∙ w.read-record.ensures)
      | else-reader-eq1 w ↦ read_2 a.reader a.s.now a.at r w.if-reader-eq1.false (ap (record_read a.at) (sym c.in-Ok.is ∙ w.record-is) ∙ w.read-record-else-reader-eq1.ensures)
    ])

pub returns-in-Err : goal.returns-in-Err
returns-in-Err c =
    let a = c.args in
    let r = record_read a.at (Err c.in-Err.field-0) in
    none_read a.reader a.s.now a.at c.in-Err.field-0
    (elim c.if-reader-eq1.branch [
      | then-reader-eq1 w ↦ read_1 a.reader a.s.now a.at r w.if-reader-eq1.true (ap (record_read a.at) (sym c.in-Err.is ∙ w.record-is) ∙ w.read-record.ensures)
      | else-reader-eq1 w ↦ read_2 a.reader a.s.now a.at r w.if-reader-eq1.false (ap (record_read a.at) (sym c.in-Err.is ∙ w.record-is) ∙ w.read-record-else-reader-eq1.ensures)
    ])
