-- `trace_sealed::layouts::Kind::rows`: the tables of the code are those of specs/Tables.antt.
use Rattle.std.proofs.Common.{sym, ap}
use Rattle.trace_sealed.specs.Tables.{given_rows, laned_rows, field_rows, kind_number}
use Rattle.trace_sealed.proofs.layouts.Kind.rows.Goals as goal

pub returns-in-Given : goal.returns-in-Given
unfolding given_rows
returns-in-Given c = ap (λ k. field_rows (kind_number k)) (sym c.in-Given.is)

pub returns-in-Laned : goal.returns-in-Laned
unfolding laned_rows
returns-in-Laned c = ap (λ k. field_rows (kind_number k)) (sym c.in-Laned.is)
