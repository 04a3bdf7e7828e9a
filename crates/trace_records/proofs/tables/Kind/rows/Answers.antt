-- `trace_records::tables::Kind::rows`: the tables of the code are those of specs/Tables.antt.
use Rattle.std.proofs.Common.{sym, ap}
use Rattle.trace_records.specs.Tables.{creation_rows, frame_rows, command_rows, block_rows, body, kind_number}
use Rattle.trace_records.proofs.tables.Kind.rows.Goals as goal

pub returns-in-Creation : goal.returns-in-Creation
unfolding creation_rows frame_rows
returns-in-Creation c = ap (λ k. body (kind_number k)) (sym c.in-Creation.is)

pub returns-in-Commands : goal.returns-in-Commands
unfolding command_rows
returns-in-Commands c = ap (λ k. body (kind_number k)) (sym c.in-Commands.is)

pub returns-in-Block : goal.returns-in-Block
unfolding block_rows
returns-in-Block c = ap (λ k. body (kind_number k)) (sym c.in-Block.is)
