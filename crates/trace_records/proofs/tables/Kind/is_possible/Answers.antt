-- `trace_records::tables::Kind::is_possible`: the steps of the kind.
use Rattle.std.proofs.Common.{sym, ap, ◌∙◌}
use Rattle.trace_records.specs.Tables.{kind_number}
use Rattle.trace_records.specs.Records.{in_steps, possible}
use Rattle.trace_records.proofs.tables.Kind.is_possible.Goals as goal

pub returns-in-Creation : goal.returns-in-Creation
unfolding in_steps possible
returns-in-Creation c = c.is_in_steps.ensures ∙ ap (λ k. possible (kind_number k) c.args.n) (sym c.in-Creation.is)

pub returns-in-Commands : goal.returns-in-Commands
unfolding in_steps possible
returns-in-Commands c = c.is_in_steps-in-Commands.ensures ∙ ap (λ k. possible (kind_number k) c.args.n) (sym c.in-Commands.is)

pub returns-in-Block : goal.returns-in-Block
unfolding in_steps possible
returns-in-Block c = c.is_in_steps-in-Block.ensures ∙ ap (λ k. possible (kind_number k) c.args.n) (sym c.in-Block.is)
