-- `trace_sealed::layouts::Kind::is_possible`: the steps of the kind.
use Rattle.std.proofs.Common.{sym, ap, ◌∙◌}
use Rattle.trace_sealed.specs.Tables.{kind_number}
use Rattle.trace_sealed.specs.Records.{possible}
use Rattle.trace_sealed.proofs.layouts.Kind.is_possible.Goals as goal

pub returns-in-Given : goal.returns-in-Given
unfolding possible
returns-in-Given c = c.is_in_steps.ensures ∙ ap (λ k. possible (kind_number k) c.args.n) (sym c.in-Given.is)

pub returns-in-Laned : goal.returns-in-Laned
unfolding possible
returns-in-Laned c = c.is_in_steps-in-Laned.ensures ∙ ap (λ k. possible (kind_number k) c.args.n) (sym c.in-Laned.is)
