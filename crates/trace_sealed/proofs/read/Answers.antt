-- `trace_sealed::read` meets its contract: by the kind. Assumes nothing.
use mathlib.Core.Path.{sym, ◌∙◌}
use Rattle.trace_sealed.proofs.Ways.{is_sealed_lem, is_open}
use Rattle.trace_sealed.proofs.read.Goals as goal

pub read_sealed-requires : goal.read_sealed-requires
read_sealed-requires c = c.is_sealed.ensures.1 c.if-is_sealed.true

pub returns-then-is_sealed : goal.returns-then-is_sealed
returns-then-is_sealed c = is_sealed_lem _ _ _ (sym c.if-is_sealed.true ∙ c.is_sealed.ensures.0) c.read_sealed.ensures

pub returns-else-is_sealed : goal.returns-else-is_sealed
returns-else-is_sealed c = is_open _ _ _ (sym c.if-is_sealed.false ∙ c.is_sealed.ensures.0) c.read.ensures
