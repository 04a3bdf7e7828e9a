-- `byte_layout::Row::accepts`: by whether the row is present.
use mathlib.Core.Path.{refl, sym, ◌∙◌}
use Rattle.byte_layout.specs.Writes.{fits}
use Rattle.byte_layout.proofs.Row.accepts.Goals as goal

pub returns-then-stands : goal.returns-then-stands
unfolding fits
returns-then-stands c = rw (sym c.stands.ensures ∙ c.if-stands.true) c.contains.ensures

pub returns-else-stands : goal.returns-else-stands
unfolding fits
returns-else-stands c = rw (sym c.stands.ensures ∙ c.if-stands.false) refl
