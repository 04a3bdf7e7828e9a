-- `byte_layout::Row::length`: the row's width if it is present.
use mathlib.Core.Path.{sym, ap, ◌∙◌}
use lib.ListN.{length}
use Rattle.byte_layout.proofs.Numbers.{length_bytes}
use Rattle.byte_layout.proofs.Puts.{fielded, unfielded}
use borrow.Author.Rules.{rules}
use Rattle.byte_layout.proofs.Row.length.Goals as goal

pub returns-then-stands : goal.returns-then-stands
returns-then-stands c = (λ x. sym (ap length (fielded _ _ x (sym c.if-stands.true ∙ c.stands.ensures)) ∙ length_bytes _ _), search rules)

pub returns-else-stands : goal.returns-else-stands
returns-else-stands c = (λ x. sym (ap length (unfielded _ _ x (sym c.if-stands.false ∙ c.stands.ensures))), search rules)
