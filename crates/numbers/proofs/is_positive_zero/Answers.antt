-- `numbers::is_positive_zero` meets its contract: of the two zeros, the positive one has no sign. Assumes nothing.
use Rattle.std.proofs.Common.{T, sym, ◌∙◌, subst}
use lib.Ieee.{of_bits}
use Rattle.numbers.proofs.Signs.{positive_zero_is, not_positive_zero}
use Rattle.numbers.proofs.is_positive_zero.Goals as goal

pub returns-then-x : goal.returns-then-x
unfolding of_bits
returns-then-x c = c.is_sign_positive.ensures ∙ positive_zero_is c.args.x (subst T (sym c.well_formed.0.1) tt) c.if-x.true

pub returns-else-x : goal.returns-else-x
unfolding of_bits
returns-else-x c = not_positive_zero c.args.x c.if-x.false
