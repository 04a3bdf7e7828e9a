-- `numbers::is_finite_clear` meets its contract: below infinity, the sign decides. Assumes nothing.
use Rattle.std.proofs.Common.{◌∙◌}
use lib.Ieee.{of_bits}
use Rattle.numbers.proofs.Signs.{finite_clear_is, not_finite_clear}
use Rattle.numbers.proofs.is_finite_clear.Goals as goal

pub returns-then-x : goal.returns-then-x
unfolding of_bits
returns-then-x c = c.is_sign_positive.ensures ∙ finite_clear_is c.args.x c.if-x.true

pub returns-else-x : goal.returns-else-x
unfolding of_bits
returns-else-x c = not_finite_clear c.args.x c.if-x.false
