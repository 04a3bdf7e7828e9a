-- `numbers::is_proper` meets its contract: below 1, the sign decides. Assumes nothing.
use Rattle.std.proofs.Common.{◌∙◌}
use lib.Ieee.{of_bits}
use Rattle.numbers.proofs.Signs.{proper_is}
use Rattle.numbers.proofs.is_proper.Goals as goal

pub returns-then-x : goal.returns-then-x
unfolding of_bits
returns-then-x c = c.is_sign_positive.ensures ∙ proper_is c.args.x c.if-x.true
