-- `numbers::magnitude` meets its contract: a number's bits without the top one are its magnitude's. Assumes nothing.
use Rattle.std.proofs.Common.{not, T, sym, subst}
use lib.Ieee.{is_nan}
use Rattle.numbers.proofs.Signs.{by_bits, number_bits, equal_number, self_nan}
use Rattle.numbers.proofs.magnitude.Goals as goal

number : (c : goal.Then-x) → T (not (is_nan c.args.x))
number c = equal_number c.args.x _ c.if-x.true

pub float_to_bits-result : goal.float_to_bits-result
float_to_bits-result c = number c

pub float_from_bits-result : goal.float_from_bits-result
float_from_bits-result c = number_bits c.args.x (number c) (subst T (sym c.well_formed.0.1) tt)

pub returns-then-x : goal.returns-then-x
returns-then-x c = by_bits c.args.x (number c) (subst T (sym c.well_formed.0.1) tt)

pub returns-else-x : goal.returns-else-x
returns-else-x c = self_nan c.args.x c.if-x.false
