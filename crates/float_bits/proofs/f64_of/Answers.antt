-- `float_bits::f64_of` meets its contract: the test finds the patterns of NaNs. Assumes nothing.
use lib.Ieee.{binary64, of_bits, div}
use Rattle.float_bits.proofs.Patterns.{is_nan64, no_nan64, nan_of, number_of, no_nan}
use Rattle.float_bits.proofs.f64_of.Goals as goal

pub returns-then-bits-gt9218868437227405312 : goal.returns-then-bits-gt9218868437227405312
unfolding of_bits div
returns-then-bits-gt9218868437227405312 c = nan_of binary64 c.args.bits (is_nan64 c.args.bits c.if-bits-gt9218868437227405312.true)

pub float_from_bits-result : goal.float_from_bits-result
float_from_bits-result c = no_nan binary64 c.args.bits (no_nan64 c.args.bits c.if-bits-gt9218868437227405312.false)

pub returns-else-bits-gt9218868437227405312 : goal.returns-else-bits-gt9218868437227405312
returns-else-bits-gt9218868437227405312 c = number_of binary64 c.args.bits (no_nan64 c.args.bits c.if-bits-gt9218868437227405312.false)
