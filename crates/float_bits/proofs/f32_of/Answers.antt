-- `float_bits::f32_of` meets its contract: the test finds the patterns of NaNs. Assumes nothing.
use lib.Ieee.{binary32, of_bits, div}
use Rattle.float_bits.proofs.Patterns.{is_nan32, no_nan32, nan_of, number_of, no_nan}
use Rattle.float_bits.proofs.f32_of.Goals as goal

pub returns-then-bits-gt2139095040 : goal.returns-then-bits-gt2139095040
unfolding of_bits div
returns-then-bits-gt2139095040 c = nan_of binary32 c.args.bits (is_nan32 c.args.bits c.if-bits-gt2139095040.true)

pub float_from_bits-result : goal.float_from_bits-result
float_from_bits-result c = no_nan binary32 c.args.bits (no_nan32 c.args.bits c.if-bits-gt2139095040.false)

pub returns-else-bits-gt2139095040 : goal.returns-else-bits-gt2139095040
returns-else-bits-gt2139095040 c = number_of binary32 c.args.bits (no_nan32 c.args.bits c.if-bits-gt2139095040.false)
