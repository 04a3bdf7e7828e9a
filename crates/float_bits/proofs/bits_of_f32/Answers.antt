-- `float_bits::bits_of_f32` meets its contract. Assumes nothing.
use Rattle.std.proofs.Common.{sym, ◌∙◌}
use Rattle.float_bits.proofs.Patterns.{nan_told, number_told}
use Rattle.float_bits.proofs.bits_of_f32.Goals as goal

pub returns-then-is_nan : goal.returns-then-is_nan
returns-then-is_nan c = nan_told _ _ c.args.x (sym c.is_nan.ensures.value ∙ c.if-is_nan.true)

pub returns-else-is_nan : goal.returns-else-is_nan
returns-else-is_nan c = number_told _ _ c.args.x (sym c.is_nan.ensures.value ∙ c.if-is_nan.false)
