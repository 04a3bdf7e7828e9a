-- `numbers::is_negative` meets its contract: but for a NaN, the sign decides. Assumes nothing.
use Rattle.std.proofs.Common.{not, sym, ap, ◌∙◌}
use Rattle.numbers.proofs.Signs.{negative_is, nan_not_negative}
use Rattle.numbers.proofs.is_negative.Goals as goal

pub returns-then-not-is_nan : goal.returns-then-not-is_nan
returns-then-not-is_nan c = c.is_sign_negative.ensures ∙ negative_is c.args.x

pub returns-else-not-is_nan : goal.returns-else-not-is_nan
returns-else-not-is_nan c =
    ap not c.if-not-is_nan.false ∙ sym (nan_not_negative c.args.x (sym c.is_nan.ensures.value ∙ c.if-not-is_nan.false))
