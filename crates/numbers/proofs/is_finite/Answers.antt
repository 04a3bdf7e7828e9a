-- `numbers::is_finite` meets its contract: std's test by the definition's cases. Assumes nothing.
use Rattle.std.proofs.Common.{◌∙◌}
use Rattle.numbers.proofs.Signs.{finite_is}
use Rattle.numbers.proofs.is_finite.Goals as goal

pub returns : goal.returns
returns c = c.is_finite.ensures.value ∙ finite_is c.args.x
