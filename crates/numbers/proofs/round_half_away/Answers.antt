-- `numbers::round_half_away` meets its contract: std's rounding and conversion, capped at the largest frame index. Assumes nothing.
use Rattle.std.proofs.Common.{ℕ, min, ap, ◌∙◌}
use lib.Ieee.{to_unsigned}
use Rattle.numbers.specs.Frames.{most}
use Rattle.numbers.proofs.Frames.{rounded_is}
use Rattle.numbers.proofs.round_half_away.Goals as goal

pub returns : goal.returns
returns c =
    c.min.ensures
    ∙ ap (λ (n : ℕ). min n most) (c.saturating_f64_to_u64.ensures ∙ ap (to_unsigned 64) c.round.ensures)
    ∙ rounded_is c.args.x
