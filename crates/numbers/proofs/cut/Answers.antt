-- `numbers::cut` meets its contract: std's conversion, capped at the largest frame index. Assumes nothing.
use Rattle.std.proofs.Common.{ℕ, min, ap, ◌∙◌}
use Rattle.numbers.specs.Frames.{most}
use Rattle.numbers.proofs.Frames.{cut_is}
use Rattle.numbers.proofs.cut.Goals as goal

pub returns : goal.returns
returns c = c.min.ensures ∙ ap (λ (n : ℕ). min n most) c.saturating_f64_to_u64.ensures ∙ cut_is c.args.x
