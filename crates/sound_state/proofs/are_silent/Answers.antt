-- `are_silent` meets its contract: std's `all` over the slice.
use mathlib.Core.Path.{◌∙◌}
use borrow.Author.Rules.{rules}
use Rattle.std.proofs.lemmas.Iterator.{YieldsList-from_slice}
use Rattle.std.proofs.lemmas.Iterator.Search.{all_from_yields_List}
use Rattle.resampler.specs.Windows.{zero_frame}
use Rattle.numbers.proofs.Lists.{all_is}
use Rattle.sound_state.proofs.are_silent.Goals as goal

pub returns : goal.returns
returns c =
    all_from_yields_List zero_frame _ _ _ c.all.ensures.ran (YieldsList-from_slice c.args.entries.now cc) (λ x b q k. search rules)
    ∙ all_is zero_frame c.args.entries.now
