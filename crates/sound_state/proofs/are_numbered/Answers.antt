-- `are_numbered` meets its contract: std's `all` over the slice.
use mathlib.Core.Path.{◌∙◌}
use borrow.Author.Rules.{rules}
use Rattle.std.proofs.lemmas.Iterator.{YieldsList-from_slice}
use Rattle.std.proofs.lemmas.Iterator.Search.{all_from_yields_List}
use Rattle.resampler.specs.Windows.{numbered}
use Rattle.numbers.proofs.Lists.{all_is}
use Rattle.sound_state.proofs.are_numbered.Goals as goal

pub returns : goal.returns
returns c =
    all_from_yields_List numbered _ _ _ c.all.ensures.ran (YieldsList-from_slice c.args.entries.now cc) (λ x b q k. search rules)
    ∙ all_is numbered c.args.entries.now
