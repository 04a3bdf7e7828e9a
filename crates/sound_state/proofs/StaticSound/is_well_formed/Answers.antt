-- `StaticSound::is_well_formed` meets its contract: test by test.
use borrow.Author.Rules.{rules}
use Rattle.sound_state.specs.WellFormed.{well_formed, well_formed_for}
use Rattle.sound_state.proofs.StaticSound.is_well_formed.Goals as goal

pub returns-then-is_windowed : goal.returns-then-is_windowed
unfolding well_formed_for well_formed
returns-then-is_windowed c = search rules

pub returns-else-is_windowed : goal.returns-else-is_windowed
unfolding well_formed_for well_formed
returns-else-is_windowed c = search rules
