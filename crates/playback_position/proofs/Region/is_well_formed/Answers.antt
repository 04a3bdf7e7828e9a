-- `playback_position::Region::is_well_formed` meets its contract: the three tests of `well_formed_region`, each by its function's contract.
-- Assumes nothing.
use borrow.Author.Rules.{rules}
use Rattle.playback_position.specs.Positions.{well_formed_region, region_in_frames}
use Rattle.playback_position.proofs.Region.is_well_formed.Goals as goal

pub returns-then-is_finite_end : goal.returns-then-is_finite_end
unfolding well_formed_region region_in_frames
returns-then-is_finite_end c = search rules

pub returns-else-is_finite_end : goal.returns-else-is_finite_end
unfolding well_formed_region region_in_frames
returns-else-is_finite_end c = search rules
