-- `playback_position::PlaybackPosition::into_samples` meets its contract: each arm is a case of `position_in_frames`.
-- Assumes nothing.
use Rattle.playback_position.specs.Positions.{position_in_frames}
use borrow.Author.Rules.{rules}
use Rattle.playback_position.proofs.PlaybackPosition.into_samples.Goals as goal

pub returns-in-Seconds : goal.returns-in-Seconds
unfolding position_in_frames
returns-in-Seconds c = simp c.in-Seconds.is c.round_half_away.ensures

pub returns-in-Samples : goal.returns-in-Samples
unfolding position_in_frames
returns-in-Samples c = search rules
