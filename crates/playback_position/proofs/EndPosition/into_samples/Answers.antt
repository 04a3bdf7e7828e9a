-- `playback_position::EndPosition::into_samples` meets its contract: each arm is a case of `end_in_frames`.
-- Assumes nothing.
use Rattle.playback_position.specs.Positions.{end_in_frames}
use borrow.Author.Rules.{rules}
use Rattle.playback_position.proofs.EndPosition.into_samples.Goals as goal

pub returns-in-EndOfAudio : goal.returns-in-EndOfAudio
unfolding end_in_frames
returns-in-EndOfAudio c = search rules

pub returns-in-Custom : goal.returns-in-Custom
unfolding end_in_frames
returns-in-Custom c = simp c.in-Custom.is c.into_samples.ensures
