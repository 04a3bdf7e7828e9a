-- `playback_position::Region::into_frames` meets its contract: both ends by their own contracts.
-- Assumes nothing.
use Rattle.std.specs.Prelude.{ℕ}
use mathlib.Core.Path.{ap₂}
use Rattle.playback_position.specs.Positions.{region_in_frames}
use Rattle.playback_position.proofs.Region.into_frames.Goals as goal

pub returns : goal.returns
unfolding region_in_frames
returns c = ap₂ (λ (s e : ℕ). (s, e)) c.into_samples.ensures c.into_samples-2.ensures
