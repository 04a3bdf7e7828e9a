-- `Moving::push_frame_to_resampler` meets its contract: the frame that it pushes is the one at the position.
use Rattle.sound_update.specs.Updates.{pushed}
use Rattle.sound_update.proofs.Kept.{updatable_reads}
use Rattle.sound_update.proofs.Moving.push_frame_to_resampler.Goals as goal

pub frame_to_push-frame-requires : goal.frame_to_push-frame-requires
frame_to_push-frame-requires c = updatable_reads _ _ _ c.requires

pub returns : goal.returns
unfolding pushed
returns c = rw (← c.frame_to_push-frame.ensures) c.push_frame.ensures
