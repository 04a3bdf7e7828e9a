-- What does not change a state: every command in Stopped, and a block with no signals. By cases.
use mathlib.Core.Path.{◌≡◌, refl}
use mathlib.Core.Bool.{Bool, false}
use Rattle.playback_state_manager.specs.declared.PlaybackState.{PlaybackState}
use Rattle.playback_state_manager.specs.declared.PlaybackState.TheVariants.{Playing, Pausing, Paused, WaitingToResume, Resuming, Stopping, Stopped}
use Rattle.playback_state_manager.specs.declared.StartAnswer.{StartAnswer}
use Rattle.playback_state_manager.specs.declared.StartAnswer.TheVariants.{Waiting}
use Rattle.playback_state_manager.specs.States.{pausing, resuming, stopping, settled}

pub pausing_stopped : pausing Stopped ≡ Stopped
pausing_stopped = refl

pub resuming_stopped : (waits : Bool) → resuming waits Stopped ≡ Stopped
resuming_stopped waits = refl

pub stopping_stopped : stopping Stopped ≡ Stopped
stopping_stopped = refl

pub settled_stopped : (finished : Bool) (resume : StartAnswer) → settled finished resume Stopped ≡ Stopped
settled_stopped finished resume = refl

-- no signals: not finished, and the resume still waits
pub settled_quiet : (state : PlaybackState) → settled false Waiting state ≡ state
settled_quiet Playing = refl
settled_quiet Pausing = refl
settled_quiet Paused = refl
settled_quiet WaitingToResume = refl
settled_quiet Resuming = refl
settled_quiet Stopping = refl
settled_quiet Stopped = refl
