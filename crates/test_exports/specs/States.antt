-- States and start answers from their numbers.
use Rattle.std.specs.Prelude.{ℕ, cond, eqb}
use Rattle.playback_state_manager.specs.declared.PlaybackState.{PlaybackState}
use Rattle.playback_state_manager.specs.declared.PlaybackState.TheVariants.{
  Playing,
  Pausing,
  Paused,
  WaitingToResume,
  Resuming,
  Stopping,
  Stopped,
}
use Rattle.playback_state_manager.specs.declared.StartAnswer.{StartAnswer}
use Rattle.playback_state_manager.specs.declared.StartAnswer.TheVariants.{Waiting, Now, Never}

-- the state with this number; above 6 it is Stopped
unfoldable pub state_of : ℕ → PlaybackState
state_of n =
    cond (eqb n 0) Playing
    (cond (eqb n 1) Pausing
    (cond (eqb n 2) Paused
    (cond (eqb n 3) WaitingToResume
    (cond (eqb n 4) Resuming
    (cond (eqb n 5) Stopping Stopped)))))

-- the answer with this number; above 2 it is never
unfoldable pub answer_of : ℕ → StartAnswer
answer_of n = cond (eqb n 0) Waiting (cond (eqb n 1) Now Never)
