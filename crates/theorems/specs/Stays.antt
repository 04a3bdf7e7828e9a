-- A seek never restarts the transport, and no command and no signal leads out of Stopped (docs/assurance/RULES.md,
-- "The transport", "States").
use Rattle.std.specs.Prelude.{ℕ, ◌≡◌, Bool, true}
use Rattle.transport.specs.declared.Transport.{Transport}
use Rattle.transport.specs.Moves.{seek}
use Rattle.playback_state_manager.specs.declared.PlaybackState.TheVariants.{Stopped}
use Rattle.playback_state_manager.specs.declared.StartAnswer.{StartAnswer}
use Rattle.playback_state_manager.specs.States.{pausing, resuming, stopping, settled}

abbrev pub PlaysAfter : ℕ → Transport → ℕ → Type 0
PlaysAfter n t q = (seek n t q).playing ≡ true

abbrev pub SeekStartsNothing : Type 0
SeekStartsNothing = (n : ℕ) (t : Transport) (q : ℕ) → PlaysAfter n t q → t.playing ≡ true

pub record StoppedStays : Type 0 where
  pub pause : pausing Stopped ≡ Stopped
  pub resume : (waits : Bool) → resuming waits Stopped ≡ Stopped
  pub stop : stopping Stopped ≡ Stopped
  pub signals : (finished : Bool) (resume : StartAnswer) → settled finished resume Stopped ≡ Stopped
