-- docs/assurance/RULES.md, "States": the numbers, pause, resume and stop, and the change in a block.
use Rattle.std.specs.Prelude.{ℕ, Bool, true, false, cond}
use Rattle.playback_state_manager.specs.declared.PlaybackState.{PlaybackState}
use Rattle.playback_state_manager.specs.declared.PlaybackState.TheVariants.{
  Playing,
  Pausing,
  Paused,
  WaitingToResume,
  Resuming,
  Stopping,
  Stopped,
}
use Rattle.playback_state_manager.specs.declared.StartAnswer.{StartAnswer}
use Rattle.playback_state_manager.specs.declared.StartAnswer.TheVariants.{Waiting, Now, Never}

-- the number of a state
abbrev pub number : PlaybackState → ℕ
number Playing = 0
number Pausing = 1
number Paused = 2
number WaitingToResume = 3
number Resuming = 4
number Stopping = 5
number Stopped = 6

-- the states in which a voice advances: 0, 1, 4 and 5
abbrev pub advancing : PlaybackState → Bool
advancing Playing = true
advancing Pausing = true
advancing Paused = false
advancing WaitingToResume = false
advancing Resuming = true
advancing Stopping = true
advancing Stopped = false

-- Stopped stays; any other state becomes the wanted one
abbrev pub unless_stopped : PlaybackState → PlaybackState → PlaybackState
unless_stopped wanted Playing = wanted
unless_stopped wanted Pausing = wanted
unless_stopped wanted Paused = wanted
unless_stopped wanted WaitingToResume = wanted
unless_stopped wanted Resuming = wanted
unless_stopped wanted Stopping = wanted
unless_stopped wanted Stopped = Stopped

-- the state after pause
abbrev pub pausing : PlaybackState → PlaybackState
pausing state = unless_stopped Pausing state

-- the state after resume, by whether the resume waits
abbrev pub resuming : Bool → PlaybackState → PlaybackState
resuming waits state = unless_stopped (cond waits WaitingToResume Resuming) state

-- the state after stop
abbrev pub stopping : PlaybackState → PlaybackState
stopping state = unless_stopped Stopping state

-- the state after the answer to a waiting resume
abbrev pub resumed : StartAnswer → PlaybackState
resumed Waiting = WaitingToResume
resumed Now = Resuming
resumed Never = Stopped

-- the state after a block's signals: at most one change
abbrev pub settled : Bool → StartAnswer → PlaybackState → PlaybackState
settled finished resume Playing = Playing
settled finished resume Pausing = cond finished Paused Pausing
settled finished resume Paused = Paused
settled finished resume WaitingToResume = resumed resume
settled finished resume Resuming = cond finished Playing Resuming
settled finished resume Stopping = cond finished Stopped Stopping
settled finished resume Stopped = Stopped
