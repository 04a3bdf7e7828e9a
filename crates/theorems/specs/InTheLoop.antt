-- Once in the loop, always in the loop. Take a well formed voice whose transport plays inside its loop, and any
-- sequence of blocks, mixes, command sets, loops taken from a table (each counts as a loop command) and stretches,
-- each with a sound of its own. If no accepted call contains a loop command, the transport still plays inside that
-- loop. The voice is Stopped only if an accepted call contained a stop command or the answer never, or if it was
-- Stopping or Stopped at first. Refused calls can contain anything; seeks stay inside.
use Rattle.std.specs.Prelude.{ℕ, ◌≡◌, Bool, true, false, ◌&&◌, ◌||◌, not, List, [], ◌∷◌, T, eqb, Float}
use Rattle.playback_state_manager.specs.declared.PlaybackState.{PlaybackState}
use Rattle.playback_state_manager.specs.declared.PlaybackState.TheVariants.{
  Playing,
  Pausing,
  Paused,
  WaitingToResume,
  Resuming,
  Stopping,
  Stopped,
}
use Rattle.playback_state_manager.specs.declared.StartAnswer.{StartAnswer}
use Rattle.playback_state_manager.specs.declared.StartAnswer.TheVariants as answer
use Rattle.start_time.specs.Ticks.{answering}
use Rattle.transport.specs.WellFormed.{Inside}
use Rattle.sound_lanes.specs.Lanes.{Lanes}
use Rattle.sound_state.specs.declared.StaticSound.{StaticSound}
use Rattle.sound_state.specs.WellFormed.{well_formed}
use Rattle.sound_commands.specs.declared.LoopCommand.{LoopCommand}
use Rattle.sound_commands.specs.declared.LoopCommand.TheVariants as loop
use Rattle.sound_commands.specs.declared.Commands.{Commands}
use Rattle.sound_commands.specs.Commands.{commanded}
use Rattle.loop_table.specs.declared.LoopTable.{LoopTable}
use Rattle.take_loop.specs.Taking.{taken}
use Rattle.sound_block.specs.declared.Signals.{Signals}
use Rattle.static_sound.specs.Entries.{processed, processed_into}

-- ---- calls

-- the input of a call, without the voice
pub data Call : Type 0 where
  Block : (sound : List Float) (dt : Float) (lanes : Lanes) (signals : Signals) (out : List Float) → Call
  Mix : (sound : List Float) (dt : Float) (lanes : Lanes) (signals : Signals) (mix : List Float) (from : ℕ) → Call
  Command : (sound : List Float) (commands : Commands) → Call
  Take : (sound : List Float) (table : LoopTable) (slot : ℕ) → Call
  Stretch : (sound : List Float) → Call

-- the voice that a call returns; a stretch returns none, so it does not change
abbrev pub after : Call → StaticSound → StaticSound
after (Block snd dt b g out) v = (processed snd v dt b g out).answer.voice
after (Mix snd dt b g mix from) v = (processed_into snd v dt b g mix from).answer.voice
after (Command snd c) v = (commanded snd v c).voice
after (Take snd t k) v = (taken snd t k v).voice
after (Stretch snd) v = v

-- a stretch has no refusal: over a wrong voice it is empty
abbrev pub accepted : Call → StaticSound → Bool
accepted (Block snd dt b g out) v = eqb (processed snd v dt b g out).answer.refusal 0
accepted (Mix snd dt b g mix from) v = eqb (processed_into snd v dt b g mix from).answer.refusal 0
accepted (Command snd c) v = eqb (commanded snd v c).refusal 0
accepted (Take snd t k) v = eqb (taken snd t k v).refusal 0
accepted (Stretch snd) v = true

-- a sequence of calls, each with the voice that the one before returned
unfoldable pub after_all : List Call → StaticSound → StaticSound
after_all [] v = v
after_all (c ∷ cs) v = after_all cs (after c v)

-- whether some accepted call of the sequence is of a kind
unfoldable pub some_accepted : (Call → Bool) → List Call → StaticSound → Bool
some_accepted kind [] v = false
some_accepted kind (c ∷ cs) v = (accepted c v && kind c) || some_accepted kind cs (after c v)

-- ---- what calls contain

abbrev pub changes_loop : LoopCommand → Bool
changes_loop loop.Keep = false
changes_loop loop.Clear = true
changes_loop (loop.Set r) = true

-- a loop command, or a loop that is taken
abbrev pub reloops : Call → Bool
reloops (Block snd dt b g out) = false
reloops (Mix snd dt b g mix from) = false
reloops (Command snd c) = changes_loop c.loop_region
reloops (Take snd t k) = true
reloops (Stretch snd) = false

abbrev pub is_never : StartAnswer → Bool
is_never answer.Waiting = false
is_never answer.Now = false
is_never answer.Never = true

-- a stop command or a never answer
abbrev pub stops : Call → Bool
stops (Block snd dt b g out) = is_never (answering g.start) || is_never g.resume
stops (Mix snd dt b g mix from) = is_never (answering g.start) || is_never g.resume
stops (Command snd c) = c.stop
stops (Take snd t k) = false
stops (Stretch snd) = false

-- Stopping or Stopped
abbrev pub ending : PlaybackState → Bool
ending Playing = false
ending Pausing = false
ending Paused = false
ending WaitingToResume = false
ending Resuming = false
ending Stopping = true
ending Stopped = true

-- ---- what is promised

-- after the calls the voice is Stopped
abbrev pub EndsStopped : List Call → StaticSound → Type 0
EndsStopped cs v = (after_all cs v).moving.state ≡ Stopped

pub record Stays (s e : ℕ) (cs : List Call) (v : StaticSound) : Type 0 where
  pub inside : Inside s e (after_all cs v).moving.transport
  pub stopped : EndsStopped cs v → T (some_accepted stops cs v || ending v.moving.state)

-- hypothesis
pub record Entered (s e : ℕ) (cs : List Call) (v : StaticSound) : Type 0 where
  pub well_formed : T (well_formed v)
  pub inside : Inside s e v.moving.transport
  pub no_loop_command : T (not (some_accepted reloops cs v))

abbrev pub InTheLoop : Type 0
InTheLoop =
    (s e : ℕ) (cs : List Call) (v : StaticSound) → Entered s e cs v → Stays s e cs v
