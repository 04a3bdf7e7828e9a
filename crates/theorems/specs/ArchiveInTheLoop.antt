-- "Once in the loop, always in the loop" for the C entries, as InTheLoop says for the entries below: each call gets
-- the record that the call before returned. A loop command is a `loop_command` that is not 0, a stop command a `stop`
-- that is not 0.
use Rattle.std.specs.Prelude.{ℕ, ◌≡◌, Bool, true, false, ◌&&◌, ◌||◌, not, List, [], ◌∷◌, T, eqb, Float}
use Rattle.playback_state_manager.specs.declared.PlaybackState.TheVariants.{Stopped}
use Rattle.start_time.specs.Ticks.{answering}
use Rattle.transport.specs.WellFormed.{Inside}
use Rattle.sound_lanes.specs.Lanes.{Lanes}
use Rattle.sound_state.specs.WellFormed.{well_formed}
use Rattle.loop_table.specs.declared.LoopTable.{LoopTable}
use Rattle.c_state.specs.declared.CableowlState.{CableowlState}
use Rattle.c_inputs.specs.declared.CableowlCommands.{CableowlCommands}
use Rattle.c_inputs.specs.declared.CableowlSignals.{CableowlSignals}
use Rattle.c_state.specs.Records.{decoded}
use Rattle.c_inputs.specs.Inputs.{commands_of, signals_of}
use Rattle.cableowl.specs.Entries.{commanded_c, processed_c, processed_into_c}
use Rattle.cableowl.specs.Loops.{taken_c}
use Rattle.theorems.specs.InTheLoop.{changes_loop, is_never, ending}

-- the input of a call, without the record
pub data CallC : Type 0 where
  Block : (sound : List Float) (dt : Float) (lanes : Lanes) (signals : CableowlSignals) (out : List Float) → CallC
  Mix : (sound : List Float) (dt : Float) (lanes : Lanes) (signals : CableowlSignals) (mix : List Float) (from : ℕ)
      → CallC
  Command : (sound : List Float) (commands : CableowlCommands) → CallC
  Take : (sound : List Float) (table : LoopTable) (slot : ℕ) → CallC
  Stretch : (sound : List Float) → CallC

-- the record that a call returns; a stretch returns none, so it does not change
abbrev pub after_c : CallC → CableowlState → CableowlState
after_c (Block snd dt b g out) c = (processed_c snd c dt b g out).answer.state
after_c (Mix snd dt b g mix from) c = (processed_into_c snd c dt b g mix from).answer.state
after_c (Command snd k) c = (commanded_c snd c k).state
after_c (Take snd t k) c = (taken_c snd t k c).state
after_c (Stretch snd) c = c

abbrev pub accepted_c : CallC → CableowlState → Bool
accepted_c (Block snd dt b g out) c = eqb (processed_c snd c dt b g out).answer.refusal 0
accepted_c (Mix snd dt b g mix from) c = eqb (processed_into_c snd c dt b g mix from).answer.refusal 0
accepted_c (Command snd k) c = eqb (commanded_c snd c k).refusal 0
accepted_c (Take snd t k) c = eqb (taken_c snd t k c).refusal 0
accepted_c (Stretch snd) c = true

-- a sequence of calls, each with the record that the one before returned
unfoldable pub after_all_c : List CallC → CableowlState → CableowlState
after_all_c [] c = c
after_all_c (d ∷ ds) c = after_all_c ds (after_c d c)

-- whether some accepted call of the sequence is of a kind
unfoldable pub some_accepted_c : (CallC → Bool) → List CallC → CableowlState → Bool
some_accepted_c kind [] c = false
some_accepted_c kind (d ∷ ds) c = (accepted_c d c && kind d) || some_accepted_c kind ds (after_c d c)

-- a loop command, or a loop that is taken
abbrev pub reloops_c : CallC → Bool
reloops_c (Block snd dt b g out) = false
reloops_c (Mix snd dt b g mix from) = false
reloops_c (Command snd k) = changes_loop (commands_of k).loop_region
reloops_c (Take snd t k) = true
reloops_c (Stretch snd) = false

-- a stop command or a never answer
abbrev pub stops_c : CallC → Bool
stops_c (Block snd dt b g out) = is_never (answering (signals_of g).start) || is_never (signals_of g).resume
stops_c (Mix snd dt b g mix from) = is_never (answering (signals_of g).start) || is_never (signals_of g).resume
stops_c (Command snd k) = (commands_of k).stop
stops_c (Take snd t k) = false
stops_c (Stretch snd) = false

-- after the calls the record represents a Stopped voice
abbrev pub EndsStoppedC : List CallC → CableowlState → Type 0
EndsStoppedC ds c = (decoded (after_all_c ds c)).moving.state ≡ Stopped

pub record StaysC (s e : ℕ) (ds : List CallC) (c : CableowlState) : Type 0 where
  pub inside : Inside s e (decoded (after_all_c ds c)).moving.transport
  pub stopped : EndsStoppedC ds c → T (some_accepted_c stops_c ds c || ending (decoded c).moving.state)

-- hypothesis; a record that is not well formed represents the blank voice, which is not well formed
pub record EnteredC (s e : ℕ) (ds : List CallC) (c : CableowlState) : Type 0 where
  pub well_formed : T (well_formed (decoded c))
  pub inside : Inside s e (decoded c).moving.transport
  pub no_loop_command : T (not (some_accepted_c reloops_c ds c))

abbrev pub InTheLoopC : Type 0
InTheLoopC =
    (s e : ℕ) (ds : List CallC) (c : CableowlState) → EnteredC s e ds c → StaysC s e ds c
