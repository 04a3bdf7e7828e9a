-- The C entries, for accepted and refused calls: each is the function below it, with C records in and out.
use Rattle.std.specs.Prelude.{ℕ, ◌/◌, cond, List, eqb, length, Float}
use Rattle.sound_lanes.specs.Lanes.{Lanes}
use Rattle.sound_held.specs.declared.Held.{Held}
use Rattle.sound_held.specs.Held.{held_lanes}
use Rattle.sound_state.specs.declared.StaticSound.{StaticSound}
use Rattle.sound_creation.specs.Creation.{Created, created}
use Rattle.sound_commands.specs.Commands.{CommandsAnswer, commanded}
use Rattle.sound_slow_path.specs.Plays.{BlockAnswer}
use Rattle.static_sound.specs.Entries.{processed, processed_into, stretch_of, stretch_at}
use Rattle.c_state.specs.declared.CableowlState.{CableowlState}
use Rattle.c_inputs.specs.declared.CableowlSettings.{CableowlSettings}
use Rattle.c_inputs.specs.declared.CableowlCommands.{CableowlCommands}
use Rattle.c_inputs.specs.declared.CableowlSignals.{CableowlSignals}
use Rattle.cableowl.specs.declared.CableowlCreated.{CableowlCreated}
use Rattle.cableowl.specs.declared.CableowlCommanded.{CableowlCommanded}
use Rattle.cableowl.specs.declared.CableowlProcessed.{CableowlProcessed}
use Rattle.cableowl.specs.declared.CableowlPart.{CableowlPart}
use Rattle.c_state.specs.Records.{decoded, encoded}
use Rattle.c_inputs.specs.Inputs.{settings_of, commands_of, signals_of}

-- the state to return: after a refusal the given one
unfoldable pub after : ℕ → StaticSound → CableowlState → CableowlState
after k v c = cond (eqb k 0) (encoded v) c

-- the answer of a creation as a C record
abbrev pub created_as : Created → CableowlCreated
created_as r = record { state = encoded r.voice; refusal = r.refusal }

-- creation; if refused, the blank state
unfoldable pub created_c : List Float → CableowlSettings → CableowlCreated
created_c snd s = let r = created snd (settings_of s) in record { state = encoded r.voice; refusal = r.refusal }

-- the answer of a command set that was given this state
abbrev pub commanded_as : CommandsAnswer → CableowlState → CableowlCommanded
commanded_as r c = record { state = after r.refusal r.voice c; position = r.position; refusal = r.refusal }

-- a command set
unfoldable pub commanded_c : List Float → CableowlState → CableowlCommands → CableowlCommanded
commanded_c snd c k =
    let r = commanded snd (decoded c) (commands_of k) in
    record { state = after r.refusal r.voice c; position = r.position; refusal = r.refusal }

-- the result of a block that was given this state
abbrev pub answered : BlockAnswer → CableowlState → CableowlProcessed
answered p c = record {
  state = after p.refusal p.voice c;
  steps = p.steps;
  refusal = p.refusal;
  lowest_count = p.lowest_count;
}

-- the outcome of a block: its result, and every sample of the buffer
pub record OutcomeC : Type 0 where
  pub answer : CableowlProcessed
  pub samples : List Float

-- a block
unfoldable pub processed_c : List Float → CableowlState → Float → Lanes → CableowlSignals → List Float → OutcomeC
processed_c snd c dt b g out =
    let o = processed snd (decoded c) dt b (signals_of g) out in
    record { answer = answered o.answer c; samples = o.samples }

-- a block into a mix
unfoldable pub processed_into_c : List Float → CableowlState → Float → Lanes → CableowlSignals → List Float → ℕ
    → OutcomeC
processed_into_c snd c dt b g mix from =
    let o = processed_into snd (decoded c) dt b (signals_of g) mix from in
    record { answer = answered o.answer c; samples = o.samples }

-- held lanes from their five numbers
abbrev pub held_as : Float → Float → Float → Float → Float → Held
held_as fade volume left right rate =
    record { gains = record { fade = fade; volume = volume; left = left; right = right }; rate = rate }

-- a block with held lanes: the block over lanes that repeat the five numbers, one frame for each two samples of the
-- output
abbrev pub processed_held_c : List Float → CableowlState → Float → Held → CableowlSignals → List Float → OutcomeC
processed_held_c snd c dt x g out = processed_c snd c dt (held_lanes x (length out / 2)) g out

-- n frames of it into a mix
abbrev pub processed_held_into_c : List Float → CableowlState → Float → Held → CableowlSignals → List Float → ℕ → ℕ
    → OutcomeC
processed_held_into_c snd c dt x g mix from n = processed_into_c snd c dt (held_lanes x n) g mix from

-- the stretch, as its offset in the sound and its length
unfoldable pub part_c : List Float → CableowlState → CableowlPart
part_c snd c = let v = decoded c in record { offset = stretch_at (length snd) v; length = length (stretch_of snd v) }
