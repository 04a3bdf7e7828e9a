-- What every call returns. An accepted call returns a state that is well formed over its sound, so a returned state
-- is never refused with 1 over the same sound. A refused call returns the given state and leaves the samples, with 0
-- steps, a count of 4 and position +0; a refused creation returns the blank state, which is not well formed.
use Rattle.std.specs.Prelude.{ℕ, ◌≡◌, false, List, T, length, Float}
use Rattle.numbers.specs.Words.{positive_zero}
use Rattle.sound_lanes.specs.Lanes.{Lanes}
use Rattle.sound_state.specs.declared.StaticSound.{StaticSound}
use Rattle.sound_state.specs.WellFormed.{well_formed, well_formed_for}
use Rattle.sound_creation.specs.declared.Settings.{Settings}
use Rattle.sound_commands.specs.declared.Commands.{Commands}
use Rattle.sound_block.specs.declared.Signals.{Signals}
use Rattle.sound_creation.specs.Creation.{created, blank_sound}
use Rattle.sound_commands.specs.Commands.{commanded}
use Rattle.sound_slow_path.specs.Plays.{Outcome}
use Rattle.static_sound.specs.Entries.{processed, processed_into}

-- accepted, and refused
abbrev pub Either : ℕ → Type 0 → Type 0 → Type 0
Either refusal a r = (refusal ≡ 0 → a) × ((refusal ≡ 0 → ⊥) → r)

abbrev pub CreationKeeps : Type 0
CreationKeeps =
    (snd : List Float) (s : Settings)
    → let a = created snd s in Either a.refusal (T (well_formed_for (length snd) a.voice)) (a.voice ≡ blank_sound)

abbrev pub BlankIsNot : Type 0
BlankIsNot = well_formed blank_sound ≡ false

abbrev pub CommandsKeep : Type 0
CommandsKeep =
    (snd : List Float) (v : StaticSound) (c : Commands)
    → let a = commanded snd v c in Either a.refusal (T (well_formed_for (length snd) a.voice))
    ((a.voice ≡ v) × (a.position ≡ positive_zero))

-- for a block's outcome, given the state and the samples before
abbrev pub BlockKeeps : List Float → StaticSound → List Float → Outcome → Type 0
BlockKeeps snd v out o =
    Either o.answer.refusal (T (well_formed_for (length snd) o.answer.voice)) ((o.answer.voice ≡ v)
    × (o.answer.steps ≡ 0) × (o.answer.lowest_count ≡ 4) × (o.samples ≡ out))

abbrev pub BlocksKeep : Type 0
BlocksKeep =
    (snd : List Float) (v : StaticSound) (dt : Float) (b : Lanes) (g : Signals) (out : List Float)
    → BlockKeeps snd v out (processed snd v dt b g out)

abbrev pub MixesKeep : Type 0
MixesKeep =
    (snd : List Float) (v : StaticSound) (dt : Float) (b : Lanes) (g : Signals) (mix : List Float) (from : ℕ)
    → BlockKeeps snd v mix (processed_into snd v dt b g mix from)
