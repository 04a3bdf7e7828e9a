-- What every C call returns, as Kept says for the entries below: if accepted, a record that the next call accepts
-- over the same sound; if refused, the given record and samples. A record can be saved and passed again. A record
-- whose bytes represent no state is refused with 1, and an unknown tag with the number of its field. And the part
-- that the stretch entry returns is the stretch.
use Rattle.std.specs.Prelude.{ℕ, ◌<◌, ◌≡◌, true, false, List, T, length, take, drop, Float}
use Rattle.numbers.specs.Words.{positive_zero}
use Rattle.playback_position.specs.Positions.{finite_position, finite_end, well_formed_region}
use Rattle.sound_lanes.specs.Lanes.{Lanes}
use Rattle.sound_state.specs.declared.StaticSound.{StaticSound}
use Rattle.sound_state.specs.WellFormed.{well_formed_for}
use Rattle.sound_creation.specs.Creation.{blank_sound, allowed}
use Rattle.sound_commands.specs.Commands.{loopable, rateable, seekable}
use Rattle.static_sound.specs.Entries.{stretch_of}
use Rattle.c_state.specs.declared.CableowlState.{CableowlState}
use Rattle.c_inputs.specs.declared.CableowlSettings.{CableowlSettings}
use Rattle.c_inputs.specs.declared.CableowlCommands.{CableowlCommands}
use Rattle.c_inputs.specs.declared.CableowlSignals.{CableowlSignals}
use Rattle.c_inputs.specs.declared.CableowlPlace.{CableowlPlace}
use Rattle.c_inputs.specs.declared.CableowlRegion.{CableowlRegion}
use Rattle.cableowl.specs.declared.CableowlPart.{CableowlPart}
use Rattle.c_state.specs.Records.{well_formed_state, decoded, encoded}
use Rattle.c_inputs.specs.Inputs.{position_of, end_of, region_if, optional_of, loop_of, amount_of}
use Rattle.cableowl.specs.Entries.{OutcomeC, created_c, commanded_c, processed_c, processed_into_c, part_c}
use Rattle.theorems.specs.Kept.{Either}

-- ---- the result of a call

-- a record that the next call accepts over this sound
abbrev pub Good : List Float → CableowlState → Type 0
Good snd c = T (well_formed_state c) × T (well_formed_for (length snd) (decoded c))

-- for a block's outcome, given the record and the samples before
abbrev pub BlockKeepsC : List Float → CableowlState → List Float → OutcomeC → Type 0
BlockKeepsC snd c out o =
    Either o.answer.refusal (Good snd o.answer.state) ((o.answer.state ≡ c) × (o.answer.steps ≡ 0)
    × (o.answer.lowest_count ≡ 4) × (o.samples ≡ out))

pub record ArchiveKeeps : Type 0 where
  pub creation : (snd : List Float) (s : CableowlSettings)
      → let a = created_c snd s in Either a.refusal (Good snd a.state) (a.state ≡ encoded blank_sound)
  pub commands : (snd : List Float) (c : CableowlState) (k : CableowlCommands)
      → let a = commanded_c snd c k in Either a.refusal (Good snd a.state) ((a.state ≡ c)
      × (a.position ≡ positive_zero))
  pub block : (snd : List Float) (c : CableowlState) (dt : Float) (b : Lanes) (g : CableowlSignals) (out : List Float)
      → BlockKeepsC snd c out (processed_c snd c dt b g out)
  pub mix : (snd : List Float) (c : CableowlState) (dt : Float) (b : Lanes) (g : CableowlSignals) (mix : List Float)
      (from : ℕ)
      → BlockKeepsC snd c mix (processed_into_c snd c dt b g mix from)

-- ---- saved and passed again

-- a record whose bytes represent a state, and one whose bytes do not
abbrev pub WellFormedState : CableowlState → Type 0
WellFormedState c = T (well_formed_state c)

abbrev pub IllFormedState : CableowlState → Type 0
IllFormedState c = well_formed_state c ≡ false

pub record ReadBack : Type 0 where
  pub voice : (v : StaticSound) → decoded (encoded v) ≡ v
  pub numbers : (c : CableowlState) → WellFormedState c → encoded (decoded c) ≡ c

-- ---- unknown bytes

pub record IllFormedRefused : Type 0 where
  pub commands : (snd : List Float) (c : CableowlState) (k : CableowlCommands) → IllFormedState c
      → (commanded_c snd c k).refusal ≡ 1
  pub block : (snd : List Float) (c : CableowlState) (dt : Float) (b : Lanes) (g : CableowlSignals) → IllFormedState c
      → (out : List Float) → (processed_c snd c dt b g out).answer.refusal ≡ 1
  pub mix : (snd : List Float) (c : CableowlState) (dt : Float) (b : Lanes) (g : CableowlSignals) → IllFormedState c
      → (mix : List Float) (from : ℕ) → (processed_into_c snd c dt b g mix from).answer.refusal ≡ 1
  pub stretch : (snd : List Float) (c : CableowlState) → IllFormedState c → part_c snd c
      ≡ record { offset = 0; length = 0 }

-- a tag above the last known one
abbrev pub Unknown : ℕ → ℕ → Type 0
Unknown last tag = last < tag

-- an unknown tag fails its field's check
pub record TagsRefused : Type 0 where
  pub place : (p : CableowlPlace) → Unknown 1 p.kind → finite_position (position_of p) ≡ false
  pub end : (p : CableowlPlace) → Unknown 2 p.kind → finite_end (end_of p) ≡ false
  pub start : (hz n : ℕ) (r : CableowlRegion) → Unknown 1 r.start.kind
      → well_formed_region hz n (region_if true r) ≡ false
  pub ending : (hz n : ℕ) (r : CableowlRegion) → Unknown 2 r.end.kind
      → well_formed_region hz n (region_if true r) ≡ false
  pub optional : (hz n has : ℕ) (r : CableowlRegion) → Unknown 1 has → allowed hz n (optional_of has r) ≡ false
  pub loop : (v : StaticSound) (k : ℕ) (r : CableowlRegion) → Unknown 2 k → loopable v (loop_of k r) ≡ false
  pub rate : (has : ℕ) (x : Float) → Unknown 1 has → rateable (amount_of has x) ≡ false
  pub seek : (f : Float → Float) (has : ℕ) (x : Float) → Unknown 1 has → seekable f (amount_of has x) ≡ false

-- ---- the stretch

-- the samples of a part
abbrev pub cut_from : List Float → CableowlPart → List Float
cut_from snd p = take p.length (drop p.offset snd)

abbrev pub PartIsStretch : Type 0
PartIsStretch = (snd : List Float) (c : CableowlState) → stretch_of snd (decoded c) ≡ cut_from snd (part_c snd c)
