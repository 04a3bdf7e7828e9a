-- The steps that an accepted block reports: the sum over its frames of the whole part of fraction plus advance, at
-- most 257 per frame; 0 for a silent block. They are the updates made: as many updates of the state at the block's
-- beginning give the state at its end.
use Rattle.std.specs.Prelude.{ℕ, ◌*◌, ◌≤◌, ◌≡◌, cond, List, [], ◌∷◌, length, Float}
use Rattle.numbers.specs.Words.{whole}
use Rattle.sound_lanes.specs.Lanes.{Lane, Lanes, rows}
use Rattle.sound_state.specs.declared.StaticSound.{StaticSound}
use Rattle.sound_state.specs.Voices.{slice_of}
use Rattle.sound_update.specs.Updates.{updates}
use Rattle.sound_block.specs.declared.Signals.{Signals}
use Rattle.sound_slow_path.specs.Plays.{total, after_frame, Outcome}
use Rattle.sound_block.specs.Blocks.{begun, live}
use Rattle.static_sound.specs.Entries.{processed, processed_into}
use Rattle.theorems.specs.Sums.{sum}
use Rattle.theorems.specs.Accepted.{AcceptedBlock, AcceptedMix}

-- the steps of each frame
unfoldable pub steps_of : List Float → Float → List Lane → StaticSound → List ℕ
steps_of snd dt [] v = []
steps_of snd dt (l ∷ ls) v = whole (total dt v l) ∷ steps_of snd dt ls (after_frame snd dt v l)

-- for an accepted block's outcome
pub record Stepped (snd : List Float) (v : StaticSound) (dt : Float) (b : Lanes) (g : Signals)
    (o : Outcome) : Type 0 where
  pub reported : o.answer.steps ≡ cond (live (begun g v)) (sum (steps_of snd dt (rows b) (begun g v))) 0
  pub few : o.answer.steps ≤ 257 * length b.rate
  pub made : o.answer.voice.moving ≡ updates o.answer.steps snd (slice_of v) (begun g v).moving

abbrev pub StepsMade : Type 0
StepsMade =
    (snd : List Float) (v : StaticSound) (dt : Float) (b : Lanes) (g : Signals) (out : List Float)
    → AcceptedBlock snd v dt b g out → Stepped snd v dt b g (processed snd v dt b g out)

abbrev pub MixStepsMade : Type 0
MixStepsMade =
    (snd : List Float) (v : StaticSound) (dt : Float) (b : Lanes) (g : Signals) (mix : List Float) (from : ℕ)
    → AcceptedMix snd v dt b g mix from → Stepped snd v dt b g (processed_into snd v dt b g mix from)
