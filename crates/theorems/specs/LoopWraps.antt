-- What the counts of wraps mean. For a voice that plays inside its loop (s, e), L = e - s, and an accepted block:
-- position after = position before + steps - L * wraps (forward), or - steps + L * wraps (backward), as long as the
-- count has not reached its limit. The other direction's count does not change, and no count falls.
use Rattle.std.specs.Prelude.{ℕ, ◌+◌, ◌-◌, ◌*◌, ◌≤◌, ◌<◌, ◌≡◌, Bool, true, false, List, Float}
use Rattle.transport.specs.WellFormed.{Inside}
use Rattle.sound_lanes.specs.Lanes.{Lanes}
use Rattle.sound_update.specs.declared.Moving.{Moving}
use Rattle.sound_update.specs.declared.Slice.{Slice}
use Rattle.sound_update.specs.Updates.{updates}
use Rattle.sound_state.specs.declared.StaticSound.{StaticSound}
use Rattle.sound_state.specs.Voices.{slice_of}
use Rattle.sound_block.specs.declared.Signals.{Signals}
use Rattle.static_sound.specs.Entries.{processed, processed_into}
use Rattle.theorems.specs.Accepted.{AcceptedBlock, AcceptedMix}

-- the directions; and each with a count that has not reached its limit
abbrev pub Onward : Bool → Type 0
Onward backwards = backwards ≡ false

abbrev pub Back : Bool → Type 0
Back backwards = backwards ≡ true

abbrev pub CountsOnward : Bool → Moving → Type 0
CountsOnward backwards w = Onward backwards × (w.wraps.forward < 4294967295)

abbrev pub CountsBack : Bool → Moving → Type 0
CountsBack backwards w = Back backwards × (w.wraps.backward < 4294967295)

-- this many steps in the loop (s, e), in one direction, from m to w
pub record Fits (s e : ℕ) (backwards : Bool) (steps : ℕ) (m w : Moving) : Type 0 where
  pub forward : CountsOnward backwards w
      → w.transport.position + (e - s) * (w.wraps.forward - m.wraps.forward) ≡ m.transport.position + steps
  pub backward : CountsBack backwards w
      → w.transport.position + steps ≡ m.transport.position + (e - s) * (w.wraps.backward - m.wraps.backward)
  pub other : (Onward backwards → w.wraps.backward ≡ m.wraps.backward)
      × (Back backwards → w.wraps.forward ≡ m.wraps.forward)
  pub grows : (m.wraps.forward ≤ w.wraps.forward) × (m.wraps.backward ≤ w.wraps.backward)

-- hypothesis: inside the loop, which is inside the frames; a block is accepted
pub record MovesInLoop (c : Slice) (s e : ℕ) (m : Moving) : Type 0 where
  pub fits : e ≤ c.num_frames
  pub inside : Inside s e m.transport

pub record BlockInLoop (snd : List Float) (v : StaticSound) (dt : Float) (b : Lanes) (g : Signals) (out : List Float)
    (s e : ℕ) : Type 0 where
  pub accepted : AcceptedBlock snd v dt b g out
  pub inside : Inside s e v.moving.transport

pub record MixInLoop (snd : List Float) (v : StaticSound) (dt : Float) (b : Lanes) (g : Signals) (mix : List Float)
    (from s e : ℕ) : Type 0 where
  pub accepted : AcceptedMix snd v dt b g mix from
  pub inside : Inside s e v.moving.transport

abbrev pub UpdatesFit : Type 0
UpdatesFit =
    (snd : List Float) (c : Slice) (s e n : ℕ) (m : Moving)
    → MovesInLoop c s e m → Fits s e c.backwards n m (updates n snd c m)

abbrev pub BlocksFit : Type 0
BlocksFit =
    (snd : List Float) (v : StaticSound) (dt : Float) (b : Lanes) (g : Signals) (out : List Float) (s e : ℕ)
    → let o = processed snd v dt b g out in BlockInLoop snd v dt b g out s e
    → Fits s e (slice_of v).backwards o.answer.steps v.moving o.answer.voice.moving

abbrev pub MixesFit : Type 0
MixesFit =
    (snd : List Float) (v : StaticSound) (dt : Float) (b : Lanes) (g : Signals) (mix : List Float) (from s e : ℕ)
    → let o = processed_into snd v dt b g mix from in MixInLoop snd v dt b g mix from s e
    → Fits s e (slice_of v).backwards o.answer.steps v.moving o.answer.voice.moving
