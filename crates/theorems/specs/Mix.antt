-- A block into a mix, cut in two: the first k frames at `from`, then the rest at `from` + k, into the mix after the
-- first part. Both parts are accepted, the mix is the same, sample by sample, and the results compare as Alike says.
use Rattle.std.specs.Prelude.{ℕ, ◌+◌, ◌≤◌, ◌≡◌, List, length, Float}
use Rattle.sound_lanes.specs.Lanes.{Lanes, first_lanes, rest_lanes}
use Rattle.sound_state.specs.declared.StaticSound.{StaticSound}
use Rattle.sound_block.specs.declared.Signals.{Signals}
use Rattle.sound_block.specs.Blocks.{quiet}
use Rattle.sound_slow_path.specs.Plays.{Outcome}
use Rattle.static_sound.specs.Entries.{processed_into}
use Rattle.theorems.specs.Accepted.{AcceptedMix}
use Rattle.theorems.specs.Alike.{Parts}

pub record CutInMix (uncut first rest : Outcome) : Type 0 where
  pub answers : Parts uncut.answer first.answer rest.answer
  pub samples : uncut.samples ≡ rest.samples

-- hypothesis: an accepted block, and a number of its frames
pub record MayCutMix (snd : List Float) (v : StaticSound) (dt : Float) (b : Lanes) (g : Signals) (mix : List Float)
    (from : ℕ) (k : ℕ) : Type 0 where
  pub accepted : AcceptedMix snd v dt b g mix from
  pub inside : k ≤ length b.rate

abbrev pub CutMixes : Type 0
CutMixes =
    (snd : List Float) (v : StaticSound) (dt : Float) (b : Lanes) (g : Signals) (mix : List Float) (from k : ℕ)
    → MayCutMix snd v dt b g mix from k
    → let first = processed_into snd v dt (first_lanes k b) g mix from in
    let rest = processed_into snd first.answer.voice dt (rest_lanes k b) (quiet g) first.samples (from + k) in
    CutInMix (processed_into snd v dt b g mix from) first rest
