-- A block cut in two. An accepted block can be played in two parts, cut after any of its frames. The first part gets
-- the block's signals and the first k frames of each lane. The second part gets the rest and the state that the first
-- returned, and no signals; if the start is due at a tick, it gets the same tick. Both parts are accepted, the
-- samples are the first part's and then the second's, and the results compare as Alike says.
use Rattle.std.specs.Prelude.{ℕ, ◌*◌, ◌≤◌, ◌≡◌, List, ◌++◌, length, take, drop, Float}
use Rattle.sound_lanes.specs.Lanes.{Lanes, first_lanes, rest_lanes}
use Rattle.sound_state.specs.declared.StaticSound.{StaticSound}
use Rattle.sound_block.specs.declared.Signals.{Signals}
use Rattle.sound_block.specs.Blocks.{quiet}
use Rattle.sound_slow_path.specs.Plays.{Outcome}
use Rattle.static_sound.specs.Entries.{processed}
use Rattle.theorems.specs.Accepted.{AcceptedBlock}
use Rattle.theorems.specs.Alike.{Parts}

pub record CutInTwo (uncut first rest : Outcome) : Type 0 where
  pub answers : Parts uncut.answer first.answer rest.answer
  pub samples : uncut.samples ≡ first.samples ++ rest.samples

-- hypothesis: an accepted block, and a number of its frames
pub record MayCut (snd : List Float) (v : StaticSound) (dt : Float) (b : Lanes) (g : Signals) (out : List Float)
    (k : ℕ) : Type 0 where
  pub accepted : AcceptedBlock snd v dt b g out
  pub inside : k ≤ length b.rate

abbrev pub CutBlocks : Type 0
CutBlocks =
    (snd : List Float) (v : StaticSound) (dt : Float) (b : Lanes) (g : Signals) (out : List Float) (k : ℕ)
    → MayCut snd v dt b g out k
    → let first = processed snd v dt (first_lanes k b) g (take (2 * k) out) in
    let rest = processed snd first.answer.voice dt (rest_lanes k b) (quiet g) (drop (2 * k) out) in
    CutInTwo (processed snd v dt b g out) first rest
