-- The only way to stop inside a block: an update does not change the playback state unless the transport has ended
-- and the window is empty; then it becomes Stopped. So after k frames of an accepted, sounding block the voice is in
-- the state in which the block began, or it has stopped in this way, and every later sample is +0.
use Rattle.std.specs.Prelude.{ℕ, ◌+◌, ◌-◌, ◌*◌, ◌≤◌, ◌≡◌, ◌⊎◌, true, false, List, length, take, drop, Float}
use Rattle.playback_state_manager.specs.declared.PlaybackState.{PlaybackState}
use Rattle.playback_state_manager.specs.declared.PlaybackState.TheVariants.{Stopped}
use Rattle.sound_lanes.specs.Lanes.{Lanes, rows}
use Rattle.sound_update.specs.declared.Moving.{Moving}
use Rattle.sound_update.specs.declared.Slice.{Slice}
use Rattle.sound_state.specs.declared.StaticSound.{StaticSound}
use Rattle.sound_update.specs.Updates.{updated}
use Rattle.sound_block.specs.declared.Signals.{Signals}
use Rattle.sound_block.specs.Blocks.{begun, live, zeros}
use Rattle.sound_slow_path.specs.Plays.{plays}
use Rattle.static_sound.specs.Entries.{processed, processed_into}
use Rattle.theorems.specs.Accepted.{AcceptedBlock, AcceptedMix}

-- Stopped, the transport not playing, the window empty
pub record Ended (m : Moving) : Type 0 where
  pub stopped : m.state ≡ Stopped
  pub still : m.transport.playing ≡ false
  pub empty : m.resampler.time_until_empty ≡ 0

-- the state as before, or ended
abbrev pub EndsOnly : PlaybackState → Moving → Type 0
EndsOnly s m = (m.state ≡ s) ⊎ Ended m

abbrev pub UpdateEnds : Type 0
UpdateEnds = (snd : List Float) (c : Slice) (m : Moving) → EndsOnly m.state (updated snd c m)

-- hypothesis: an accepted block that sounds, and a number of its frames
pub record Sounds (snd : List Float) (v : StaticSound) (dt : Float) (b : Lanes) (g : Signals) (out : List Float)
    (k : ℕ) : Type 0 where
  pub accepted : AcceptedBlock snd v dt b g out
  pub live : live (begun g v) ≡ true
  pub inside : k ≤ length b.rate

pub record SoundsMix (snd : List Float) (v : StaticSound) (dt : Float) (b : Lanes) (g : Signals) (mix : List Float)
    (from : ℕ) (k : ℕ) : Type 0 where
  pub accepted : AcceptedMix snd v dt b g mix from
  pub live : live (begun g v) ≡ true
  pub inside : k ≤ length b.rate

abbrev pub BlockEnds : Type 0
BlockEnds =
    (snd : List Float) (v : StaticSound) (dt : Float) (b : Lanes) (g : Signals) (out : List Float) (k : ℕ)
    → let o = processed snd v dt b g out in
    let m = (plays snd dt (take k (rows b)) (begun g v)).voice.moving in
    Sounds snd v dt b g out k
    → (m.state ≡ (begun g v).moving.state) ⊎ (Ended m × (drop (2 * k) o.samples ≡ zeros (drop k (rows b))))

-- for a block into a mix: the later samples of its own part
abbrev pub MixEnds : Type 0
MixEnds =
    (snd : List Float) (v : StaticSound) (dt : Float) (b : Lanes) (g : Signals) (mix : List Float) (from k : ℕ)
    → let o = processed_into snd v dt b g mix from in
    let m = (plays snd dt (take k (rows b)) (begun g v)).voice.moving in
    SoundsMix snd v dt b g mix from k
    → (m.state ≡ (begun g v).moving.state) ⊎ (Ended m
    × (take (2 * (length b.rate - k)) (drop (2 * (from + k)) o.samples) ≡ zeros (drop k (rows b))))
