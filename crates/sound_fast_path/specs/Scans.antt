-- A block along a track: the moving part after a scan, and the rest of the block.
use Rattle.std.specs.Prelude.{ℕ, ◌*◌, ◌≡◌, List, ◌++◌, take, drop, Float}
use Rattle.sound_lanes.specs.Lanes.{Lanes, rows}
use Rattle.sound_update.specs.declared.Moving.{Moving}
use Rattle.sound_state.specs.declared.StaticSound.{StaticSound}
use Rattle.sound_state.specs.Voices.{slice_of}
use Rattle.sound_track.specs.declared.Track.{Track}
use Rattle.sound_track.specs.Tracks.{track_of, counts}
use Rattle.sound_track.specs.Contiguous.{InsideSound, contiguous_of}
use Rattle.sound_slow_path.specs.Plays.{plays, Outcome, accepted_with}

-- the track is the voice's, and it is inside the sound
pub record Tracked (snd : List Float) (v : StaticSound) (k : Track) : Type 0 where
  pub is : k ≡ track_of v.moving.transport.loop_region (slice_of v)
  pub lies : InsideSound snd k

-- the moving part of the voice v after n steps have moved its window to q
abbrev pub scanned_to : List Float → Track → StaticSound → ℕ → ℕ → Moving
scanned_to snd k v n q = contiguous_of snd k v.moving (counts n k v.moving.transport.position
    v.moving.wraps) q

-- the lanes from frame i on, played by the voice v into the rest of the output
abbrev pub played_from : List Float → Float → Lanes → ℕ → StaticSound → List Float → Outcome
played_from snd dt b i v out = let p = plays snd dt (drop i (rows b)) v in accepted_with p
    (take (2 * i) out ++ p.samples)
