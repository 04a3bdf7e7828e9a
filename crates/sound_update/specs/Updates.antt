-- One update of the moving part (docs/assurance/RULES.md, "Creation, commands, block"), and what it requires.
use Rattle.std.specs.Prelude.{ℕ, zero, suc, ◌+◌, ◌*◌, ◌≤◌, Bool, not, ◌&&◌, cond, List, ltb, length, Float}
use Rattle.std.specs.Prelude.{Option, Some, None}
use Rattle.frame.specs.Frames.{frame_of}
use Rattle.playback_state_manager.specs.declared.PlaybackState.{PlaybackState}
use Rattle.playback_state_manager.specs.declared.PlaybackState.TheVariants as state
use Rattle.transport.specs.declared.Transport.{Transport}
use Rattle.transport.specs.Moves.{forward, backward, wraps}
use Rattle.transport.specs.WellFormed.{WellFormedTransport}
use Rattle.resampler.specs.declared.Resampler.{Resampler}
use Rattle.resampler.specs.Windows.{push, is_empty}
use Rattle.sound_update.specs.declared.Wraps.{Wraps}
use Rattle.sound_update.specs.declared.Moving.{Moving}
use Rattle.sound_update.specs.declared.Slice.{Slice}
use Rattle.frame.specs.declared.Frame.{Frame}

-- frame i of the sound, or no frame if not playing
abbrev pub sounding : List Float → Bool → ℕ → Option Frame
sounding snd playing i = cond playing (Some (frame_of snd i)) None

-- the window with the frame at the position pushed
unfoldable pub pushed : List Float → Slice → Moving → Resampler
unfolding push
pushed snd c m = push m.resampler (sounding snd m.transport.playing (c.start + m.transport.position))
    m.transport.position

-- the transport after one step
unfoldable pub stepped : Slice → Transport → Transport
unfolding forward backward
stepped c t = cond c.backwards (backward t) (forward c.num_frames t)

-- no wrap counted yet
abbrev pub uncounted : Wraps
uncounted = record { forward = 0; backward = 0 }

-- one more if the flag is set; a count stays at 4,294,967,295
abbrev pub raised : Bool → ℕ → ℕ
raised more n = cond (more && ltb n 4294967295) (n + 1) n

-- the counts after a step of t: one more for its direction if it wraps, however many lengths it covers
unfoldable pub counted : Slice → Transport → Wraps → Wraps
unfolding wraps
counted c t k =
    let w = wraps c.backwards t in
    record {
      forward = raised (w && not c.backwards) k.forward;
      backward = raised (w && c.backwards) k.backward;
    }

-- push the frame at the position, step the transport and count its wrap, and if it is not playing and the count is 0,
-- become Stopped
unfoldable pub updated : List Float → Slice → Moving → Moving
unfolding pushed stepped counted
updated snd c m =
    let t = stepped c m.transport in
    let w = pushed snd c m in
    record {
      state = cond (not t.playing && is_empty w) state.Stopped m.state;
      transport = t;
      resampler = w;
      wraps = counted c m.transport m.wraps;
    }

-- n updates, one after the other
unfoldable pub updates : ℕ → List Float → Slice → Moving → Moving
unfolding updated
updates zero snd c m = m
updates (suc n) snd c m = updates n snd c (updated snd c m)

-- the moving part from its pieces: loop, state, position, counts and window
abbrev pub moving_of : Option (ℕ × ℕ) → PlaybackState → ℕ → Bool → Wraps → Resampler → Moving
moving_of loop s p playing k w =
    record {
      state = s;
      transport = record { position = p; loop_region = loop; playing = playing };
      resampler = w;
      wraps = k;
    }

-- what an update requires: a transport that is well formed in its N frames, which are inside the sound
pub record Updatable (snd : List Float) (c : Slice) (m : Moving) : Type 0 where
  pub transport_well_formed : WellFormedTransport c.num_frames m.transport
  pub few : c.num_frames ≤ 16777216
  pub inside : 2 * (c.start + c.num_frames) ≤ length snd
