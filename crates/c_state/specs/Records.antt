-- A voice as a C record: which records are well formed, the voice of a record, and the record of a voice.
use Rattle.std.specs.Prelude.{ℕ, Bool, not, ◌&&◌, ◌||◌, cond, List, map, leb, eqb, Option, Some, None}
use Rattle.playback_state_manager.specs.declared.PlaybackState.{PlaybackState}
use Rattle.playback_state_manager.specs.declared.PlaybackState.TheVariants as state
use Rattle.playback_state_manager.specs.States.{number}
use Rattle.resampler.specs.declared.RecentFrame.{RecentFrame}
use Rattle.resampler.specs.declared.Resampler.{Resampler}
use Rattle.sound_state.specs.declared.StaticSound.{StaticSound}
use Rattle.sound_creation.specs.Creation.{blank_sound}
use Rattle.c_state.specs.declared.CableowlEntry.{CableowlEntry}
use Rattle.c_state.specs.declared.CableowlState.{CableowlState}

-- 0 is no, anything else yes
abbrev pub yes : ℕ → Bool
yes n = not (eqb n 0)

-- yes is 1
abbrev pub bit : Bool → ℕ
bit b = cond b 1 0

-- ---- what a record means

-- given, or absent with both numbers 0
abbrev pub well_formed_range : ℕ → ℕ → ℕ → Bool
well_formed_range has s e = eqb has 1 || eqb has 0 && eqb s 0 && eqb e 0

-- the state is known, the flags are 0 or 1, and absent regions have zeros
unfoldable pub well_formed_state : CableowlState → Bool
well_formed_state c =
    leb c.state 6
    && leb c.reverse 1
    && leb c.started 1
    && leb c.playing 1
    && well_formed_range c.has_slice c.slice_start c.slice_end
    && well_formed_range c.has_loop c.loop_start c.loop_end

-- the states by their numbers
unfoldable pub state_of : ℕ → PlaybackState
state_of n =
    cond (eqb n 0) state.Playing
    (cond (eqb n 1) state.Pausing
    (cond (eqb n 2) state.Paused
    (cond (eqb n 3) state.WaitingToResume
    (cond (eqb n 4) state.Resuming
    (cond (eqb n 5) state.Stopping state.Stopped)))))

abbrev pub range_of : ℕ → ℕ → ℕ → Option (ℕ × ℕ)
range_of has s e = cond (eqb has 0) None (Some (s, e))

abbrev pub recent_of : CableowlEntry → RecentFrame
recent_of e = record { frame = record { left = e.left; right = e.right }; frame_index = e.number }

abbrev pub window_of : List CableowlEntry → ℕ → Resampler
window_of es t = record { frames = map recent_of es; time_until_empty = t }

-- the voice of a well formed record
abbrev pub stated : CableowlState → StaticSound
stated c =
    record {
      setup = record {
        sample_rate = c.sample_rate;
        num_frames = c.num_frames;
        slice = range_of c.has_slice c.slice_start c.slice_end;
        reverse = yes c.reverse;
      };
      playback_rate = c.playback_rate;
      started = yes c.started;
      fractional_position = c.fraction;
      moving = record {
        state = state_of c.state;
        transport = record {
          position = c.position;
          loop_region = range_of c.has_loop c.loop_start c.loop_end;
          playing = yes c.playing;
        };
        resampler = window_of c.window c.count;
        wraps = record { forward = c.forward_wraps; backward = c.backward_wraps };
      };
    }

-- the voice of any record: if it is not well formed, the blank state, which is not well formed
unfoldable pub decoded : CableowlState → StaticSound
decoded c = cond (well_formed_state c) (stated c) blank_sound

-- ---- the record of a voice

abbrev pub given : Option (ℕ × ℕ) → ℕ
given None = 0
given (Some (s, e)) = 1

abbrev pub start_of : Option (ℕ × ℕ) → ℕ
start_of None = 0
start_of (Some (s, e)) = s

abbrev pub ending_of : Option (ℕ × ℕ) → ℕ
ending_of None = 0
ending_of (Some (s, e)) = e

abbrev pub entry_of : RecentFrame → CableowlEntry
entry_of r = record { left = r.frame.left; right = r.frame.right; number = r.frame_index }

unfoldable pub encoded : StaticSound → CableowlState
encoded v =
    record {
      sample_rate = v.setup.sample_rate;
      state = number v.moving.state;
      reverse = bit v.setup.reverse;
      started = bit v.started;
      playing = bit v.moving.transport.playing;
      has_slice = given v.setup.slice;
      has_loop = given v.moving.transport.loop_region;
      count = v.moving.resampler.time_until_empty;
      num_frames = v.setup.num_frames;
      slice_start = start_of v.setup.slice;
      slice_end = ending_of v.setup.slice;
      position = v.moving.transport.position;
      loop_start = start_of v.moving.transport.loop_region;
      loop_end = ending_of v.moving.transport.loop_region;
      playback_rate = v.playback_rate;
      fraction = v.fractional_position;
      window = map entry_of v.moving.resampler.frames;
      forward_wraps = v.moving.wraps.forward;
      backward_wraps = v.moving.wraps.backward;
    }
