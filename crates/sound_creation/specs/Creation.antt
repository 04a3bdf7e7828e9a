-- Creation (docs/assurance/RULES.md, "Creation, commands, block"), refusals 2 to 7.
use Rattle.std.specs.Prelude.{ℕ, ◌/◌, ◌%◌, Bool, true, false, not, ◌&&◌, cond, List, leb, ltb, eqb, length}
use Rattle.std.specs.Prelude.{Option, Some, None, Result, Ok, Err, Float}
use Rattle.refusals.specs.declared.Refusal.{Refusal}
use Rattle.refusals.specs.Numbers.{number}
use Rattle.numbers.specs.Words.{positive_zero, finite}
use Rattle.playback_position.specs.declared.Region.{Region}
use Rattle.playback_position.specs.Positions.{finite_position, position_in_frames, region_in_frames, well_formed_region}
use Rattle.playback_state_manager.specs.declared.PlaybackState.TheVariants as state
use Rattle.transport.specs.declared.Transport.{Transport}
use Rattle.transport.specs.Moves.{begun}
use Rattle.resampler.specs.Windows.{fresh}
use Rattle.sound_state.specs.declared.Setup.{Setup}
use Rattle.sound_state.specs.declared.StaticSound.{StaticSound}
use Rattle.sound_state.specs.Refusals.{unless}
use Rattle.sound_state.specs.Voices.{length_of_slice, slice_of, moved}
use Rattle.sound_update.specs.Updates.{uncounted, updates}
use Rattle.sound_creation.specs.declared.Settings.{Settings}

-- the given region in frames, over n frames
abbrev pub ranged : ℕ → ℕ → Option Region → Option (ℕ × ℕ)
ranged hz n None = None
ranged hz n (Some r) = Some (region_in_frames hz n r)

abbrev pub allowed : ℕ → ℕ → Option Region → Bool
allowed hz n None = true
allowed hz n (Some r) = well_formed_region hz n r

-- what creation fixes; len is the sound's length in samples
abbrev pub setup_of : ℕ → Settings → Setup
setup_of len s =
    record {
      sample_rate = s.sample_rate;
      num_frames = len / 2;
      slice = ranged s.sample_rate (len / 2) s.slice;
      reverse = s.reverse;
    }

-- 5: start below N, seconds finite
abbrev pub startable : ℕ → Settings → Bool
startable n s = finite_position s.start_position && ltb (position_in_frames s.sample_rate
    s.start_position) n

-- the refusal of a creation, 0 if it is accepted
unfoldable pub refused_new : ℕ → Settings → ℕ
refused_new len s =
    let n = length_of_slice (setup_of len s) in
    unless (ltb 0 s.sample_rate && leb s.sample_rate 768000) 2
    (unless (eqb (len % 2) 0 && ltb 0 (len / 2) && leb (len / 2) 16777216) 3
    (unless (allowed s.sample_rate (len / 2) s.slice) 4
    (unless (startable n s) 5
    (unless (allowed s.sample_rate n s.loop_region) 6
    (unless (finite s.playback_rate) 7 0)))))

-- Playing at fraction 0, the window filled with the first position and zeros
abbrev pub opened : Setup → Transport → Float → Bool → StaticSound
opened k t rate waits =
    record {
      setup = k;
      playback_rate = rate;
      started = not waits;
      fractional_position = positive_zero;
      moving = record { state = state.Playing; transport = t; resampler = fresh t.position; wraps = uncounted };
    }

-- updated three times
abbrev pub filled : List Float → StaticSound → StaticSound
filled snd v = moved v v.fractional_position (updates 3 snd (slice_of v) v.moving)

-- the transport that creation begins with
abbrev pub transport_of : Setup → Settings → Transport
transport_of k s =
    begun (length_of_slice k) k.reverse (ranged s.sample_rate (length_of_slice k) s.loop_region)
    (position_in_frames s.sample_rate s.start_position)

-- an accepted creation
unfoldable pub made : List Float → Settings → StaticSound
unfolding updates
made snd s =
    let k = setup_of (length snd) s in
    filled snd (opened k (transport_of k s) s.playback_rate s.start_waits)

-- Stopped, not playing, every number 0, no loop, no slice, neither reversed nor started
abbrev pub blank_sound : StaticSound
blank_sound =
    record {
      setup = record { sample_rate = 0; num_frames = 0; slice = None; reverse = false };
      playback_rate = positive_zero;
      started = false;
      fractional_position = positive_zero;
      moving = record {
        state = state.Stopped;
        transport = record { position = 0; loop_region = None; playing = false };
        resampler = fresh 0;
        wraps = uncounted;
      };
    }

-- the refusal of a creation, 0 if it is accepted, and its voice
pub record Created : Type 0 where
  pub refusal : ℕ
  pub voice : StaticSound

-- the outcome that a result stands for: a refusal has the blank state
abbrev pub created_of : Result StaticSound Refusal → Created
created_of (Ok v) = record { refusal = 0; voice = v }
created_of (Err r) = record { refusal = number r; voice = blank_sound }

-- creation, accepted and refused
unfoldable pub created : List Float → Settings → Created
created snd s =
    let k = refused_new (length snd) s in
    record { refusal = k; voice = cond (eqb k 0) (made snd s) blank_sound }
