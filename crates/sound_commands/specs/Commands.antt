-- A command set (docs/assurance/RULES.md, "Creation, commands, block"), refusals 1 and 6 to 8.
use Rattle.std.specs.Prelude.{ℕ, Bool, true, false, ◌&&◌, cond, List, eqb, pos, length, Float}
use Rattle.std.specs.Prelude.{Option, Some, None, Result, Ok, Err}
use Rattle.refusals.specs.declared.Refusal.{Refusal}
use Rattle.refusals.specs.Numbers.{number}
use Rattle.std.specs.Float.{fin, binary64}
use Rattle.std.specs.Float.Ieee.{add, mul, div, lt, of_int}
use Rattle.numbers.specs.Words.{positive_zero, finite}
use Rattle.numbers.specs.Frames.{cut_off}
use Rattle.playback_position.specs.Positions.{region_in_frames, well_formed_region}
use Rattle.playback_state_manager.specs.declared.PlaybackState.{PlaybackState}
use Rattle.playback_state_manager.specs.States.{advancing, pausing, resuming, stopping}
use Rattle.transport.specs.Moves.{seek}
use Rattle.resampler.specs.Windows.{current_frame_index}
use Rattle.sound_state.specs.declared.StaticSound.{StaticSound}
use Rattle.sound_update.specs.declared.Moving.{Moving}
use Rattle.sound_update.specs.declared.Slice.{Slice}
use Rattle.sound_state.specs.Voices.{length_of_slice, slice_of, moved}
use Rattle.sound_update.specs.Updates.{pushed}
use Rattle.sound_state.specs.WellFormed.{well_formed_for}
use Rattle.sound_commands.specs.declared.LoopCommand.{LoopCommand}
use Rattle.sound_commands.specs.declared.LoopCommand.TheVariants as loop
use Rattle.sound_commands.specs.declared.ResumeCommand.{ResumeCommand}
use Rattle.sound_commands.specs.declared.ResumeCommand.TheVariants as resume
use Rattle.sound_commands.specs.declared.Commands.{Commands}
use Rattle.sound_commands.specs.declared.Commanded.{Commanded}
use Rattle.sound_state.specs.Refusals.{unless}

-- ---- what is refused

-- 6: the given loop is accepted over N
abbrev pub loopable : StaticSound → LoopCommand → Bool
loopable v loop.Keep = true
loopable v loop.Clear = true
loopable v (loop.Set r) = well_formed_region v.setup.sample_rate (length_of_slice v.setup) r

-- 7: the given rate is finite
abbrev pub rateable : Option Float → Bool
rateable None = true
rateable (Some x) = finite x

-- the target of a seek by x, in frames: (position / rate + x) * rate
unfoldable pub target_by : StaticSound → Float → Float
target_by v x =
    mul binary64
    (add binary64 (div binary64 (of_int binary64 (pos v.moving.transport.position))
    (of_int binary64 (pos v.setup.sample_rate))) x)
    (of_int binary64 (pos v.setup.sample_rate))

-- the target of a seek to x, in frames
unfoldable pub target_to : StaticSound → Float → Float
target_to v x = mul binary64 x (of_int binary64 (pos v.setup.sample_rate))

-- 8: finite, and the product below 2 ^ 32
abbrev pub seekable : (Float → Float) → Option Float → Bool
seekable f None = true
seekable f (Some x) = finite x && lt (f x) (fin false 1 (pos 32))

-- the refusal of a command set, 0 if it is accepted; both seeks are checked against the given state
unfoldable pub refused_set : ℕ → StaticSound → Commands → ℕ
unfolding target_by target_to
refused_set len v c =
    unless (well_formed_for len v) 1
    (unless (loopable v c.loop_region) 6
    (unless (rateable c.playback_rate) 7
    (unless (seekable (target_by v) c.seek_by && seekable (target_to v) c.seek_to) 8 0)))

-- ---- what is done, in the order rate, loop, pause, resume, stop, «seek_by», «seek_to»

abbrev pub or_else : Option Float → Float → Float
or_else None x = x
or_else (Some y) x = y

abbrev pub looped : StaticSound → LoopCommand → Option (ℕ × ℕ)
looped v loop.Keep = v.moving.transport.loop_region
looped v loop.Clear = None
looped v (loop.Set r) = Some (region_in_frames v.setup.sample_rate (length_of_slice v.setup) r)

abbrev pub woken : ResumeCommand → PlaybackState → PlaybackState
woken resume.Keep s = s
woken resume.Now s = resuming false s
woken resume.Waiting s = resuming true s

-- pause, resume, stop
abbrev pub ordered : Commands → PlaybackState → PlaybackState
ordered c s =
    let p = cond c.pause (pausing s) s in
    let r = woken c.resume p in
    cond c.stop (stopping r) r

-- the voice before its seeks
unfoldable pub before_seeks : Commands → StaticSound → StaticSound
before_seeks c v =
    record {
      setup = v.setup;
      playback_rate = or_else c.playback_rate v.playback_rate;
      started = v.started;
      fractional_position = v.fractional_position;
      moving = record {
        state = ordered c v.moving.state;
        transport = record {
          position = v.moving.transport.position;
          loop_region = looped v c.loop_region;
          playing = v.moving.transport.playing;
        };
        resampler = v.moving.resampler;
        wraps = v.moving.wraps;
      };
    }

-- the moving part after the transport's seek to frame q
abbrev pub jumped : StaticSound → ℕ → Moving
jumped v q = record {
  state = v.moving.state;
  transport = seek (length_of_slice v.setup) v.moving.transport q;
  resampler = v.moving.resampler;
  wraps = v.moving.wraps;
}

-- the same with one frame pushed, without the Stopped check
abbrev pub refilled : List Float → Slice → Moving → Moving
refilled snd c m = record { state = m.state; transport = m.transport; resampler = pushed snd c m; wraps = m.wraps }

-- a seek to frame q, which pushes one frame afterwards if the state advances
unfoldable pub sought : List Float → StaticSound → ℕ → StaticSound
unfolding seek pushed
sought snd v q =
    moved v v.fractional_position
    (cond (advancing v.moving.state) (refilled snd (slice_of v) (jumped v q)) (jumped v q))

abbrev pub sought_by : List Float → StaticSound → Option Float → StaticSound
sought_by snd v None = v
sought_by snd v (Some x) = sought snd v (cut_off (target_by v x))

abbrev pub sought_to : List Float → StaticSound → Option Float → StaticSound
sought_to snd v None = v
sought_to snd v (Some x) = sought snd v (cut_off (target_to v x))

-- an accepted command set
unfoldable pub obeyed : List Float → Commands → StaticSound → StaticSound
unfolding before_seeks sought target_by target_to cut_off
obeyed snd c v = sought_to snd (sought_by snd (before_seeks c v) c.seek_by) c.seek_to

-- the reported position: entry 1's frame index divided by the sample rate
unfoldable pub reported : StaticSound → Float
reported v = div binary64 (of_int binary64 (pos (current_frame_index v.moving.resampler)))
    (of_int binary64 (pos v.setup.sample_rate))

-- the refusal of a command set, 0 if it is accepted, the voice after it, and the position
pub record CommandsAnswer : Type 0 where
  pub refusal : ℕ
  pub voice : StaticSound
  pub position : Float

-- the outcome that a result on voice v stands for: a refusal has the same voice, and position 0
abbrev pub commands_answer : StaticSound → Result Commanded Refusal → CommandsAnswer
commands_answer v (Ok d) = record { refusal = 0; voice = d.voice; position = d.position }
commands_answer v (Err r) = record { refusal = number r; voice = v; position = positive_zero }

-- a command set, accepted and refused; the position is read before the commands
unfoldable pub commanded : List Float → StaticSound → Commands → CommandsAnswer
commanded snd v c =
    let k = refused_set (length snd) v c in
    cond (eqb k 0) (record { refusal = 0; voice = obeyed snd c v; position = reported v })
    (record { refusal = k; voice = v; position = positive_zero })
