-- A block of a started, advancing voice, frame by frame (docs/assurance/RULES.md, "Creation, commands, block").
use Rattle.std.specs.Prelude.{ℕ, ◌+◌, cond, List, [], ◌∷◌, leb, Float}
use Rattle.std.specs.Float.{binary32, binary64}
use Rattle.std.specs.Float.Ieee.{add, mul}
use Rattle.numbers.specs.Words.{narrowed, whole, part, advance}
use Rattle.frame.specs.declared.Frame.{Frame}
use Rattle.resampler.specs.declared.Reading.{Reading}
use Rattle.resampler.specs.Windows.{reading}
use Rattle.sound_lanes.specs.Lanes.{Lane}
use Rattle.sound_state.specs.declared.StaticSound.{StaticSound}
use Rattle.sound_state.specs.Voices.{slice_of, moved}
use Rattle.sound_slow_path.specs.declared.Processed.{Processed}
use Rattle.sound_update.specs.Updates.{updates}

-- ---- one frame

-- the sum whose whole part is the number of steps
unfoldable pub total : Float → StaticSound → Lane → Float
unfolding advance
total dt v l = add binary64 v.fractional_position (advance v.setup.sample_rate l.rate dt)

-- the voice after one frame: as many updates as the sum's whole part; its fractional part is the new fraction
unfoldable pub after_frame : List Float → Float → StaticSound → Lane → StaticSound
unfolding total updates whole part
after_frame snd dt v l =
    let x = total dt v l in
    moved v (part x) (updates (whole x) snd (slice_of v) v.moving)

-- a reading times fade, times volume, times the channel's gain
abbrev pub with_gains : Lane → Float → Float → Float
with_gains l x gain = mul binary32 (mul binary32 (mul binary32 x l.fade) l.volume) gain

-- the window is read before the voice moves
abbrev pub read_by : StaticSound → Reading
read_by v = reading v.moving.resampler (narrowed v.fractional_position)

-- the frame written
unfoldable pub frame_with_gains : StaticSound → Lane → Frame
frame_with_gains v l =
    let x = (read_by v).frame in
    record { left = with_gains l x.left l.left; right = with_gains l x.right l.right }

-- ---- a block

-- the outcome of a block: the voice after it, its samples, its steps, the lowest count it read
pub record Played : Type 0 where
  pub voice : StaticSound
  pub samples : List Float
  pub steps : ℕ
  pub lowest_count : ℕ

-- the lower of two counts
unfoldable pub lower : ℕ → ℕ → ℕ
lower a b = cond (leb a b) a b

-- one frame with its steps and its count, then the rest
abbrev pub then : Frame → ℕ → ℕ → Played → Played
then f n t p =
    record {
      voice = p.voice;
      samples = f.left ∷ f.right ∷ p.samples;
      steps = n + p.steps;
      lowest_count = lower t p.lowest_count;
    }

-- the whole block; for no frames the count is 4
unfoldable pub plays : List Float → Float → List Lane → StaticSound → Played
unfolding after_frame frame_with_gains total whole reading
plays snd dt [] v = record { voice = v; samples = []; steps = 0; lowest_count = 4 }
plays snd dt (l ∷ ls) v = then (frame_with_gains v l) (whole (total dt v l))
    (read_by v).count (plays snd dt ls (after_frame snd dt v l))

-- ---- the outcome of a call

-- what a call answers: its refusal (0 for none), the voice after it, its steps, and the lowest count that it read
pub record BlockAnswer : Type 0 where
  pub refusal : ℕ
  pub voice : StaticSound
  pub steps : ℕ
  pub lowest_count : ℕ

-- the answer of an accepted call
abbrev pub accepted : Processed → BlockAnswer
accepted p = record { refusal = 0; voice = p.voice; steps = p.steps; lowest_count = p.lowest_count }

-- the outcome of a call: its answer, and every sample of the buffer
pub record Outcome : Type 0 where
  pub answer : BlockAnswer
  pub samples : List Float

abbrev pub accepted_with : Played → List Float → Outcome
accepted_with p out = record {
  answer = record { refusal = 0; voice = p.voice; steps = p.steps; lowest_count = p.lowest_count };
  samples = out;
}

-- the outcome of an accepted block: its samples are the output
abbrev pub accepted_as : Played → Outcome
accepted_as p = accepted_with p p.samples
