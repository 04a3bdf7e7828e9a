-- One frame of a block over the moving part, as the code's loop has it; and what the loop requires.
use Rattle.std.specs.Prelude.{ℕ, ◌*◌, ◌≡◌, cond, List, T, eqb, length, get_or, replicate, Float}
use Rattle.std.specs.Float.{nan, binary32, binary64}
use Rattle.std.specs.Float.Ieee.{add, mul, lt}
use Rattle.numbers.specs.Words.{positive_zero, proper, narrowed, whole, part, advance}
use Rattle.numbers.specs.Lists.{all}
use Rattle.frame.specs.declared.Frame.{Frame}
use Rattle.frame.specs.Frames.{interpolated}
use Rattle.resampler.specs.declared.Reading.{Reading}
use Rattle.resampler.specs.declared.Resampler.{Resampler}
use Rattle.resampler.specs.Windows.{nth, reading}
use Rattle.sound_lanes.specs.declared.Gains.{Gains}
use Rattle.sound_lanes.specs.Lanes.{Lanes, five, rows, sized, near, slow}
use Rattle.sound_update.specs.declared.Slice.{Slice}
use Rattle.sound_update.specs.declared.Moving.{Moving}
use Rattle.sound_state.specs.declared.StaticSound.{StaticSound}
use Rattle.sound_update.specs.Updates.{updates, Updatable}
use Rattle.sound_state.specs.WellFormed.{WellFormed}
use Rattle.sound_slow_path.specs.declared.AfterFrame.{AfterFrame}

-- the frame written: the reading of four frames times fade, times volume, times each channel's gain
unfoldable pub frame_at : Frame → Frame → Frame → Frame → Float → Float → Float → Float → Float → Frame
frame_at a b c d f fade volume left right =
    let x = interpolated a b c d (narrowed f) in
    record {
      left = mul binary32 (mul binary32 (mul binary32 x.left fade) volume) left;
      right = mul binary32 (mul binary32 (mul binary32 x.right fade) volume) right;
    }

-- a frame with its gains: the window read at a fraction, with the count of the reading
abbrev pub frame_with_gains_at : Resampler → Float → Gains → Reading
frame_with_gains_at w f g =
    record {
      frame = frame_at (nth w 0) (nth w 1) (nth w 2) (nth w 3) f g.fade g.volume g.left g.right;
      count = (reading w (narrowed f)).count;
    }

-- the moving part and the fraction after one frame
unfoldable pub frame_steps : List Float → Slice → ℕ → Float → Float → Moving → Float → AfterFrame
frame_steps snd c hz rate dt m f =
    let x = add binary64 f (advance hz rate dt) in
    record { moving = updates (whole x) snd c m; fractional_position = part x; steps = whole x }

-- what a frame requires
pub record Steppable (snd : List Float) (c : Slice) (hz : ℕ) (rate dt : Float) (m : Moving) (f : Float) : Type 0 where
  pub updatable : Updatable snd c m
  pub below : T (proper f)
  pub is_time_step : T (lt positive_zero dt)
  pub slow : T (slow hz dt rate)

-- every lane has as many numbers as the rates
pub record Alike (b : Lanes) : Type 0 where
  pub fade : length b.fade ≡ length b.rate
  pub volume : length b.volume ≡ length b.rate
  pub left : length b.left ≡ length b.rate
  pub right : length b.right ≡ length b.rate

-- n frames of one number
abbrev pub again : ℕ → List Float → List Float
again n l = replicate n (get_or l 0 nan)

-- the lanes of n frames: lanes of one frame are repeated, all others are as they are
unfoldable pub spread : ℕ → Lanes → Lanes
spread n b = cond (eqb (length b.rate) 1)
    (five (again n b.fade) (again n b.volume) (again n b.left) (again n b.right) (again n b.rate)) b

-- what holds of an accepted block; m is the output's length
pub record Playable (snd : List Float) (v : StaticSound) (dt : Float) (b : Lanes) (m : ℕ) : Type 0 where
  pub well_formed : WellFormed v
  pub lent : length snd ≡ 2 * v.setup.num_frames
  pub sized : T (sized b)
  pub long : m ≡ 2 * length b.rate
  pub is_time_step : T (lt positive_zero dt)
  pub near : T (all (near v.setup.sample_rate dt) (rows b))
