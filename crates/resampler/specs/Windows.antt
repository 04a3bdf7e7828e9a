-- docs/assurance/RULES.md, "The window of four", and "Well formed" for the window.
use Rattle.std.specs.Prelude.{ℕ, ◌-◌, ◌≤◌, ◌≡◌, Bool, ◌&&◌, [], ◌∷◌, T, leb, eqb, length, get_or, drop, Float}
use Rattle.std.specs.Prelude.{Option, Some, None}
use Rattle.std.specs.Float.{nan}
use Rattle.numbers.specs.Words.{is_positive_zero}
use Rattle.numbers.specs.Frames.{most}
use Rattle.numbers.specs.Lists.{all}
use Rattle.frame.specs.declared.Frame.{Frame}
use Rattle.frame.specs.Frames.{last_zero, interpolated}
use Rattle.resampler.specs.declared.RecentFrame.{RecentFrame}
use Rattle.resampler.specs.declared.Reading.{Reading}
use Rattle.resampler.specs.declared.Resampler.{Resampler}

-- the value that the logic reads outside an array
abbrev pub blank : RecentFrame
blank = record { frame = record { left = nan; right = nan }; frame_index = 0 }

-- the frame to store: no frame stores a zero frame
abbrev pub given_frame_lem : Option Frame → Frame
given_frame_lem None = last_zero
given_frame_lem (Some f) = f

-- the count afterwards: a real frame sets it to 4; no frame lowers it, not below 0
abbrev pub given_count : Option Frame → ℕ → ℕ
given_count None t = t - 1
given_count (Some f) t = 4

-- the entry to store, with its frame index in both cases
abbrev pub given_entry : Option Frame → ℕ → RecentFrame
given_entry g n = record { frame = given_frame_lem g; frame_index = n }

-- pushing shifts left by one
unfoldable pub push : Resampler → Option Frame → ℕ → Resampler
push w g n =
    record {
      frames = get_or w.frames 1 blank ∷ get_or w.frames 2 blank ∷ get_or w.frames 3 blank ∷ given_entry g n ∷ [];
      time_until_empty = given_count g w.time_until_empty;
    }

-- the frame of entry i
abbrev pub nth : Resampler → ℕ → Frame
nth w i = (get_or w.frames i blank).frame

-- reading the window at a fraction: the frame, and the window's count
unfoldable pub reading : Resampler → Float → Reading
reading w f = record { frame = interpolated (nth w 0) (nth w 1) (nth w 2) (nth w 3) f; count = w.time_until_empty }

-- the frame index that is reported: entry 1's
abbrev pub current_frame_index : Resampler → ℕ
current_frame_index w = (get_or w.frames 1 blank).frame_index

-- the window is empty
abbrev pub is_empty : Resampler → Bool
is_empty w = eqb w.time_until_empty 0

-- the new window: the first position and zeros, four times
abbrev pub fresh : ℕ → Resampler
fresh n =
    let e = given_entry None n in
    record { frames = e ∷ e ∷ e ∷ e ∷ []; time_until_empty = 0 }

-- positive zero in both channels
abbrev pub zero_frame : RecentFrame → Bool
zero_frame r = is_positive_zero r.frame.left && is_positive_zero r.frame.right

-- a frame index of at most 4,294,967,296
abbrev pub numbered : RecentFrame → Bool
numbered r = leb r.frame_index most

-- count t at most 4, the last 4 - t frames positive zero, the frame indices in range
abbrev pub windowed : Resampler → Bool
windowed w =
    eqb (length w.frames) 4
    && leb w.time_until_empty 4
    && all zero_frame (drop w.time_until_empty w.frames)
    && all numbered w.frames

-- the same by named facts
pub record Windowed (w : Resampler) : Type 0 where
  pub four : length w.frames ≡ 4
  pub few : w.time_until_empty ≤ 4
  pub last_zero : T (all zero_frame (drop w.time_until_empty w.frames))
  pub numbers : T (all numbered w.frames)
