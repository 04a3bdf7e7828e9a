-- Frames, entries and windows from plain numbers, and as plain numbers.
use Rattle.std.specs.Prelude.{ℕ, cond, [], ◌∷◌, eqb, get_or, Option, Some, None}
use Rattle.frame.specs.declared.Frame.{Frame}
use Rattle.resampler.specs.declared.Reading.{Reading}
use Rattle.resampler.specs.declared.RecentFrame.{RecentFrame}
use Rattle.resampler.specs.declared.Resampler.{Resampler}
use Rattle.resampler.specs.Windows.{blank}
use Rattle.test_exports.specs.declared.window.PlainFrame.{PlainFrame}
use Rattle.test_exports.specs.declared.window.PlainReading.{PlainReading}
use Rattle.test_exports.specs.declared.window.PlainEntry.{PlainEntry}
use Rattle.test_exports.specs.declared.window.PlainWindow.{PlainWindow}

abbrev pub frame_of : PlainFrame → Frame
frame_of f = record { left = f.left; right = f.right }

abbrev pub plain_frame : Frame → PlainFrame
plain_frame f = record { left = f.left; right = f.right }

abbrev pub plain_reading : Reading → PlainReading
plain_reading r = record { frame = plain_frame r.frame; count = r.count }

abbrev pub entry_of : PlainEntry → RecentFrame
entry_of e = record { frame = frame_of e.frame; frame_index = e.frame_index }

abbrev pub plain_entry : RecentFrame → PlainEntry
plain_entry e = record { frame = plain_frame e.frame; frame_index = e.frame_index }

-- the value that the logic reads outside an array
abbrev pub void : PlainEntry
void = plain_entry blank

-- entry by entry
abbrev pub window_of : PlainWindow → Resampler
window_of w =
    record {
      frames =
          entry_of (get_or w.entries 0 void)
          ∷ entry_of (get_or w.entries 1 void)
          ∷ entry_of (get_or w.entries 2 void)
          ∷ entry_of (get_or w.entries 3 void)
          ∷ [];
      time_until_empty = w.time_until_empty;
    }

abbrev pub plain_window : Resampler → PlainWindow
plain_window w =
    record {
      entries =
          plain_entry (get_or w.frames 0 blank)
          ∷ plain_entry (get_or w.frames 1 blank)
          ∷ plain_entry (get_or w.frames 2 blank)
          ∷ plain_entry (get_or w.frames 3 blank)
          ∷ [];
      time_until_empty = w.time_until_empty;
    }

-- none if `given` is 0
abbrev pub frame_given : ℕ → PlainFrame → Option Frame
frame_given given f = cond (eqb given 0) None (Some (frame_of f))
