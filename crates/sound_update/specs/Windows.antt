-- The window split into frames and frame indices, and put together again.
use Rattle.std.specs.Prelude.{ℕ, [], ◌∷◌, get_or}
use Rattle.resampler.specs.declared.Resampler.{Resampler}
use Rattle.resampler.specs.Windows.{blank, nth}
use Rattle.sound_update.specs.declared.window.Frames.{Frames}
use Rattle.sound_update.specs.declared.window.Numbers.{Numbers}

abbrev pub frames_of : Resampler → Frames
frames_of w = record { a = nth w 0; b = nth w 1; c = nth w 2; d = nth w 3 }

-- the frame index of entry i
abbrev pub number : Resampler → ℕ → ℕ
number w i = (get_or w.frames i blank).frame_index

abbrev pub numbers_of : Resampler → Numbers
numbers_of w = record {
  a = number w 0;
  b = number w 1;
  c = number w 2;
  d = number w 3;
  time_until_empty = w.time_until_empty;
}

-- the window of four frames and their indices
abbrev pub window_of : Frames → Numbers → Resampler
window_of f n =
    record {
      frames =
          record { frame = f.a; frame_index = n.a }
          ∷ record { frame = f.b; frame_index = n.b }
          ∷ record { frame = f.c; frame_index = n.c }
          ∷ record { frame = f.d; frame_index = n.d }
          ∷ [];
      time_until_empty = n.time_until_empty;
    }
