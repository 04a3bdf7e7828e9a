-- The reading at a place of a track, from the four frames that code reads. Assumes nothing.
use mathlib.Core.Path.{◌≡◌, ◌∙◌}
use Prim.Native.Nat.{ℕ, ◌+◌}
use mathlib.Core.List.{List}
use lib.Ieee.{Float}
use Rattle.numbers.specs.Words.{narrowed}
use Rattle.frame.specs.declared.Frame.{Frame}
use Rattle.frame.specs.Frames.{frame_of, interpolated}
use Rattle.sound_track.specs.declared.Track.{Track}
use Rattle.sound_track.specs.Tracks.{next}
use Rattle.sound_fast_reading.specs.Scans.{read_on}

pub read_as : (snd : List Float) (k : Track) (q b c d : ℕ) (f n : Float) (w x y z r : Frame)
    → b ≡ next k q → c ≡ next k b → d ≡ next k c
    → w ≡ frame_of snd (k.start + q) → x ≡ frame_of snd (k.start + b) → y ≡ frame_of snd (k.start + c) → z ≡ frame_of snd (k.start + d)
    → n ≡ narrowed f → r ≡ interpolated w x y z n → r ≡ read_on snd k q f
unfolding read_on
read_as snd k q b c d f n w x y z r eb ec ed ew ex ey ez en er = er ∙ rw (ew, ex, ey, ez, ed, ec, eb, en)
