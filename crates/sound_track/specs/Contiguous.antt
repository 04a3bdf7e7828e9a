-- Contiguous windows: moving parts whose window is the four frames at the last four positions of the track.
use Rattle.std.specs.Prelude.{ℕ, ◌+◌, ◌*◌, ◌≤◌, ◌<◌, ◌≡◌, Bool, true, false, ◌&&◌, cond, List, [], ◌∷◌, T, eqb}
use Rattle.std.specs.Prelude.{length, get_or, Float}
use Rattle.std.specs.Float.{binary32}
use Rattle.std.specs.Float.Ieee.{eq, to_bits}
use Rattle.frame.specs.Frames.{frame_of}
use Rattle.resampler.specs.declared.RecentFrame.{RecentFrame}
use Rattle.resampler.specs.declared.Resampler.{Resampler}
use Rattle.resampler.specs.Windows.{blank}
use Rattle.sound_update.specs.declared.Moving.{Moving}
use Rattle.sound_update.specs.declared.Wraps.{Wraps}
use Rattle.sound_track.specs.declared.Track.{Track}
use Rattle.sound_track.specs.Tracks.{next, On, on_track, roomy}

-- ---- the contiguous window

-- frame p of a sound whose positions begin at o, with its frame index
abbrev pub seen : List Float → ℕ → ℕ → RecentFrame
seen snd o p = record { frame = frame_of snd (o + p); frame_index = p }

-- the window after the transport has passed q and the next three positions
abbrev pub passed : List Float → Track → ℕ → Resampler
passed snd k q =
    let b = next k q in
    let c = next k b in
    let d = next k c in
    record {
      frames = seen snd k.start q ∷ seen snd k.start b ∷ seen snd k.start c ∷ seen snd k.start d ∷ [];
      time_until_empty = 4;
    }

-- the position after these four
abbrev pub ahead : Track → ℕ → ℕ
ahead k q = next k (next k (next k (next k q)))

-- moving parts with the contiguous window from q on, and the counts w
abbrev pub contiguous_of : List Float → Track → Moving → Wraps → ℕ → Moving
contiguous_of snd k m w q =
    record {
      state = m.state;
      transport = record { position = ahead k q; loop_region = m.transport.loop_region; playing = true };
      wraps = w;
      resampler = passed snd k q;
    }

-- the track is inside the sound
pub record InsideSound (snd : List Float) (k : Track) : Type 0 where
  pub some : k.low < k.high
  pub inside : k.high ≤ k.count
  pub few : k.count ≤ 16777216
  pub lent : 2 * (k.start + k.count) ≤ length snd
  pub short : length snd ≤ 33554432

-- ---- the test for it

-- equal bit for bit; a NaN equals nothing
abbrev pub same : Float → Float → Bool
same a b = cond (eq a b) (eqb (to_bits binary32 a) (to_bits binary32 b)) false

abbrev pub same_entry : RecentFrame → RecentFrame → Bool
same_entry a b = eqb a.frame_index b.frame_index && same a.frame.left b.frame.left
    && same a.frame.right b.frame.right

abbrev pub same_window : Resampler → Resampler → Bool
same_window a b =
    eqb a.time_until_empty b.time_until_empty
    && same_entry (get_or a.frames 0 blank) (get_or b.frames 0 blank)
    && same_entry (get_or a.frames 1 blank) (get_or b.frames 1 blank)
    && same_entry (get_or a.frames 2 blank) (get_or b.frames 2 blank)
    && same_entry (get_or a.frames 3 blank) (get_or b.frames 3 blank)

-- the position at which a contiguous window would begin: entry 0's frame index
abbrev pub first_index : Moving → ℕ
first_index m = (get_or m.resampler.frames 0 blank).frame_index

-- the window is the contiguous window from its first position on, and the next update pushes a frame
unfoldable pub is_contiguous : List Float → Track → Moving → Bool
is_contiguous snd k m =
    let q = first_index m in
    m.transport.playing && on_track k q && roomy k 0 q && eqb m.transport.position (ahead k q)
    && same_window m.resampler (passed snd k q)

-- the same as named facts
pub record Contiguous (snd : List Float) (k : Track) (m : Moving) : Type 0 where
  pub is : m ≡ contiguous_of snd k m m.wraps (first_index m)
  pub on : On k (first_index m)
  pub room : T (roomy k 0 (first_index m))
