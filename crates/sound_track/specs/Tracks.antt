-- The track: the positions that uninterrupted playback passes, n steps along it, and the wraps of these steps.
use Rattle.std.specs.Prelude.{ℕ, zero, suc, ◌+◌, ◌-◌, ◌≤◌, ◌<◌, ◌≡◌, Bool, true, false, not, ◌&&◌, ◌||◌, cond, leb}
use Rattle.std.specs.Prelude.{Option, Some, None}
use Rattle.std.specs.Prelude.{ltb, eqb}
use Rattle.sound_update.specs.declared.Slice.{Slice}
use Rattle.sound_update.specs.declared.Wraps.{Wraps}
use Rattle.sound_update.specs.Updates.{raised}
use Rattle.sound_track.specs.declared.Track.{Track}

-- between the loop's ends, or the sound's
abbrev pub track_of : Option (ℕ × ℕ) → Slice → Track
track_of None c = record {
  start = c.start;
  count = c.num_frames;
  low = 0;
  high = c.num_frames;
  looped = false;
  backwards = c.backwards;
}
track_of (Some (s, e)) c = record {
  start = c.start;
  count = c.num_frames;
  low = s;
  high = e;
  looped = true;
  backwards = c.backwards;
}

-- ---- steps

-- whether the step from q wraps: forward onto the end, backward from the start
abbrev pub wraps_at : Track → ℕ → Bool
wraps_at k q = cond k.backwards (eqb q k.low) (eqb (q + 1) k.high)

-- the position after q
abbrev pub next : Track → ℕ → ℕ
next k q = cond (wraps_at k q) (cond k.backwards (k.high - 1) k.low) (cond k.backwards (q - 1) (q + 1))

-- the position after n steps
unfoldable pub nexts : ℕ → Track → ℕ → ℕ
nexts zero k q = q
nexts (suc n) k q = nexts n k (next k q)

-- the counts after the step from p
abbrev pub counted_at : Track → ℕ → Wraps → Wraps
counted_at k p w = record {
  forward = raised (wraps_at k p && not k.backwards) w.forward;
  backward = raised (wraps_at k p && k.backwards) w.backward;
}

-- the counts after n steps from p
unfoldable pub counts : ℕ → Track → ℕ → Wraps → Wraps
counts zero k p w = w
counts (suc n) k p w = counts n k (next k p) (counted_at k p w)

-- how often n steps from p wrap
unfoldable pub wraps_of : ℕ → Track → ℕ → ℕ
wraps_of zero k p = 0
wraps_of (suc n) k p = cond (wraps_at k p) (suc (wraps_of n k (next k p))) (wraps_of n k (next k p))

-- a count, raised n times
unfoldable pub raised_by : ℕ → ℕ → ℕ
raised_by zero c = c
raised_by (suc n) c = raised_by n (raised true c)

-- how many steps come before the one that wraps
abbrev pub far : Track → ℕ → ℕ
far k q = cond k.backwards (q - k.low) (k.high - 1 - q)

-- ---- positions

-- q is on the track: forward below its end, backward not below its start
pub record On (k : Track) (q : ℕ) : Type 0 where
  pub here : q < k.count
  pub below : k.backwards ≡ false → q < k.high
  pub above : k.backwards ≡ true → k.low ≤ q
  pub some : k.low < k.high
  pub inside : k.high ≤ k.count
  pub few : k.count ≤ 16777216

-- the same as a test, except for what follows from the sound
abbrev pub on_track : Track → ℕ → Bool
on_track k q = ltb q k.count && cond k.backwards (leb k.low q) (ltb q k.high)

-- n steps and the window's four frames come before the step that wraps
abbrev pub straight : Track → ℕ → ℕ → Bool
straight k n q = cond k.backwards (leb (k.low + 4 + n) q) (ltb (q + 4 + n) k.high)

-- n steps and the window's four frames stay on the track; a loop has no end
abbrev pub roomy : Track → ℕ → ℕ → Bool
roomy k n q = k.looped || cond k.backwards (leb (k.low + 4 + n) q) (ltb (q + 4 + n) k.high)
