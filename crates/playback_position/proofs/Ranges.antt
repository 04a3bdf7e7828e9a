-- Ranges of frames: what the tests `ordered` and `within` say of a start and an end. Test by test. Assumes nothing.
use Rattle.std.specs.Prelude.{Option, Some, None}
use Prim.Native.Nat.{ℕ, ◌≤◌, ◌<◌}
use mathlib.Core.Path.{◌≡◌}
use mathlib.Core.Bool.{◌&&◌}
use lib.Dec.{T, leb, ltb, ltb→lt, leb→le}
use lib.Ieee.Fits.{and_l, and_r}
use Rattle.playback_position.specs.declared.Region.{Region}
use Rattle.playback_position.specs.Positions.{ordered, within, finite_position, finite_end, region_in_frames, well_formed_region}

-- start < end <= n
pub record Ranged (n s e : ℕ) : Type 0 where
  pub more : s < e
  pub inside : e ≤ n

pub ranged_parts : (n s e : ℕ) → T (within n (Some (s, e))) → Ranged n s e
ranged_parts n s e h =
    record { more = ltb→lt s e (and_l (ltb s e) (leb e n) h); inside = leb→le e n (and_r (ltb s e) (leb e n) h) }

-- a range that is not empty, once its ends are known
pub ordered_more : {r : Option (ℕ × ℕ)} (s e : ℕ) → r ≡ Some (s, e) → T (ordered r) → s < e
ordered_more s e q h = ltb→lt s e (rw q at h)

-- a range in n frames is not empty
pub within_ordered : (n : ℕ) (r : Option (ℕ × ℕ)) → T (within n r) → T (ordered r)
within_ordered n None h = tt
within_ordered n (Some (s, e)) h = and_l (ltb s e) (leb e n) h

-- a well formed region lies in the n frames
pub well_formed_within : (hz n : ℕ) (r : Region) → T (well_formed_region hz n r) → T (within n (Some (region_in_frames hz n r)))
unfolding well_formed_region
well_formed_within hz n r h = and_r (finite_position r.start && finite_end r.end) (within n (Some (region_in_frames hz n r))) h
