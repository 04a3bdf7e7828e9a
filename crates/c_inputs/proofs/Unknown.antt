-- Unknown tags: each fails its field's check, since a NaN is not finite. Assumes nothing.
use Rattle.std.specs.Prelude.{Some}
use mathlib.Core.Path.{◌≡◌, refl}
use Prim.Native.Nat.{ℕ, ◌<◌}
use native.Mathlib.Omega.{arith}
use mathlib.Core.Bool.{Bool, true, false, ◌&&◌}
use lib.Dec.{eqb}
use lib.Ieee.{Float}
use borrow.Author.Tests.{ne_eqb}
use Rattle.playback_position.specs.Positions.{finite_position, finite_end, region_in_frames, within, well_formed_region}
use Rattle.sound_state.specs.declared.StaticSound.{StaticSound}
use Rattle.sound_state.specs.Voices.{length_of_slice}
use Rattle.sound_creation.specs.Creation.{allowed}
use Rattle.sound_commands.specs.Commands.{loopable, rateable, seekable}
use Rattle.c_inputs.specs.declared.CableowlPlace.{CableowlPlace}
use Rattle.c_inputs.specs.declared.CableowlRegion.{CableowlRegion}
use Rattle.c_inputs.specs.Inputs.{position_of, end_of, region_if, optional_of, amount_of, loop_of}

-- ---- positions and regions

above : (n k : ℕ) → k < n → eqb n k ≡ false
above n k h = ne_eqb n k (λ e. omega (arith, e, h))

pub place_unknown : (p : CableowlPlace) → 1 < p.kind → finite_position (position_of p) ≡ false
place_unknown p h = simp (above p.kind 0 (omega (arith, h)), above p.kind 1 h)

pub end_unknown : (p : CableowlPlace) → 2 < p.kind → finite_end (end_of p) ≡ false
end_unknown p h = simp (above p.kind 0 (omega (arith, h)), above p.kind 1 (omega (arith, h)), above p.kind 2 h)

-- a region whose tag is unknown, or whose start or end is
pub region_unknown : (hz n : ℕ) (r : CableowlRegion) → well_formed_region hz n (region_if false r) ≡ false
unfolding well_formed_region
region_unknown hz n r = refl

pub start_unknown : (hz n : ℕ) (r : CableowlRegion) → 1 < r.start.kind → well_formed_region hz n (region_if true r) ≡ false
unfolding well_formed_region
start_unknown hz n r h = rw (place_unknown r.start h)

pub ending_unknown : (hz n : ℕ) (r : CableowlRegion) → 2 < r.end.kind → well_formed_region hz n (region_if true r) ≡ false
unfolding well_formed_region
ending_unknown hz n r h = rw (end_unknown r.end h) (none (finite_position (position_of r.start)))
  where
    none : (b : Bool) → (b && false && within n (Some (region_in_frames hz n (region_if true r)))) ≡ false
    none true = refl
    none false = refl

-- ---- 4 and 6 of creation, 6, 7 and 8 of commands

pub optional_unknown : (hz n has : ℕ) (r : CableowlRegion) → 1 < has → allowed hz n (optional_of has r) ≡ false
optional_unknown hz n has r h = simp (above has 0 (omega (arith, h)), above has 1 h, region_unknown hz n r)

pub loop_unknown : (v : StaticSound) (k : ℕ) (r : CableowlRegion) → 2 < k → loopable v (loop_of k r) ≡ false
loop_unknown v k r h = simp (above k 0 (omega (arith, h)), above k 1 (omega (arith, h)), above k 2 h, region_unknown v.setup.sample_rate (length_of_slice v.setup) r)

pub rate_unknown : (has : ℕ) (x : Float) → 1 < has → rateable (amount_of has x) ≡ false
rate_unknown has x h = simp (above has 0 (omega (arith, h)), above has 1 h)

pub seek_unknown : (f : Float → Float) (has : ℕ) (x : Float) → 1 < has → seekable f (amount_of has x) ≡ false
seek_unknown f has x h = simp (above has 0 (omega (arith, h)), above has 1 h)
