-- Creation: an accepted one makes a voice that is well formed over its sound, and the blank state of a refused one is not well formed.
-- The voice before its updates is well formed, and updates keep that. Assumes nothing.
use Rattle.std.specs.Prelude.{Option, Some, None}
use mathlib.Core.Path.{◌≡◌, refl}
use Prim.Native.Nat.{ℕ, ◌*◌, ◌/◌, ◌%◌}
use native.Mathlib.Omega.{arith}
use mathlib.Core.Bool.{Bool, false, ◌&&◌}
use mathlib.Core.List.{List}
use lib.Dec.{T, leb, ltb, le→leb, lt→ltb}
use lib.ListN.{length}
use lib.Ieee.{Float}
use lib.Ieee.Fits.{and_i}
use Rattle.numbers.specs.Words.{finite}
use Rattle.numbers.proofs.Fractions.{positive_zero_proper}
use Rattle.playback_position.specs.Positions.{within, position_in_frames}
use Rattle.playback_position.proofs.Ranges.{well_formed_within}
use Rattle.transport.specs.declared.Transport.{Transport}
use Rattle.transport.specs.WellFormed.{WellFormedTransport}
use Rattle.transport.proofs.WellFormed.{begun_well_formed_transport}
use Rattle.resampler.proofs.Windows.{fresh_parts}
use Rattle.sound_state.specs.declared.Setup.{Setup}
use Rattle.sound_state.specs.declared.StaticSound.{StaticSound}
use Rattle.sound_state.specs.Voices.{length_of_slice, slice_of}
use Rattle.sound_update.specs.Updates.{updates}
use Rattle.sound_state.specs.WellFormed.{well_formed_setup, well_formed, well_formed_for, WellFormed}
use Rattle.sound_state.proofs.WellFormed.{span_most, well_formed_for_of, kept_of, moved_well_formed}
use Rattle.sound_update.proofs.Kept.{updates_kept}
use Rattle.sound_creation.specs.declared.Settings.{Settings}
use Rattle.sound_creation.specs.Creation.{ranged, allowed, setup_of, opened, filled, transport_of, made, blank_sound}
use Rattle.sound_creation.proofs.Refusals.{Creatable}
use Rattle.playback_position.specs.declared.Region.{Region}

pub allowed_within : (hz n : ℕ) (r : Option Region) → T (allowed hz n r) → T (within n (ranged hz n r))
allowed_within hz n None h = tt
allowed_within hz n (Some r) h = well_formed_within hz n r h

-- what creation fixes is well formed
pub setup_of_lem : (len : ℕ) (s : Settings) → Creatable len s → T (well_formed_setup (setup_of len s))
setup_of_lem len s h =
    let a = ltb 0 s.sample_rate in
    let b = leb s.sample_rate 768000 in
    let c = ltb 0 (len / 2) in
    let d = leb (len / 2) 16777216 in
    and_i ((a && b) && (c && d)) (within (len / 2) (ranged s.sample_rate (len / 2) s.slice))
    (and_i (a && b) (c && d)
    (and_i a b (lt→ltb 0 s.sample_rate h.hz_some) (le→leb s.sample_rate 768000 h.hz_few))
    (and_i c d (lt→ltb 0 (len / 2) h.some) (le→leb (len / 2) 16777216 h.few)))
    (allowed_within s.sample_rate (len / 2) s.slice h.slice)

pub opened_well_formed : (k : Setup) (t : Transport) (rate : Float) (waits : Bool) → T (well_formed_setup k) → T (finite rate) → WellFormedTransport (length_of_slice k) t → WellFormed (opened k t rate waits)
opened_well_formed k t rate waits h r s =
    record { setup = h; rate = r; transport_well_formed = s; fraction = positive_zero_proper; window = fresh_parts t.position s.low }

pub filled_well_formed : (snd : List Float) (v : StaticSound) → WellFormed v → WellFormed (filled snd v)
filled_well_formed snd v h =
    moved_well_formed v v.fractional_position (updates 3 snd (slice_of v) v.moving) h h.fraction
    (updates_kept 3 snd (slice_of v) v.moving (span_most v.setup h.setup) (kept_of v h))

-- the transport that creation begins with
pub transport_well_formed_transport : (len : ℕ) (s : Settings) → Creatable len s → WellFormedTransport (length_of_slice (setup_of len s)) (transport_of (setup_of len s) s)
transport_well_formed_transport len s h =
    let k = setup_of len s in
    begun_well_formed_transport (length_of_slice k) k.reverse (ranged s.sample_rate (length_of_slice k) s.loop_region) (position_in_frames s.sample_rate s.start_position)
    (span_most k (setup_of_lem len s h)) (allowed_within s.sample_rate (length_of_slice k) s.loop_region h.loop) h.start_inside

module _ (snd : List Float) (s : Settings) (h : Creatable (length snd) s) where
  pub made_well_formed : WellFormed (made snd s)
  unfolding made
  made_well_formed =
      let k = setup_of (length snd) s in
      let t = transport_of k s in
      filled_well_formed snd (opened k t s.playback_rate s.start_waits)
      (opened_well_formed k t s.playback_rate s.start_waits (setup_of_lem (length snd) s h) h.rate (transport_well_formed_transport (length snd) s h))

  -- over its own sound
  pub made_well_formed_for : T (well_formed_for (length snd) (made snd s))
  unfolding made
  made_well_formed_for = well_formed_for_of (length snd) (made snd s) made_well_formed (halved (length snd) h.even)
    where
      halved : (n : ℕ) → n % 2 ≡ 0 → n ≡ 2 * (n / 2)
      halved n e = omega arith

pub blank_not : well_formed blank_sound ≡ false
unfolding well_formed
blank_not = refl
