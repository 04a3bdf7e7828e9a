-- A well formed voice as a test and as named facts: each implies the other, part by part.
-- With them N and its bounds, and that an update may be made.
use Rattle.std.specs.Prelude.{Option, Some, None}
use mathlib.Core.Path.{◌≡◌, sym, subst}
use Prim.Native.Nat.{ℕ, ◌+◌, ◌-◌, ◌*◌, ◌≤◌, ◌<◌}
use native.Mathlib.Nat.{le_trans}
use native.Mathlib.Omega.{arith}
use mathlib.Core.Bool.{◌&&◌}
use mathlib.Core.List.{List}
use lib.Dec.{T, leb, ltb, eqb, leb→le, ltb→lt, eqb→eq, lit≤}
use lib.ListN.{length}
use lib.Ieee.{Float}
use lib.Ieee.Fits.{and_i, and_l, and_r, eq→eqb}
use Rattle.numbers.specs.Words.{finite, proper}
use Rattle.numbers.specs.Frames.{most}
use Rattle.playback_position.specs.Positions.{within}
use Rattle.playback_position.proofs.Ranges.{ranged_parts}
use Rattle.transport.specs.WellFormed.{well_formed_transport}
use Rattle.resampler.specs.Windows.{windowed}
use Rattle.resampler.proofs.Windows.{windowed_parts, windowed_of}
use Rattle.sound_state.specs.declared.Setup.{Setup}
use Rattle.sound_state.specs.declared.StaticSound.{StaticSound}
use Rattle.sound_state.specs.Voices.{length_of_slice, start_of_slice, slice_of, moved}
use Rattle.sound_update.specs.Updates.{Updatable}
use Rattle.sound_update.specs.declared.Moving.{Moving}
use Rattle.sound_update.proofs.Kept.{Kept}
use Rattle.sound_state.specs.WellFormed.{well_formed_setup, well_formed, well_formed_for, WellFormed}
use Rattle.transport.proofs.WellFormed.{well_formed_transport_parts, well_formed_transport_of}

-- ---- what creation fixes

pub record Fixed (k : Setup) : Type 0 where
  pub hz_some : 0 < k.sample_rate
  pub hz_few : k.sample_rate ≤ 768000
  pub some : 0 < k.num_frames
  pub few : k.num_frames ≤ 16777216
  pub slice : T (within k.num_frames k.slice)

pub setup_parts : (k : Setup) → T (well_formed_setup k) → Fixed k
setup_parts k h =
    let a = ltb 0 k.sample_rate in
    let b = leb k.sample_rate 768000 in
    let c = ltb 0 k.num_frames in
    let d = leb k.num_frames 16777216 in
    let e = within k.num_frames k.slice in
    let abcd = and_l ((a && b) && (c && d)) e h in
    let ab = and_l (a && b) (c && d) abcd in
    let cd = and_r (a && b) (c && d) abcd in
    record {
      hz_some = ltb→lt 0 k.sample_rate (and_l a b ab);
      hz_few = leb→le k.sample_rate 768000 (and_r a b ab);
      some = ltb→lt 0 k.num_frames (and_l c d cd);
      few = leb→le k.num_frames 16777216 (and_r c d cd);
      slice = and_r ((a && b) && (c && d)) e h;
    }

-- the N frames lie in the sound
span_within : (k : Setup) → T (within k.num_frames k.slice) → start_of_slice k + length_of_slice k ≤ k.num_frames
span_within k h = go k.slice h
  where
    go : (r : Option (ℕ × ℕ)) → T (within k.num_frames r)
        → elim r as (λ (r : Option (ℕ × ℕ)). ℕ) [ None ↦ 0 | Some (s, e) ↦ s ] + elim r as (λ (r : Option (ℕ × ℕ)). ℕ) [ None ↦ k.num_frames | Some (s, e) ↦ e - s ] ≤ k.num_frames
    go None h = omega arith
    go (Some (s, e)) h = let r = ranged_parts k.num_frames s e h in omega arith

pub span_inside : (k : Setup) → T (well_formed_setup k) → 2 * (start_of_slice k + length_of_slice k) ≤ 2 * k.num_frames
span_inside k h = let l = span_within k (setup_parts k h).slice in omega arith

pub span_few : (k : Setup) → T (well_formed_setup k) → length_of_slice k ≤ 16777216
span_few k h =
    let l = span_within k (setup_parts k h).slice in
    let f = (setup_parts k h).few in
    omega arith

pub span_most : (k : Setup) → T (well_formed_setup k) → length_of_slice k ≤ most
span_most k h = le_trans (span_few k h) (lit≤ tt)

-- ---- the voice

pub well_formed_parts : (v : StaticSound) → T (well_formed v) → WellFormed v
unfolding well_formed
well_formed_parts v h =
    let a = well_formed_setup v.setup in
    let b = finite v.playback_rate in
    let c = well_formed_transport (length_of_slice v.setup) v.moving.transport in
    let d = proper v.fractional_position in
    let e = windowed v.moving.resampler in
    let abcd = and_l (a && b && c && d) e h in
    let abc = and_l (a && b && c) d abcd in
    record {
      setup = and_l a b (and_l (a && b) c abc);
      rate = and_r a b (and_l (a && b) c abc);
      transport_well_formed = well_formed_transport_parts (length_of_slice v.setup) v.moving.transport (and_r (a && b) c abc);
      fraction = and_r (a && b && c) d abcd;
      window = windowed_parts v.moving.resampler (and_r (a && b && c && d) e h);
    }

pub well_formed_of : (v : StaticSound) → WellFormed v → T (well_formed v)
unfolding well_formed
well_formed_of v h =
    let a = well_formed_setup v.setup in
    let b = finite v.playback_rate in
    let c = well_formed_transport (length_of_slice v.setup) v.moving.transport in
    let d = proper v.fractional_position in
    let e = windowed v.moving.resampler in
    and_i (a && b && c && d) e
    (and_i (a && b && c) d (and_i (a && b) c (and_i a b h.setup h.rate) (well_formed_transport_of (length_of_slice v.setup) v.moving.transport h.transport_well_formed)) h.fraction)
    (windowed_of v.moving.resampler h.window)

-- the same with the sound's length
pub well_formed_for_parts : (len : ℕ) (v : StaticSound) → T (well_formed_for len v) → WellFormed v × (len ≡ 2 * v.setup.num_frames)
unfolding well_formed_for
well_formed_for_parts len v h =
    let a = well_formed v in
    let b = eqb len (2 * v.setup.num_frames) in
    (well_formed_parts v (and_l a b h), eqb→eq len (2 * v.setup.num_frames) (and_r a b h))

pub well_formed_for_of : (len : ℕ) (v : StaticSound) → WellFormed v → len ≡ 2 * v.setup.num_frames → T (well_formed_for len v)
unfolding well_formed_for
well_formed_for_of len v h e = and_i (well_formed v) (eqb len (2 * v.setup.num_frames)) (well_formed_of v h) (eq→eqb e)

-- over its own sound a well formed voice may be updated
pub updatable_of : (snd : List Float) (v : StaticSound) → WellFormed v → length snd ≡ 2 * v.setup.num_frames → Updatable snd (slice_of v) v.moving
updatable_of snd v h e =
    record {
      transport_well_formed = h.transport_well_formed;
      few = span_few v.setup h.setup;
      inside = subst (λ (n : ℕ). 2 * (start_of_slice v.setup + length_of_slice v.setup) ≤ n) (sym e) (span_inside v.setup h.setup);
    }

-- ---- the moving part

-- a well formed voice's moving part
pub kept_of : (v : StaticSound) → WellFormed v → Kept (length_of_slice v.setup) v.moving
kept_of v h = record { transport_well_formed = h.transport_well_formed; window = h.window }

-- with another proper fraction and another well formed moving part it stays well formed
pub moved_well_formed : (v : StaticSound) (f : Float) (m : Moving) → WellFormed v → T (proper f) → Kept (length_of_slice v.setup) m → WellFormed (moved v f m)
moved_well_formed v f m h p k = record { setup = h.setup; rate = h.rate; transport_well_formed = k.transport_well_formed; fraction = p; window = k.window }
