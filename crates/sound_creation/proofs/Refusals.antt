-- From refusal 0 to all tests that an accepted creation has passed. Assumes nothing.
use mathlib.Core.Path.{◌≡◌}
use Prim.Native.Nat.{ℕ, ◌/◌, ◌%◌, ◌≤◌, ◌<◌}
use mathlib.Core.Bool.{◌&&◌}
use lib.Dec.{T, leb, ltb, eqb, leb→le, ltb→lt, eqb→eq}
use lib.Ieee.Fits.{and_l, and_r}
use Rattle.numbers.specs.Words.{finite}
use Rattle.playback_position.specs.Positions.{finite_position, position_in_frames}
use Rattle.sound_state.specs.Voices.{length_of_slice}
use Rattle.sound_creation.specs.declared.Settings.{Settings}
use Rattle.sound_creation.specs.Creation.{setup_of, allowed, refused_new}
use Rattle.sound_state.proofs.Refusals.{passed}

pub record Creatable (len : ℕ) (s : Settings) : Type 0 where
  pub hz_some : 0 < s.sample_rate
  pub hz_few : s.sample_rate ≤ 768000
  pub even : len % 2 ≡ 0
  pub some : 0 < len / 2
  pub few : len / 2 ≤ 16777216
  pub slice : T (allowed s.sample_rate (len / 2) s.slice)
  pub start_placeable : T (finite_position s.start_position)
  pub start_inside : position_in_frames s.sample_rate s.start_position < length_of_slice (setup_of len s)
  pub loop : T (allowed s.sample_rate (length_of_slice (setup_of len s)) s.loop_region)
  pub rate : T (finite s.playback_rate)

pub creatable_parts : (len : ℕ) (s : Settings) → refused_new len s ≡ 0 → Creatable len s
unfolding refused_new
creatable_parts len s h =
    let n = length_of_slice (setup_of len s) in
    let a = ltb 0 s.sample_rate in
    let b = leb s.sample_rate 768000 in
    let c = eqb (len % 2) 0 in
    let d = ltb 0 (len / 2) in
    let e = leb (len / 2) 16777216 in
    let f = finite_position s.start_position in
    let g = ltb (position_in_frames s.sample_rate s.start_position) n in
    let p2 = passed (a && b) 1 _ h in
    let p3 = passed (c && d && e) 2 _ p2.1 in
    let p4 = passed (allowed s.sample_rate (len / 2) s.slice) 3 _ p3.1 in
    let p5 = passed (f && g) 4 _ p4.1 in
    let p6 = passed (allowed s.sample_rate n s.loop_region) 5 _ p5.1 in
    let p7 = passed (finite s.playback_rate) 6 0 p6.1 in
    let cd = and_l (c && d) e p3.0 in
    record {
      hz_some = ltb→lt 0 s.sample_rate (and_l a b p2.0);
      hz_few = leb→le s.sample_rate 768000 (and_r a b p2.0);
      even = eqb→eq (len % 2) 0 (and_l c d cd);
      some = ltb→lt 0 (len / 2) (and_r c d cd);
      few = leb→le (len / 2) 16777216 (and_r (c && d) e p3.0);
      slice = p4.0;
      start_placeable = and_l f g p5.0;
      start_inside = ltb→lt (position_in_frames s.sample_rate s.start_position) n (and_r f g p5.0);
      loop = p6.0;
      rate = p7.0;
    }
