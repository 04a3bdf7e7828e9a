-- Playing keeps a voice well formed: the sum's rest is a proper fraction, and the updates keep the moving parts. And how many steps it makes.
-- By induction on the lanes. Assumes nothing.
use Prim.Native.Nat.{ℕ, suc, ◌+◌, ◌*◌, ◌≤◌}
use native.Mathlib.Nat.{le_refl}
use native.Mathlib.Omega.{arith}
use mathlib.Core.List.{List, [], ◌∷◌}
use lib.Dec.{T}
use lib.ListN.{length}
use lib.Ieee.{Float, lt, of_int}
use lib.Ieee.Fits.{and_l, and_r}
use Rattle.numbers.specs.Words.{positive_zero, proper, whole, part, advance}
use Rattle.numbers.specs.Lists.{all}
use Rattle.numbers.proofs.Fractions.{advance_finite_clear, sum_steps}
use Rattle.numbers.proofs.Stepping.{sum_proper}
use Rattle.sound_lanes.specs.Lanes.{Lane, near}
use Rattle.sound_state.specs.declared.StaticSound.{StaticSound}
use Rattle.sound_state.specs.Voices.{slice_of}
use Rattle.sound_update.specs.Updates.{updates}
use Rattle.sound_state.specs.WellFormed.{WellFormed}
use Rattle.sound_state.proofs.WellFormed.{span_most, kept_of, moved_well_formed}
use Rattle.sound_update.proofs.Kept.{updates_kept}
use Rattle.sound_slow_path.specs.Plays.{total, after_frame, plays}

module _ (snd : List Float) (dt : Float) (t : T (lt positive_zero dt)) where
  -- ---- one frame

  -- the sum's fractional part is a proper fraction again
  pub rest_proper : (v : StaticSound) (l : Lane) → T (near v.setup.sample_rate dt l) → T (proper v.fractional_position) → T (proper (part (total dt v l)))
  unfolding total
  rest_proper v l k h =
      let a = advance v.setup.sample_rate l.rate dt in
      sum_proper v.fractional_position a h (advance_finite_clear v.setup.sample_rate l.rate dt t k) k

  -- at most 257 steps
  pub frame_steps_lem : (v : StaticSound) (l : Lane) → T (near v.setup.sample_rate dt l) → T (proper v.fractional_position) → whole (total dt v l) ≤ 257
  unfolding total of_int
  frame_steps_lem v l k h =
      let a = advance v.setup.sample_rate l.rate dt in
      sum_steps v.fractional_position a 256 (le_refl 256) h (advance_finite_clear v.setup.sample_rate l.rate dt t k) k

  pub turned_well_formed : (v : StaticSound) (l : Lane) → T (near v.setup.sample_rate dt l) → WellFormed v → WellFormed (after_frame snd dt v l)
  unfolding after_frame
  turned_well_formed v l k h =
      let x = total dt v l in
      moved_well_formed v (part x) (updates (whole x) snd (slice_of v) v.moving) h (rest_proper v l k h.fraction)
      (updates_kept (whole x) snd (slice_of v) v.moving (span_most v.setup h.setup) (kept_of v h))

  -- ---- a block

  pub plays_well_formed : (ls : List Lane) (v : StaticSound) → T (all (near v.setup.sample_rate dt) ls) → WellFormed v → WellFormed (plays snd dt ls v).voice
  unfolding plays after_frame
  plays_well_formed [] v k h = h
  plays_well_formed (l ∷ ls) v k h =
      let n = near v.setup.sample_rate dt l in
      let r = all (near v.setup.sample_rate dt) ls in
      plays_well_formed ls (after_frame snd dt v l) (and_r n r k) (turned_well_formed v l (and_l n r k) h)

  pub plays_steps : (ls : List Lane) (v : StaticSound) → T (all (near v.setup.sample_rate dt) ls) → WellFormed v → (plays snd dt ls v).steps ≤ 257 * length ls
  unfolding plays after_frame
  plays_steps [] v k h = le_refl 0
  plays_steps (l ∷ ls) v k h =
      let n = near v.setup.sample_rate dt l in
      let r = all (near v.setup.sample_rate dt) ls in
      let u = after_frame snd dt v l in
      more (whole (total dt v l)) (plays snd dt ls u).steps (length ls)
      (frame_steps_lem v l (and_l n r k) h.fraction) (plays_steps ls u (and_r n r k) (turned_well_formed v l (and_l n r k) h))
    where
      more : (w s n : ℕ) → w ≤ 257 → s ≤ 257 * n → w + s ≤ 257 * suc n
      more w s n h q = omega arith
