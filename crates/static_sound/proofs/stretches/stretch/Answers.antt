-- `stretch` is the slice's part of the sound itself, or all of it, where it lies; the empty part at the start where the voice is refused.
use Rattle.std.specs.Prelude.{Option}
use mathlib.Core.Path.{◌≡◌, refl, sym, ap, subst}
use mathlib.Core.Bool.{Bool, true}
use Prim.Native.Nat.{ℕ, ◌+◌, ◌*◌, ◌≤◌, ◌<◌}
use native.Mathlib.Nat.{zero-add}
use native.Mathlib.Omega.{arith}
use lib.Dec.{T}
use lib.ListN.{length}
use Rattle.playback_position.specs.Positions.{within}
use Rattle.playback_position.proofs.Ranges.{ranged_parts}
use Rattle.sound_state.specs.WellFormed.{well_formed_for}
use Rattle.sound_state.proofs.WellFormed.{setup_parts, well_formed_for_parts}
use Rattle.static_sound.specs.Entries.{stretch_of, stretch_at}
use Rattle.static_sound.proofs.Calls.{fails, passes}
use Rattle.static_sound.proofs.stretches.stretch.Goals.{Else-not-is_well_formed, In-Some}
use Rattle.static_sound.proofs.stretches.stretch.Goals as goal

-- no sample further
at-start : (p : ℕ × ℕ) → p ≡ (p.0, 0 + p.1)
at-start p = ap (λ (n : ℕ). (p.0, n)) (sym (zero-add p.1))

is_true : {b : Bool} → b ≡ true → T b
is_true e = subst T (sym e) tt

well_formed : (c : Else-not-is_well_formed) → well_formed_for (length c.args.sound.now) c.args.voice ≡ true
well_formed c = passes c.is_well_formed.ensures c.if-not-is_well_formed.false

-- the slice lies in the sound
record Numbers (s e n len : ℕ) : Type 0 where
  more : s < e
  inside : e ≤ n
  few : n ≤ 16777216
  lent : len ≡ 2 * n

numbers : (c : In-Some) → Numbers c.in-Some.start c.in-Some.end c.args.voice.setup.num_frames (length c.args.sound.now)
numbers c =
    let a = c.args in
    let o = well_formed_for_parts (length a.sound.now) a.voice (is_true (passes c.is_well_formed.ensures c.if-not-is_well_formed.false)) in
    let k = setup_parts a.voice.setup o.0.setup in
    let r = ranged_parts a.voice.setup.num_frames c.in-Some.start c.in-Some.end (subst (λ (r : Option (ℕ × ℕ)). T (within a.voice.setup.num_frames r)) c.in-Some.is k.slice) in
    record { more = r.more; inside = r.inside; few = k.few; lent = o.1 }

pub returns-then-not-is_well_formed : goal.returns-then-not-is_well_formed
unfolding stretch_of stretch_at
returns-then-not-is_well_formed c =
    let e = fails c.is_well_formed.ensures c.if-not-is_well_formed.true in
    record { result_value = simp e; ref_ptr_value = simp e (at-start c.args.sound.ref_ptr) }

pub overflow_mul-result : goal.overflow_mul-result
overflow_mul-result c = omega (arith, numbers (goal.at.overflow_mul-result c).In-Some)

pub overflow_mul-result-in-Some : goal.overflow_mul-result-in-Some
overflow_mul-result-in-Some c = omega (arith, numbers (goal.at.overflow_mul-result-in-Some c).In-Some)

pub offset_bounds-sound-start : goal.offset_bounds-sound-start
offset_bounds-sound-start c = omega (arith, numbers (goal.at.offset_bounds-sound-start c).In-Some)

pub slice_bounds-result-count : goal.slice_bounds-result-count
slice_bounds-result-count c = omega (arith, numbers (goal.at.slice_bounds-result-count c).In-Some)

pub slice_bounds-result-start : goal.slice_bounds-result-start
slice_bounds-result-start c = omega (arith, numbers (goal.at.slice_bounds-result-start c).In-Some)

pub slice_bounds-result-end-in-Some : goal.slice_bounds-result-end-in-Some
slice_bounds-result-end-in-Some c = omega (arith, numbers (goal.at.slice_bounds-result-end-in-Some c).In-Some)

pub returns-in-None : goal.returns-in-None
unfolding stretch_of stretch_at
returns-in-None c =
    let e = well_formed (goal.at.returns-in-None c).Else-not-is_well_formed in
    let h = c.in-None.is in
    record { result_value = simp (e, h); ref_ptr_value = simp (e, h) (at-start c.args.sound.ref_ptr) }

pub returns-in-Some : goal.returns-in-Some
unfolding stretch_of stretch_at
returns-in-Some c =
    let e = well_formed (goal.at.returns-in-Some c).Else-not-is_well_formed in
    let h = c.in-Some.is in
    record { result_value = simp (e, h); ref_ptr_value = simp (e, h) refl }
