-- The part that the entry returns is the stretch: this many samples of the sound from its offset on, and none if the state is refused.
-- By whether the state is well formed and whether there is a slice. Assumes nothing.
use Rattle.std.specs.Prelude.{Option, Some, None}
use mathlib.Core.Path.{◌≡◌, refl, sym, ap, ◌∙◌, subst}
use Prim.Native.Nat.{ℕ, ◌-◌, ◌*◌, ◌≤◌, ◌<◌}
use native.Mathlib.Omega.{arith}
use mathlib.Core.Bool.{Bool, true, false, cond}
use mathlib.Core.List.{List, []}
use lib.Dec.{T}
use lib.ListN.{length, take, drop, length-drop}
use lib.Seq.{take-length, length-take-le}
use lib.Ieee.{Float}
use Rattle.playback_position.specs.Positions.{within}
use Rattle.playback_position.proofs.Ranges.{ranged_parts}
use Rattle.sound_state.specs.declared.Setup.{Setup}
use Rattle.sound_state.specs.declared.StaticSound.{StaticSound}
use Rattle.sound_state.specs.Voices.{length_of_slice, start_of_slice}
use Rattle.sound_state.specs.WellFormed.{well_formed_for}
use Rattle.sound_state.proofs.WellFormed.{Fixed, setup_parts, span_inside, well_formed_for_parts}
use Rattle.static_sound.specs.Entries.{sliced, stretch_of, stretch_at}
use Rattle.c_state.specs.declared.CableowlState.{CableowlState}
use Rattle.cableowl.specs.declared.CableowlPart.{CableowlPart}
use Rattle.c_state.specs.Records.{decoded}
use Rattle.cableowl.specs.Entries.{part_c}
use Rattle.cableowl.proofs.Few.{part_few}

-- ---- how long the stretch is

sliced_part : (snd : List Float) (k : Setup) → length snd ≡ 2 * k.num_frames → sliced k.slice snd ≡ take (2 * length_of_slice k) (drop (2 * start_of_slice k) snd)
sliced_part snd k e = go k.slice
  where
    go : (r : Option (ℕ × ℕ))
        → sliced r snd
        ≡ take (2 * elim r as (λ (r : Option (ℕ × ℕ)). ℕ) [ None ↦ k.num_frames | Some (s, e) ↦ e - s ]) (drop (2 * elim r as (λ (r : Option (ℕ × ℕ)). ℕ) [ None ↦ 0 | Some (s, e) ↦ s ]) snd)
    go None = sym (ap (λ (n : ℕ). take n snd) (sym e) ∙ take-length snd)
    go (Some (s, t)) = ap (λ (n : ℕ). take n (drop (2 * s) snd)) (twice s t)
      where
        twice : (s t : ℕ) → 2 * t - 2 * s ≡ 2 * (t - s)
        twice s t = omega arith

-- N is not 0
span_some : (k : Setup) → Fixed k → 0 < length_of_slice k
span_some k h = go k.slice h.slice
  where
    go : (r : Option (ℕ × ℕ)) → T (within k.num_frames r) → 0 < elim r as (λ (r : Option (ℕ × ℕ)). ℕ) [ None ↦ k.num_frames | Some (s, e) ↦ e - s ]
    go None w = h.some
    go (Some (s, e)) w = let r = (ranged_parts k.num_frames s e w).more in omega arith

module _ (snd : List Float) (v : StaticSound) where
  abbrev Stretch : Bool → List Float
  Stretch b = cond b (sliced v.setup.slice snd) []

  -- well formed, twice N samples
  sliced_length : T (well_formed_for (length snd) v) → length (sliced v.setup.slice snd) ≡ 2 * length_of_slice v.setup
  sliced_length h =
      let o = well_formed_for_parts (length snd) v h in
      let i = span_inside v.setup o.0.setup in
      let d = length-drop (2 * start_of_slice v.setup) snd in
      ap length (sliced_part snd v.setup o.1) ∙ length-take-le (2 * length_of_slice v.setup) (drop (2 * start_of_slice v.setup) snd) (omega (arith, i, d, o.1))

  sliced_some : T (well_formed_for (length snd) v) → length (sliced v.setup.slice snd) ≡ 0 → ⊥
  sliced_some h e =
      let s = span_some v.setup (setup_parts v.setup (well_formed_for_parts (length snd) v h).0.setup) in
      let l = sliced_length h in
      omega (arith, s, l, e)

  -- none: refused
  pub none_refused : length (stretch_of snd v) ≡ 0 → well_formed_for (length snd) v ≡ false
  unfolding stretch_of
  none_refused e = go (well_formed_for (length snd) v) (λ h. sliced_some h) e
    where
      go : (b : Bool) → (T b → length (sliced v.setup.slice snd) ≡ 0 → ⊥) → length (Stretch b) ≡ 0 → b ≡ false
      go true f e = absurd (f tt e)
      go false f e = refl

  -- some: well formed
  pub some_well_formed_for : (length (stretch_of snd v) ≡ 0 → ⊥) → well_formed_for (length snd) v ≡ true
  unfolding stretch_of
  some_well_formed_for n = go (well_formed_for (length snd) v) n
    where
      go : (b : Bool) → (length (Stretch b) ≡ 0 → ⊥) → b ≡ true
      go true n = refl
      go false n = absurd (n refl)

-- ---- what the entry returns, from the part xs that `stretch` returned

module _ (snd : List Float) (c : CableowlState) (v : StaticSound) (xs : List Float) (d : v ≡ decoded c) (f : xs ≡ stretch_of snd v) where
  pub part_none : length xs ≡ 0 → ◌≡◌ {A = CableowlPart} (record { offset = 0; length = 0 }) (part_c snd c)
  unfolding part_c stretch_at
  part_none e =
      let z : length (stretch_of snd v) ≡ 0 = ap length (sym f) ∙ e in
      rw (← d, none_refused snd v z, z)

  pub part_fits : (length xs ≡ 0 → ⊥) → 2 * start_of_slice v.setup ≤ 33554432
  part_fits n =
      let k = part_few (length snd) v (subst T (sym (some_well_formed_for snd v (λ z. n (ap length f ∙ z)))) tt) in
      omega arith

  pub part_is : (length xs ≡ 0 → ⊥) → (m : ℕ) → m ≡ start_of_slice v.setup → ◌≡◌ {A = CableowlPart} (record { offset = 2 * m; length = length xs }) (part_c snd c)
  unfolding part_c stretch_at
  part_is n m p = rw (p, ← d, some_well_formed_for snd v (λ z. n (ap length f ∙ z)), f)

-- ---- the samples of a part

abbrev pub cut_from : List Float → CableowlPart → List Float
cut_from snd p = take p.length (drop p.offset snd)

pub stretch_part : (snd : List Float) (c : CableowlState) → stretch_of snd (decoded c) ≡ cut_from snd (part_c snd c)
unfolding stretch_of part_c stretch_at
stretch_part snd c = go (well_formed_for (length snd) v) refl
  where
    v : StaticSound
    v = decoded c

    go : (b : Bool) → well_formed_for (length snd) v ≡ b → Stretch snd v b ≡ take (length (Stretch snd v b)) (drop (cond b (2 * start_of_slice v.setup) 0) snd)
    go true e =
        let h : T (well_formed_for (length snd) v) = subst T (sym e) tt in
        sliced_part snd v.setup (well_formed_for_parts (length snd) v h).1
        ∙ ap (λ (n : ℕ). take n (drop (2 * start_of_slice v.setup) snd)) (sym (sliced_length snd v h))
    go false e = refl
