-- A block's call, from its parts: its refusal, and what it plays.
use mathlib.Core.Path.{◌≡◌, sym, ap, ◌∙◌, subst}
use mathlib.Core.Bool.{Bool, true, false, ◌&&◌, cond}
use mathlib.Core.List.{List, ◌++◌}
use Prim.Native.Nat.{ℕ, ◌+◌, ◌-◌, ◌*◌, ◌/◌, ◌%◌, ◌≤◌}
use native.Mathlib.Omega.{arith}
use lib.Dec.{leb, eqb, leb→le, eqb→eq}
use lib.ListN.{length, take, drop, length-take, length-drop}
use lib.Seq.{drop-drop}
use lib.Ieee.{Float}
use lib.Ieee.Fits.{and_r}
use borrow.Author.Tests.{ne_eqb}
use Rattle.numbers.specs.Words.{finite, positive_zero}
use lib.Ieee.{lt}
use Rattle.sound_lanes.specs.Lanes.{Lanes, rows, sized, is_time_step, judged}
use Rattle.sound_state.specs.declared.StaticSound.{StaticSound}
use Rattle.sound_state.specs.WellFormed.{well_formed_for}
use Rattle.sound_state.proofs.WellFormed.{well_formed_for_parts}
use Rattle.sound_block.specs.declared.Signals.{Signals}
use Rattle.sound_slow_path.specs.Plays.{BlockAnswer, Outcome, accepted_with, accepted_as}
use Rattle.sound_block.specs.Blocks.{block}
use Rattle.sound_slow_path.specs.FrameSteps.{Playable}
use Rattle.static_sound.specs.Entries.{refused_block, refused_with, room, mixed, processed_into}
use Rattle.static_sound.proofs.Refusals.{accepted_parts}

-- ---- the number, test by test

-- a callee's test that failed, and one that passed
pub fails : {b d : Bool} → b ≡ d → b ≡ false → d ≡ false
fails e t = sym e ∙ t

pub passes : {b d : Bool} → b ≡ d → b ≡ true → d ≡ true
passes e t = sym e ∙ t

module _ (len : ℕ) (v : StaticSound) (dt : Float) (b : Lanes) (placed : Bool) where
  pub number_1 : well_formed_for len v ≡ false → 1 ≡ refused_block len v dt b placed
  unfolding refused_block
  number_1 h = simp h

  pub number_9 : well_formed_for len v ≡ true → sized b ≡ false → 9 ≡ refused_block len v dt b placed
  unfolding refused_block
  number_9 h s = simp (h, s)

  pub number_9_place : well_formed_for len v ≡ true → sized b ≡ true → placed ≡ false → 9 ≡ refused_block len v dt b placed
  unfolding refused_block
  number_9_place h s p = simp (h, s, p)

  pub number_10 : well_formed_for len v ≡ true → sized b ≡ true → placed ≡ true → is_time_step dt ≡ false → 10 ≡ refused_block len v dt b placed
  unfolding refused_block
  number_10 h s p t = simp (h, s, p, t)

  pub number_judged : well_formed_for len v ≡ true → sized b ≡ true → placed ≡ true → is_time_step dt ≡ true → judged v.setup.sample_rate dt b ≡ refused_block len v dt b placed
  unfolding refused_block
  number_judged h s p t = simp (h, s, p, t)

-- ---- what an accepted call asks of the sound

playable : (snd : List Float) (v : StaticSound) (dt : Float) (b : Lanes) (placed : Bool) (m : ℕ) → refused_block (length snd) v dt b placed ≡ 0 → m ≡ 2 * length b.rate
    → Playable snd v dt b m
playable snd v dt b placed m h k =
    let p = accepted_parts (length snd) v dt b placed h in
    let o = well_formed_for_parts (length snd) v p.well_formed_for in
    record { well_formed = o.0; lent = o.1; sized = p.sized; long = k; is_time_step = and_r (finite dt) (lt positive_zero dt) p.is_time_step; near = p.near }

-- ---- into a mix

module _ (snd : List Float) (v : StaticSound) (dt : Float) (b : Lanes) (g : Signals) (mix : List Float) (from : ℕ) where
  abbrev number : ℕ
  number = refused_block (length snd) v dt b (room from (length b.rate) mix)

  pub refused_into : (k : ℕ) → k ≡ number → (k ≡ 0 → ⊥) → refused_with k v mix ≡ processed_into snd v dt b g mix from
  unfolding processed_into
  refused_into k e n = rw (← e) (simp (ne_eqb k 0 n))

  -- the place holds the block
  pub inside : number ≡ 0 → 2 * (from + length b.rate) ≤ length mix
  inside h =
      let p = (accepted_parts (length snd) v dt b (room from (length b.rate) mix) h).placed in
      let l = leb→le (from + length b.rate) (length mix / 2) (and_r (eqb (length mix % 2) 0) (leb (from + length b.rate) (length mix / 2)) p) in
      omega arith

  part_long : number ≡ 0 → length (take (2 * from + 2 * length b.rate - 2 * from) (drop (2 * from) mix)) ≡ 2 * length b.rate
  part_long h = let l = inside h in simp (length-take, length-drop) (omega arith)

  pub playable_part : number ≡ 0 → Playable snd v dt b (length (take (2 * from + 2 * length b.rate - 2 * from) (drop (2 * from) mix)))
  playable_part h = playable snd v dt b (room from (length b.rate) mix) _ h (part_long h)

  pub processed_into_lem : (r : BlockAnswer) (samples : List Float) → number ≡ 0 → record { answer = r; samples = samples } ≡ accepted_as (block snd dt (rows b) g v)
      → record { answer = r; samples = take (2 * from) mix ++ (samples ++ drop (2 * from + 2 * length b.rate - 2 * from) (drop (2 * from) mix)) } ≡ processed_into snd v dt b g mix from
  unfolding processed_into
  processed_into_lem r samples e h =
      let n = length b.rate in
      let k : 2 * from + (2 * from + 2 * n - 2 * from) ≡ 2 * (from + n) = omega arith in
      let p = block snd dt (rows b) g v in
      ap (λ (l : List Float). record { answer = r; samples = take (2 * from) mix ++ (samples ++ l) }) (drop-drop (2 * from + 2 * n - 2 * from) (2 * from) mix ∙ ap (λ (m : ℕ). drop m mix) k)
      ∙ ap (λ (o : Outcome). record { answer = o.answer; samples = mixed from n mix o.samples }) h
      ∙ sym (ap (λ (m : ℕ). cond (eqb m 0) (accepted_with p (mixed from n mix p.samples)) (refused_with m v mix)) e)

  -- as the code has it: its number of frames n, and whether they have room
  module _ (n : ℕ) (p : Bool) (e : n ≡ length b.rate) (h : p ≡ (eqb (length mix % 2) 0 && leb (from + n) (length mix / 2))) where
    as_room : p ≡ room from (length b.rate) mix
    as_room = h ∙ ap (λ (k : ℕ). room from k mix) e

    pub refused_at : (k : ℕ) → k ≡ refused_block (length snd) v dt b p → (k ≡ 0 → ⊥) → refused_with k v mix ≡ processed_into snd v dt b g mix from
    refused_at k z = refused_into k (z ∙ ap (refused_block (length snd) v dt b) as_room)

    module _ (z : 0 ≡ refused_block (length snd) v dt b p) where
      none : number ≡ 0
      none = sym (z ∙ ap (refused_block (length snd) v dt b) as_room)

      pub inside_at : 2 * (from + n) ≤ length mix
      inside_at = let l = inside none in omega arith

      pub playable_at : Playable snd v dt b (length (take (2 * from + 2 * n - 2 * from) (drop (2 * from) mix)))
      playable_at = subst (λ (k : ℕ). Playable snd v dt b (length (take (2 * from + 2 * k - 2 * from) (drop (2 * from) mix)))) (sym e) (playable_part none)

      pub processed_at : (r : BlockAnswer) (samples : List Float) → record { answer = r; samples = samples } ≡ accepted_as (block snd dt (rows b) g v)
          → record { answer = r; samples = take (2 * from) mix ++ (samples ++ drop (2 * from + 2 * n - 2 * from) (drop (2 * from) mix)) } ≡ processed_into snd v dt b g mix from
      processed_at r samples k =
          ap (λ (m : ℕ). record { answer = r; samples = take (2 * from) mix ++ (samples ++ drop (2 * from + 2 * m - 2 * from) (drop (2 * from) mix)) }) e
          ∙ processed_into_lem r samples none k
