-- What each entry returns, refused or accepted: refusal 0 means that the call was accepted.
-- By whether there is a number. And an accepted block leaves a well formed state. Assumes nothing.
use mathlib.Core.Path.{◌≡◌, refl, sym, ap, ◌∙◌}
use Prim.Native.Nat.{ℕ, ◌*◌}
use mathlib.Core.Bool.{Bool}
use mathlib.Core.List.{List}
use lib.Dec.{T}
use lib.ListN.{length}
use lib.Ieee.{Float, lt}
use lib.Ieee.Fits.{and_r}
use Rattle.sound_state.proofs.Refusals.{none_refused, some_refused, accepted}
use Rattle.numbers.specs.Words.{positive_zero, finite}
use Rattle.sound_lanes.specs.Lanes.{Lanes, rows, is_time_step}
use Rattle.sound_state.specs.declared.Setup.{Setup}
use Rattle.sound_state.specs.declared.StaticSound.{StaticSound}
use Rattle.sound_state.specs.WellFormed.{well_formed_for}
use Rattle.sound_state.proofs.WellFormed.{well_formed_for_parts, well_formed_for_of}
use Rattle.sound_block.specs.declared.Signals.{Signals}
use Rattle.sound_block.specs.Blocks.{block}
use Rattle.sound_slow_path.specs.Plays.{Outcome, accepted_with}
use Rattle.static_sound.specs.Entries.{refused_block, refused_with, holds, processed, room, mixed, processed_into}
use Rattle.sound_block.proofs.Blocks.{block_setup}
use Rattle.sound_block.proofs.Keeps.{block_well_formed}
use Rattle.static_sound.proofs.Refusals.{Accepted}

-- ---- an accepted block

pub time_step_above : (dt : Float) → T (is_time_step dt) → T (lt positive_zero dt)
time_step_above dt h = and_r (finite dt) (lt positive_zero dt) h

-- an accepted block leaves a state that is well formed over its sound
pub block_well_formed_for : (snd : List Float) (v : StaticSound) (dt : Float) (b : Lanes) (g : Signals) (placed : Bool) → Accepted (length snd) v dt b placed
    → T (well_formed_for (length snd) (block snd dt (rows b) g v).voice)
block_well_formed_for snd v dt b g placed h =
    let p = well_formed_for_parts (length snd) v h.well_formed_for in
    let u = (block snd dt (rows b) g v).voice in
    well_formed_for_of (length snd) u (block_well_formed snd dt (time_step_above dt h.is_time_step) (rows b) g v h.near p.0)
    (p.1 ∙ ap (λ (k : Setup). 2 * k.num_frames) (sym (block_setup snd dt (rows b) g v)))

-- ---- by the refusal

abbrev number : Outcome → ℕ
number o = o.answer.refusal

module _ (snd : List Float) (v : StaticSound) (dt : Float) (b : Lanes) (g : Signals) (out : List Float) where
  abbrev playing : Outcome
  playing = let p = block snd dt (rows b) g v in accepted_with p p.samples

  pub processed_passed : (processed snd v dt b g out).answer.refusal ≡ 0 → refused_block (length snd) v dt b (holds b out) ≡ 0
  unfolding processed
  processed_passed e = let k = refused_block (length snd) v dt b (holds b out) in none_refused number k playing (refused_with k v out) refl e

  pub processed_done : refused_block (length snd) v dt b (holds b out) ≡ 0
      → let p = block snd dt (rows b) g v in processed snd v dt b g out ≡ accepted_with p p.samples
  unfolding processed
  processed_done e = let k = refused_block (length snd) v dt b (holds b out) in accepted number k playing (refused_with k v out) e

  pub processed_refused : ((processed snd v dt b g out).answer.refusal ≡ 0 → ⊥)
      → processed snd v dt b g out ≡ refused_with (refused_block (length snd) v dt b (holds b out)) v out
  unfolding processed
  processed_refused h = let k = refused_block (length snd) v dt b (holds b out) in some_refused number k playing (refused_with k v out) refl h

module _ (snd : List Float) (v : StaticSound) (dt : Float) (b : Lanes) (g : Signals) (mix : List Float) (from : ℕ) where
  abbrev mixing : Outcome
  mixing = let p = block snd dt (rows b) g v in accepted_with p (mixed from (length b.rate) mix p.samples)

  pub into_passed : (processed_into snd v dt b g mix from).answer.refusal ≡ 0 → refused_block (length snd) v dt b (room from (length b.rate) mix) ≡ 0
  unfolding processed_into
  into_passed e = let k = refused_block (length snd) v dt b (room from (length b.rate) mix) in none_refused number k mixing (refused_with k v mix) refl e

  pub into_done : refused_block (length snd) v dt b (room from (length b.rate) mix) ≡ 0
      → let p = block snd dt (rows b) g v in processed_into snd v dt b g mix from ≡ accepted_with p (mixed from (length b.rate) mix p.samples)
  unfolding processed_into
  into_done e = let k = refused_block (length snd) v dt b (room from (length b.rate) mix) in accepted number k mixing (refused_with k v mix) e

  pub into_refused : ((processed_into snd v dt b g mix from).answer.refusal ≡ 0 → ⊥)
      → processed_into snd v dt b g mix from ≡ refused_with (refused_block (length snd) v dt b (room from (length b.rate) mix)) v mix
  unfolding processed_into
  into_refused h = let k = refused_block (length snd) v dt b (room from (length b.rate) mix) in some_refused number k mixing (refused_with k v mix) refl h
