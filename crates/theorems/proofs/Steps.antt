-- The steps of a block: a frame makes the updates of its whole part, and updates add up. By induction on the lanes. Assumes nothing.
use mathlib.Core.Path.{◌≡◌, refl, sym, ap, ◌∙◌, subst}
use Prim.Native.Nat.{ℕ, zero, suc, ◌+◌, ◌*◌, ◌≤◌}
use native.Mathlib.Nat.{zero-add, suc-add}
use native.Mathlib.Omega.{arith}
use mathlib.Core.Bool.{Bool, true, false, cond}
use mathlib.Core.List.{List, [], ◌∷◌}
use lib.ListN.{length}
use lib.Ieee.{Float}
use Rattle.numbers.specs.Words.{whole}
use Rattle.sound_lanes.specs.Lanes.{Lane, rows}
use Rattle.sound_lanes.proofs.Rows.{beside_length}
use Rattle.sound_update.specs.declared.Moving.{Moving}
use Rattle.sound_update.specs.declared.Slice.{Slice}
use Rattle.sound_state.specs.declared.StaticSound.{StaticSound}
use Rattle.sound_state.specs.Voices.{slice_of}
use Rattle.sound_update.specs.Updates.{updates, updated}
use Rattle.sound_state.proofs.WellFormed.{well_formed_for_parts}
use Rattle.sound_slow_path.specs.Plays.{total, after_frame, plays, accepted_with}
use Rattle.sound_block.specs.Blocks.{begun, live, block}
use Rattle.static_sound.specs.Entries.{holds}
use Rattle.sound_block.proofs.Blocks.{block_live, block_silent}
use Rattle.sound_block.proofs.Keeps.{begun_well_formed}
use Rattle.sound_slow_path.proofs.Keeps.{plays_steps}
use Rattle.static_sound.proofs.Refusals.{Accepted, accepted_parts}
use Rattle.static_sound.proofs.Entries.{time_step_above, processed_passed, processed_done}
use Rattle.theorems.specs.Sums.{sum}
use Rattle.theorems.specs.Steps.{steps_of, Stepped, StepsMade}

updates_add : (a n : ℕ) (snd : List Float) (c : Slice) (m : Moving) → updates (a + n) snd c m ≡ updates n snd c (updates a snd c m)
unfolding updates
updates_add zero n snd c m = ap (λ (k : ℕ). updates k snd c m) (zero-add n)
updates_add (suc a) n snd c m = ap (λ (k : ℕ). updates k snd c m) (suc-add a n) ∙ updates_add a n snd c (updated snd c m)

module _ (snd : List Float) (dt : Float) where
  pub plays_sum : (ls : List Lane) (v : StaticSound) → (plays snd dt ls v).steps ≡ sum (steps_of snd dt ls v)
  unfolding plays steps_of
  plays_sum [] v = refl
  plays_sum (l ∷ ls) v = ap (λ (n : ℕ). whole (total dt v l) + n) (plays_sum ls (after_frame snd dt v l))

  plays_made : (ls : List Lane) (v : StaticSound) → (plays snd dt ls v).voice.moving ≡ updates (plays snd dt ls v).steps snd (slice_of v) v.moving
  unfolding plays after_frame updates
  plays_made [] v = refl
  plays_made (l ∷ ls) v =
      let u = after_frame snd dt v l in
      plays_made ls u ∙ sym (updates_add (whole (total dt v l)) (plays snd dt ls u).steps snd (slice_of v) v.moving)

pub steps_made : StepsMade
unfolding begun updates
steps_made snd v dt b g out e = rw (processed_done snd v dt b g out (processed_passed snd v dt b g out e)) (go (live (begun g v)) refl)
  where
    p : Accepted (length snd) v dt b (holds b out)
    p = accepted_parts (length snd) v dt b (holds b out) (processed_passed snd v dt b g out e)

    go : (c : Bool) → live (begun g v) ≡ c → let q = block snd dt (rows b) g v in Stepped snd v dt b g (accepted_with q q.samples)
    go true f =
        rw (block_live snd dt (rows b) g v f)
        (record {
          reported = plays_sum snd dt (rows b) (begun g v) ∙ sym (ap (λ (c : Bool). cond c (sum (steps_of snd dt (rows b) (begun g v))) 0) f);
          few =
              subst (λ (n : ℕ). (plays snd dt (rows b) (begun g v)).steps ≤ 257 * n) (beside_length b.fade b.volume b.left b.right b.rate)
              (plays_steps snd dt (time_step_above dt p.is_time_step) (rows b) (begun g v) p.near (begun_well_formed g v (well_formed_for_parts (length snd) v p.well_formed_for).0));
          made = plays_made snd dt (rows b) (begun g v);
        })
    go false f =
        rw (block_silent snd dt (rows b) g v f)
        (record {
          reported = sym (ap (λ (c : Bool). cond c (sum (steps_of snd dt (rows b) (begun g v))) 0) f);
          few = omega arith;
          made = refl;
        })
