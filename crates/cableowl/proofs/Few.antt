-- Numbers that fit: the count of every state that is encoded, and the part of the sound that is played.
-- An accepted call returns a state that is well formed over its sound, and there the count is at most 4. Assumes nothing.
use mathlib.Core.Path.{◌≡◌}
use Prim.Native.Nat.{ℕ, ◌+◌, ◌*◌, ◌≤◌}
use native.Mathlib.Nat.{le_refl}
use native.Mathlib.Omega.{arith}
use mathlib.Core.Bool.{Bool, true, false, cond}
use mathlib.Core.List.{List}
use lib.Dec.{T, eqb, eqb→eq}
use lib.ListN.{length}
use lib.Ieee.{Float}
use Rattle.sound_lanes.specs.Lanes.{Lanes, rows}
use Rattle.sound_state.specs.declared.StaticSound.{StaticSound}
use Rattle.sound_state.specs.Voices.{length_of_slice, start_of_slice}
use Rattle.sound_state.specs.WellFormed.{well_formed_for}
use Rattle.sound_state.proofs.WellFormed.{setup_parts, span_inside, well_formed_for_parts}
use Rattle.sound_creation.specs.declared.Settings.{Settings}
use Rattle.sound_creation.specs.Creation.{refused_new, made, blank_sound, created}
use Rattle.sound_creation.proofs.Refusals.{creatable_parts}
use Rattle.sound_creation.proofs.Makes.{made_well_formed_for}
use Rattle.sound_commands.specs.declared.Commands.{Commands}
use Rattle.sound_commands.specs.Commands.{commanded}
use Rattle.sound_commands.proofs.Refusals.{obeyable_parts}
use Rattle.sound_commands.proofs.Orders.{obeyed_well_formed_for}
use Rattle.sound_commands.proofs.Answers.{commanded_passed, commanded_done}
use Rattle.sound_block.specs.declared.Signals.{Signals}
use Rattle.sound_slow_path.specs.Plays.{Played, Outcome, accepted_with}
use Rattle.sound_block.specs.Blocks.{block}
use Rattle.sound_block.proofs.Blocks.{block_lowest}
use Rattle.static_sound.specs.Entries.{refused_block, refused_with, holds, processed, room, mixed, processed_into}
use Rattle.static_sound.proofs.Refusals.{accepted_parts}
use Rattle.static_sound.proofs.Entries.{block_well_formed_for, processed_passed, processed_done, into_passed, into_done}

-- how many pushes until the window is silent
abbrev pub count_of : StaticSound → ℕ
count_of v = v.moving.resampler.time_until_empty

pub well_formed_for_few : (len : ℕ) (v : StaticSound) → T (well_formed_for len v) → count_of v ≤ 4
well_formed_for_few len v h = (well_formed_for_parts len v h).0.window.few

-- the part that is played lies in the sound, which is not long
pub part_few : (len : ℕ) (v : StaticSound) → T (well_formed_for len v) → 2 * (start_of_slice v.setup + length_of_slice v.setup) ≤ 33554432
part_few len v h =
    let f = (well_formed_for_parts len v h).0 in
    let i = span_inside v.setup f.setup in
    let k = (setup_parts v.setup f.setup).few in
    omega arith

-- ---- what each accepted call returns

pub created_well_formed_for : (snd : List Float) (s : Settings) → refused_new (length snd) s ≡ 0 → T (well_formed_for (length snd) (made snd s))
created_well_formed_for snd s k = made_well_formed_for snd s (creatable_parts (length snd) s k)

pub commanded_well_formed_for : (snd : List Float) (v : StaticSound) (c : Commands) → (commanded snd v c).refusal ≡ 0 → T (well_formed_for (length snd) (commanded snd v c).voice)
commanded_well_formed_for snd v c e =
    let k = commanded_passed snd v c e in
    rw (commanded_done snd v c k) (obeyed_well_formed_for snd c v (obeyable_parts (length snd) v c k))

module _ (snd : List Float) (v : StaticSound) (dt : Float) (b : Lanes) (g : Signals) where
  abbrev p : Played
  p = block snd dt (rows b) g v

  abbrev pub WellFormedForAfter : Outcome → Type 0
  WellFormedForAfter o = o.answer.refusal ≡ 0 → T (well_formed_for (length snd) o.answer.voice)

  pub processed_well_formed_for : (out : List Float) → WellFormedForAfter (processed snd v dt b g out)
  processed_well_formed_for out e =
      let k = processed_passed snd v dt b g out e in
      rw (processed_done snd v dt b g out k) (block_well_formed_for snd v dt b g (holds b out) (accepted_parts (length snd) v dt b (holds b out) k))

  pub into_well_formed_for : (mix : List Float) (from : ℕ) → WellFormedForAfter (processed_into snd v dt b g mix from)
  into_well_formed_for mix from e =
      let k = into_passed snd v dt b g mix from e in
      let r = room from (length b.rate) mix in
      rw (into_done snd v dt b g mix from k) (block_well_formed_for snd v dt b g r (accepted_parts (length snd) v dt b r k))

  -- ---- the lowest count that a block reports, refused or not

  pub processed_low : (out : List Float) → (processed snd v dt b g out).answer.lowest_count ≤ 4
  unfolding processed
  processed_low out = go (eqb k 0)
    where
      k : ℕ
      k = refused_block (length snd) v dt b (holds b out)

      go : (t : Bool) → (cond t (accepted_with p p.samples) (refused_with k v out)).answer.lowest_count ≤ 4
      go true = block_lowest snd dt (rows b) g v
      go false = le_refl 4

  pub into_low : (mix : List Float) (from : ℕ) → (processed_into snd v dt b g mix from).answer.lowest_count ≤ 4
  unfolding processed_into
  into_low mix from = go (eqb k 0)
    where
      k : ℕ
      k = refused_block (length snd) v dt b (room from (length b.rate) mix)

      go : (t : Bool) → (cond t (accepted_with p (mixed from (length b.rate) mix p.samples)) (refused_with k v mix)).answer.lowest_count ≤ 4
      go true = block_lowest snd dt (rows b) g v
      go false = le_refl 4

-- ---- and so the count of the returned state

pub created_few : (snd : List Float) (s : Settings) → count_of (created snd s).voice ≤ 4
unfolding created
created_few snd s = go (eqb (refused_new (length snd) s) 0) (λ h. created_well_formed_for snd s (eqb→eq (refused_new (length snd) s) 0 h))
  where
    go : (b : Bool) → (T b → T (well_formed_for (length snd) (made snd s))) → count_of (cond b (made snd s) blank_sound) ≤ 4
    go true h = well_formed_for_few (length snd) (made snd s) (h tt)
    go false h = omega arith
