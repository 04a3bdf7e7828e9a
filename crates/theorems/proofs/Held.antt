-- Blocks with held lanes: the theorems over blocks, with lanes that repeat the numbers; a part of such lanes is such lanes. Assumes nothing.
use mathlib.Core.Path.{◌≡◌, sym, ap, ◌∙◌, subst}
use Prim.Native.Nat.{ℕ, ◌+◌, ◌-◌, ◌*◌, ◌/◌, ◌≤◌}
use native.Mathlib.Omega.{arith}
use mathlib.Core.List.{List, ◌++◌}
use lib.ListN.{length, take, drop, replicate, length-replicate, replicate-append-replicate, length-drop}
use lib.Seq.{take_at, drop_at, length-take-le}
use lib.Ieee.{Float}
use Rattle.sound_lanes.specs.Lanes.{Lanes, first_lanes, rest_lanes}
use Rattle.sound_held.specs.declared.Held.{Held}
use Rattle.sound_held.specs.Held.{held_lanes}
use Rattle.sound_state.specs.declared.StaticSound.{StaticSound}
use Rattle.sound_block.specs.declared.Signals.{Signals}
use Rattle.sound_block.specs.Blocks.{quiet}
use Rattle.sound_slow_path.specs.Plays.{Outcome}
use Rattle.static_sound.specs.Entries.{processed, processed_into, processed_held, processed_held_into}
use Rattle.theorems.specs.Cut.{CutInTwo}
use Rattle.theorems.specs.Mix.{CutInMix}
use Rattle.theorems.specs.Held.{HeldCut, HeldMixCut, HeldBlocks}
use Rattle.theorems.proofs.Cut.{cut_blocks}
use Rattle.theorems.proofs.Mix.{cut_mixes}
use Rattle.theorems.proofs.Kept.{blocks_keep, mixes_keep}
use Rattle.theorems.proofs.Steps.{steps_made}
use Rattle.theorems.proofs.Plain.{mix_steps_made}
use Rattle.theorems.proofs.Budget.{block_budget, mix_budget}

-- ---- a part of lanes that repeat a number

split : {A : Type 0} (n k : ℕ) (z : A) → k ≤ n → replicate n z ≡ replicate k z ++ replicate (n - k) z
split n k z h = let e : n ≡ k + (n - k) = omega arith in ap (λ (m : ℕ). replicate m z) e ∙ sym (replicate-append-replicate k (n - k) z)

first_of : {A : Type 0} (n k : ℕ) (z : A) → k ≤ n → take k (replicate n z) ≡ replicate k z
first_of n k z h = ap (take k) (split n k z h) ∙ take_at (replicate k z) (replicate (n - k) z) k (length-replicate k z)

rest_of : {A : Type 0} (n k : ℕ) (z : A) → k ≤ n → drop k (replicate n z) ≡ replicate (n - k) z
rest_of n k z h = ap (drop k) (split n k z h) ∙ drop_at (replicate k z) (replicate (n - k) z) k (length-replicate k z)

first_once : (x : Held) (n k : ℕ) → k ≤ n → first_lanes k (held_lanes x n) ≡ held_lanes x k
first_once x n k h = rw (first_of n k x.gains.fade h, first_of n k x.gains.volume h, first_of n k x.gains.left h, first_of n k x.gains.right h, first_of n k x.rate h)

rest_once : (x : Held) (n k : ℕ) → k ≤ n → rest_lanes k (held_lanes x n) ≡ held_lanes x (n - k)
rest_once x n k h = rw (rest_of n k x.gains.fade h, rest_of n k x.gains.volume h, rest_of n k x.gains.left h, rest_of n k x.gains.right h, rest_of n k x.rate h)

-- ---- cut in two

module _ (snd : List Float) (dt : Float) (x : Held) (v : StaticSound) (g : Signals) where
  parts_are : (a b c d : Lanes) (first rest : List Float) (uncut : Outcome) → a ≡ c → b ≡ d
      → (let f = processed snd v dt a g first in CutInTwo uncut f (processed snd f.answer.voice dt b (quiet g) rest))
      → (let f = processed snd v dt c g first in CutInTwo uncut f (processed snd f.answer.voice dt d (quiet g) rest))
  parts_are a b c d first rest uncut e f h =
      subst (λ (l : Lanes). let f = processed snd v dt c g first in CutInTwo uncut f (processed snd f.answer.voice dt l (quiet g) rest)) f
      (subst (λ (l : Lanes). let f = processed snd v dt l g first in CutInTwo uncut f (processed snd f.answer.voice dt b (quiet g) rest)) e h)

  mixes_are : (a b c d : Lanes) (mix : List Float) (from k : ℕ) (uncut : Outcome) → a ≡ c → b ≡ d
      → (let f = processed_into snd v dt a g mix from in CutInMix uncut f (processed_into snd f.answer.voice dt b (quiet g) f.samples (from + k)))
      → (let f = processed_into snd v dt c g mix from in CutInMix uncut f (processed_into snd f.answer.voice dt d (quiet g) f.samples (from + k)))
  mixes_are a b c d mix from k uncut e f h =
      subst (λ (l : Lanes). let f = processed_into snd v dt c g mix from in CutInMix uncut f (processed_into snd f.answer.voice dt l (quiet g) f.samples (from + k))) f
      (subst (λ (l : Lanes). let f = processed_into snd v dt l g mix from in CutInMix uncut f (processed_into snd f.answer.voice dt b (quiet g) f.samples (from + k))) e h)

-- the frames of the two outputs
first_half : (out : List Float) (k : ℕ) → k ≤ length out / 2 → length (take (2 * k) out) / 2 ≡ k
first_half out k h = half (length (take (2 * k) out)) k (length-take-le (2 * k) out (omega arith))
  where
    half : (m k : ℕ) → m ≡ 2 * k → m / 2 ≡ k
    half m k e = omega arith

rest_half : (out : List Float) (k : ℕ) → k ≤ length out / 2 → length (drop (2 * k) out) / 2 ≡ length out / 2 - k
rest_half out k h = half (length out) (length (drop (2 * k) out)) k (length-drop (2 * k) out)
  where
    half : (m d k : ℕ) → d ≡ m - 2 * k → d / 2 ≡ m / 2 - k
    half m d k e = omega arith

held_cut : HeldCut
held_cut snd v dt x g out k m =
    let n = length out / 2 in
    let h : k ≤ n = subst (λ (j : ℕ). k ≤ j) (length-replicate n x.rate) m.inside in
    let a : first_lanes k (held_lanes x n) ≡ held_lanes x (length (take (2 * k) out) / 2) = first_once x n k h ∙ ap (held_lanes x) (sym (first_half out k h)) in
    let b : rest_lanes k (held_lanes x n) ≡ held_lanes x (length (drop (2 * k) out) / 2) = rest_once x n k h ∙ ap (held_lanes x) (sym (rest_half out k h)) in
    parts_are snd dt x v g _ _ _ _ (take (2 * k) out) (drop (2 * k) out) (processed_held snd v dt x g out) a b
    (cut_blocks snd v dt (held_lanes x n) g out k m)

held_mix_cut : HeldMixCut
held_mix_cut snd v dt x g mix from n k m =
    let h : k ≤ n = subst (λ (j : ℕ). k ≤ j) (length-replicate n x.rate) m.inside in
    mixes_are snd dt x v g _ _ _ _ mix from k (processed_held_into snd v dt x g mix from n) (first_once x n k h) (rest_once x n k h)
    (cut_mixes snd v dt (held_lanes x n) g mix from k m)

pub held_blocks : HeldBlocks
held_blocks =
    record {
      cut = held_cut;
      mix_cut = held_mix_cut;
      keeps = λ snd v dt x g out. blocks_keep snd v dt (held_lanes x (length out / 2)) g out;
      mix_keeps = λ snd v dt x g mix from n. mixes_keep snd v dt (held_lanes x n) g mix from;
      steps = λ snd v dt x g out. steps_made snd v dt (held_lanes x (length out / 2)) g out;
      mix_steps = λ snd v dt x g mix from n. mix_steps_made snd v dt (held_lanes x n) g mix from;
      budget = λ k snd v dt x g out. block_budget k snd v dt (held_lanes x (length out / 2)) g out;
      mix_budget = λ k snd v dt x g mix from n. mix_budget k snd v dt (held_lanes x n) g mix from;
    }
