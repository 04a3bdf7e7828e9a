-- A block into an output of its own is a block into a mix, from frame 0 on. Assumes nothing.
use mathlib.Core.Path.{◌≡◌, refl, sym, ap, ◌∙◌}
use mathlib.Core.Bool.{Bool, true, false, true≢false, ◌&&◌, cond}
use mathlib.Core.List.{List, [], ◌++◌, append-nil}
use Prim.Native.Nat.{ℕ, ◌+◌, ◌*◌, ◌/◌, ◌%◌, ◌<◌}
use native.Mathlib.Omega.{arith}
use lib.Dec.{leb, eqb}
use lib.ListN.{length, drop, replicate, length-replicate}
use lib.Seq.{drop-length}
use lib.Ieee.{Float}
use borrow.Author.Tests.{eqb-true, eqb-false, eq-eqb, ne_eqb, le-leb, lt-leb}
use Rattle.sound_lanes.specs.Lanes.{Lanes, rows}
use Rattle.sound_held.specs.declared.Held.{Held}
use Rattle.sound_held.specs.Held.{held_lanes}
use Rattle.sound_state.specs.declared.StaticSound.{StaticSound}
use Rattle.sound_block.specs.declared.Signals.{Signals}
use Rattle.sound_block.specs.Blocks.{block}
use Rattle.sound_slow_path.specs.Plays.{Outcome, accepted_with}
use Rattle.static_sound.specs.Entries.{refused_block, refused_with, holds, room, mixed, processed, processed_into}
use Rattle.static_sound.proofs.Refusals.{accepted_parts}

-- the block's samples are the whole output
all_mixed : (n : ℕ) (out samples : List Float) → length out ≡ 2 * n → mixed 0 n out samples ≡ samples
all_mixed n out samples e =
    let d : drop (2 * (0 + n)) out ≡ [] = ap (λ (k : ℕ). drop k out) (half n (length out) e) ∙ drop-length out in
    ap (λ (l : List Float). samples ++ l) d ∙ append-nil samples
  where
    half : (n m : ℕ) → m ≡ 2 * n → 2 * (0 + n) ≡ m
    half n m e = omega arith

module _ (snd : List Float) (v : StaticSound) (dt : Float) (b : Lanes) (g : Signals) (out : List Float) where
  -- the outcome by its number and its samples
  abbrev outcome : ℕ → List Float → Outcome
  outcome k samples = cond (eqb k 0) (accepted_with (block snd dt (rows b) g v) samples) (refused_with k v out)

  abbrev number : Bool → ℕ
  number placed = refused_block (length snd) v dt b placed

  -- without room no block is accepted, so its samples do not count
  not_placed : (s t : List Float) → outcome (number false) s ≡ outcome (number false) t
  not_placed s t = go (eqb (number false) 0) refl
    where
      go : (z : Bool) → eqb (number false) 0 ≡ z → cond z (accepted_with (block snd dt (rows b) g v) s) (refused_with (number false) v out) ≡ cond z (accepted_with (block snd dt (rows b) g v) t) (refused_with (number false) v out)
      go true e = absurd (accepted_parts (length snd) v dt b false (eqb-true (number false) 0 e)).placed
      go false e = refl

  -- by whether the output holds the block
  chosen : (from : ℕ) (h : Bool) → holds b out ≡ h → (h ≡ true → from ≡ 0)
      → outcome (number h) (mixed from (length b.rate) out (block snd dt (rows b) g v).samples) ≡ outcome (number h) (block snd dt (rows b) g v).samples
  chosen from true e z =
      ap (outcome (number true))
      (ap (λ (k : ℕ). mixed k (length b.rate) out (block snd dt (rows b) g v).samples) (z refl)
      ∙ all_mixed (length b.rate) out (block snd dt (rows b) g v).samples (eqb-true (length out) (2 * length b.rate) e))
  chosen from false e z = not_placed _ _

  -- into a mix from a frame that has room exactly where the output holds the block, and then is the first
  pub whole : (from : ℕ) → room from (length b.rate) out ≡ holds b out → (holds b out ≡ true → from ≡ 0) → processed_into snd v dt b g out from ≡ processed snd v dt b g out
  unfolding processed processed_into
  whole from e z =
      ap (λ (t : Bool). outcome (number t) (mixed from (length b.rate) out (block snd dt (rows b) g v).samples)) e
      ∙ chosen from (holds b out) refl z

-- ---- numbers given once: as many frames as fit

room_fits : (m n : ℕ) → n ≡ m / 2 → (eqb (m % 2) 0 && leb (0 + n) (m / 2)) ≡ eqb m (2 * n)
room_fits m n e = go (eqb (m % 2) 0) refl
  where
    go : (t : Bool) → eqb (m % 2) 0 ≡ t → (t && leb (0 + n) (m / 2)) ≡ eqb m (2 * n)
    go true h = let k = eqb-true (m % 2) 0 h in le-leb (0 + n) (m / 2) (omega arith) ∙ sym (eq-eqb m (2 * n) (omega arith))
    go false h = let k = eqb-false (m % 2) 0 h in sym (ne_eqb m (2 * n) (λ l. k (omega arith)))

pub held_whole : (snd : List Float) (v : StaticSound) (dt : Float) (x : Held) (g : Signals) (out : List Float) (o : Outcome)
    → o ≡ processed_into snd v dt (held_lanes x (length out / 2)) g out 0 → o ≡ processed snd v dt (held_lanes x (length out / 2)) g out
held_whole snd v dt x g out o e =
    e ∙ whole snd v dt (held_lanes x (length out / 2)) g out 0 (room_fits (length out) (length (replicate (length out / 2) x.rate)) (length-replicate (length out / 2) x.rate)) (λ h. refl)

-- ---- lanes

-- no frame from the end on has room, where the output does not hold the block
room_never : (m n : ℕ) → eqb m (2 * n) ≡ false → (eqb (m % 2) 0 && leb (m + n) (m / 2)) ≡ false
room_never m n e = go (eqb (m % 2) 0) refl
  where
    go : (t : Bool) → eqb (m % 2) 0 ≡ t → (t && leb (m + n) (m / 2)) ≡ false
    go true h = let k = eqb-true (m % 2) 0 h in let l = eqb-false m (2 * n) e in lt-leb (m + n) (m / 2) (beyond m n k l)
      where
        beyond : (m n : ℕ) → m % 2 ≡ 0 → (m ≡ 2 * n → ⊥) → m / 2 < m + n
        beyond m n k l = omega arith
    go false h = refl

room_whole : (m n : ℕ) → eqb m (2 * n) ≡ true → (eqb (m % 2) 0 && leb (0 + n) (m / 2)) ≡ true
room_whole m n e = let k = eqb-true m (2 * n) e in room_fits m n (half m n k) ∙ e
  where
    half : (m n : ℕ) → m ≡ 2 * n → n ≡ m / 2
    half m n k = omega arith

module _ (snd : List Float) (v : StaticSound) (dt : Float) (b : Lanes) (g : Signals) (out : List Float) where
  pub lanes_whole : (o : Outcome) → holds b out ≡ true → o ≡ processed_into snd v dt b g out 0 → o ≡ processed snd v dt b g out
  lanes_whole o h e = e ∙ whole snd v dt b g out 0 (room_whole (length out) (length b.rate) h ∙ sym h) (λ k. refl)

  pub lanes_never : (o : Outcome) → holds b out ≡ false → o ≡ processed_into snd v dt b g out (length out) → o ≡ processed snd v dt b g out
  lanes_never o h e = e ∙ whole snd v dt b g out (length out) (room_never (length out) (length b.rate) h ∙ sym h) (λ k. absurd (true≢false (sym k ∙ h)))
