-- A laned block cut in two: Cut (crates/theorems) over the lanes in the records' bytes. Assumes nothing.
use mathlib.Core.Path.{◌≡◌, refl, sym, ap, ap₂, ◌∙◌}
use Prim.Native.Nat.{ℕ, zero, suc, ◌+◌, ◌-◌, ◌*◌, ◌≤◌}
use native.Mathlib.Omega.{arith}
use mathlib.Core.List.{List, ◌∷◌}
use lib.ListN.{take, drop}
use lib.Seq.{drop-drop}
use lib.Ieee.{Float}
use Rattle.byte_layout.specs.Numbers.{num}
use Rattle.sound_lanes.specs.Lanes.{Lanes, first_lanes, rest_lanes}
use Rattle.sound_state.specs.declared.StaticSound.{StaticSound}
use Rattle.sound_block.specs.declared.Signals.{Signals}
use Rattle.sound_block.specs.Blocks.{quiet}
use Rattle.sound_slow_path.specs.Plays.{Outcome}
use Rattle.static_sound.specs.Entries.{processed}
use Rattle.trace_inputs.specs.Inputs.{single, double, lane_of}
use Rattle.trace_inputs.proofs.LaneLoops.{length_lane}
use Rattle.cableowl.specs.ReplaysV2.{lanes_in}
use Rattle.theorems.specs.Cut.{CutInTwo}
use Rattle.theorems.proofs.Cut.{cut_blocks}
use Rattle.theorems_replay.specs.ArchiveV2.{CutLanes}
use Rattle.theorems_replay.proofs.StreamsV2.{drop_taken, lane_window}

none : {A : Type 0} → ⊥ → A
none e = elim e [ ]

-- ---- one lane

module _ (w : ℕ) (value : ℕ → Float) where
  lane_first : (k n : ℕ) (l : List ℕ) → k ≤ n → take k (lane_of w value n l) ≡ lane_of w value k l
  unfolding lane_of
  lane_first zero n l h = refl
  lane_first (suc k) zero l h = none (omega arith)
  lane_first (suc k) (suc n) l h = ap (λ (xs : List Float). value (num (take w l)) ∷ xs) (lane_first k n (drop 24 l) (omega arith))

  lane_rest : (k n : ℕ) (l : List ℕ) → k ≤ n → drop k (lane_of w value n l) ≡ lane_of w value (n - k) (drop (24 * k) l)
  unfolding lane_of
  lane_rest zero n l h = let e : n ≡ n - 0 = omega arith in ap (λ (i : ℕ). lane_of w value i l) e
  lane_rest (suc k) zero l h = none (omega arith)
  lane_rest (suc k) (suc n) l h =
      let e : n - k ≡ suc n - suc k = omega arith in
      let f : 24 + 24 * k ≡ 24 * suc k = omega arith in
      lane_rest k n (drop 24 l) (omega arith)
      ∙ ap₂ (λ (i : ℕ) (x : List ℕ). lane_of w value i x) e (drop-drop (24 * k) 24 l ∙ ap (λ (i : ℕ). drop i l) f)

  -- the values of frames whose bytes are the same
  shown : (n a : ℕ) (l : List ℕ) → w + a ≤ 24 → lane_of w value n (drop a (take (24 * n) l)) ≡ lane_of w value n (drop a l)
  shown n a l h =
      ap (lane_of w value n) (drop_taken a (24 * n) l) ∙ lane_window w value n (24 * n - a) (drop a l) (omega arith) (omega arith)

  same : (n a : ℕ) (l r : List ℕ) → w + a ≤ 24 → take (24 * n) l ≡ take (24 * n) r → lane_of w value n (drop a l) ≡ lane_of w value n (drop a r)
  same n a l r h e = sym (shown n a l h) ∙ ap (λ (x : List ℕ). lane_of w value n (drop a x)) e ∙ shown n a r h

  first_part : (k m a : ℕ) (xs ys : List ℕ) → w + a ≤ 24 → take (24 * k) (drop 18 ys) ≡ take (24 * k) (drop 18 xs)
      → lane_of w value k (drop (18 + a) ys) ≡ take k (lane_of w value (k + m) (drop (18 + a) xs))
  first_part k m a xs ys h e =
      ap (lane_of w value k) (sym (drop-drop a 18 ys))
      ∙ same k a (drop 18 ys) (drop 18 xs) h e
      ∙ ap (lane_of w value k) (drop-drop a 18 xs)
      ∙ sym (lane_first k (k + m) (drop (18 + a) xs) (omega arith))

  rest_part : (k m a : ℕ) (xs zs : List ℕ) → w + a ≤ 24 → take (24 * m) (drop 18 zs) ≡ take (24 * m) (drop (18 + 24 * k) xs)
      → lane_of w value m (drop (18 + a) zs) ≡ drop k (lane_of w value (k + m) (drop (18 + a) xs))
  rest_part k m a xs zs h e =
      let i : 18 + 24 * k + a ≡ 18 + a + 24 * k = omega arith in
      let j : m ≡ k + m - k = omega arith in
      ap (lane_of w value m) (sym (drop-drop a 18 zs))
      ∙ same m a (drop 18 zs) (drop (18 + 24 * k) xs) h e
      ∙ ap₂ (λ (n : ℕ) (x : List ℕ). lane_of w value n x) j (drop-drop a (18 + 24 * k) xs ∙ ap (λ (n : ℕ). drop n xs) i ∙ sym (drop-drop (24 * k) (18 + a) xs))
      ∙ sym (lane_rest k (k + m) (drop (18 + a) xs) (omega arith))

-- ---- all lanes

lanes_as : (a b c d e f g h i j : List Float) → a ≡ f → b ≡ g → c ≡ h → d ≡ i → e ≡ j
    → ◌≡◌ {A = Lanes} (record { fade = a; volume = b; left = c; right = d; rate = e }) (record { fade = f; volume = g; left = h; right = i; rate = j })
lanes_as a b c d e f g h i j p q r s t = rw (p, q, r, s, t) refl

module _ (k m : ℕ) (xs : List ℕ) where
  first_lanes_lem : (ys : List ℕ) → take (24 * k) (drop 18 ys) ≡ take (24 * k) (drop 18 xs) → lanes_in k ys ≡ first_lanes k (lanes_in (k + m) xs)
  first_lanes_lem ys e =
      lanes_as _ _ _ _ _ _ _ _ _ _
      (first_part 4 (λ x. single x) k m 0 xs ys (omega arith) e)
      (first_part 4 (λ x. single x) k m 4 xs ys (omega arith) e)
      (first_part 4 (λ x. single x) k m 8 xs ys (omega arith) e)
      (first_part 4 (λ x. single x) k m 12 xs ys (omega arith) e)
      (first_part 8 (λ x. double x) k m 16 xs ys (omega arith) e)

  rest_lanes_lem : (zs : List ℕ) → take (24 * m) (drop 18 zs) ≡ take (24 * m) (drop (18 + 24 * k) xs) → lanes_in m zs ≡ rest_lanes k (lanes_in (k + m) xs)
  rest_lanes_lem zs e =
      lanes_as _ _ _ _ _ _ _ _ _ _
      (rest_part 4 (λ x. single x) k m 0 xs zs (omega arith) e)
      (rest_part 4 (λ x. single x) k m 4 xs zs (omega arith) e)
      (rest_part 4 (λ x. single x) k m 8 xs zs (omega arith) e)
      (rest_part 4 (λ x. single x) k m 12 xs zs (omega arith) e)
      (rest_part 8 (λ x. double x) k m 16 xs zs (omega arith) e)

cut_as : (snd : List Float) (v : StaticSound) (dt : Float) (g : Signals) (whole : Outcome) (b1 b2 c1 c2 : Lanes) (o1 o2 : List Float) → c1 ≡ b1 → c2 ≡ b2
    → CutInTwo whole (processed snd v dt b1 g o1) (processed snd (processed snd v dt b1 g o1).answer.voice dt b2 (quiet g) o2)
    → CutInTwo whole (processed snd v dt c1 g o1) (processed snd (processed snd v dt c1 g o1).answer.voice dt c2 (quiet g) o2)
cut_as snd v dt g whole b1 b2 c1 c2 o1 o2 e f h = rw (e, f) h

pub archive_cut_lanes : CutLanes
archive_cut_lanes snd v b xs ys zs out k m h =
    let ls = lanes_in (k + m) xs in
    cut_as snd v b.time_step b.signals _ (first_lanes k ls) (rest_lanes k ls) (lanes_in k ys) (lanes_in m zs) (take (2 * k) out) (drop (2 * k) out)
    (first_lanes_lem k m xs ys h.first) (rest_lanes_lem k m xs zs h.rest)
    (cut_blocks snd v b.time_step ls b.signals out k
    (record { accepted = h.accepted; inside = omega (arith, length_lane 8 (λ x. double x) (k + m) (drop 34 xs)) }))
