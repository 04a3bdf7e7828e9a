-- A step of version 2 reads no more bytes than the longest record has. Assumes nothing.
use mathlib.Core.Path.{◌≡◌, refl, ap, ap₂, ◌∙◌}
use Prim.Native.Nat.{ℕ, zero, suc, ◌+◌, ◌-◌, ◌*◌, ◌≤◌}
use native.Mathlib.Omega.{arith}
use mathlib.Core.Bool.{cond}
use mathlib.Core.List.{List, [], ◌∷◌, ◌++◌}
use lib.Dec.{eqb}
use lib.ListN.{length, take, drop}
use lib.Seq.{sets, take-take}
use lib.Ieee.{Float}
use Rattle.byte_layout.specs.Numbers.{num}
use Rattle.sound_lanes.specs.Lanes.{Lanes}
use Rattle.static_sound.specs.Entries.{processed}
use Rattle.trace_inputs.specs.Inputs.{single, double, samples_of, lane_of, laned_block_of}
use Rattle.trace_sealed.specs.Records.{any_at}
use Rattle.trace_sealed.proofs.Windows.{window}
use Rattle.c_state.specs.Records.{decoded}
use Rattle.cableowl.specs.declared.replays.CableowlReplay.{CableowlReplay}
use Rattle.cableowl.specs.declared.replays.CableowlReplayed.{CableowlReplayed}
use Rattle.cableowl.specs.Replays.{StepC, unplayed, creation_c, commands_c, block_c, block_step, judged}
use Rattle.cableowl.specs.ReplaysV2.{playing, buffer_of, given_c, lanes_in, of_kind, laned_step, obeyed, played_record_v2, lacking, judged_v2, begun_v2, refused_step_v2, stepped_v2}
use Rattle.cableowl.proofs.ReplayStepsV2.{few_laned}
use Rattle.theorems_replay.specs.ArchiveV2.{StreamsV2}
use Rattle.trace_records.specs.Records.{Record}

none : {A : Type 0} → ⊥ → A
none e = elim e [ ]

-- ---- lanes

taken_none : (n : ℕ) → ◌≡◌ {A = List ℕ} [] (take n [])
taken_none zero = refl
taken_none (suc n) = refl

pub drop_taken : (k m : ℕ) (l : List ℕ) → drop k (take m l) ≡ take (m - k) (drop k l)
drop_taken zero m l = let e : m ≡ m - 0 = omega arith in ap (λ (n : ℕ). take n l) e
drop_taken (suc k) zero l = let e : 0 ≡ 0 - suc k = omega arith in ap (λ (n : ℕ). take n (drop (suc k) l)) e
drop_taken (suc k) (suc m) [] = taken_none (suc m - suc k)
drop_taken (suc k) (suc m) (x ∷ xs) = let e : m - k ≡ suc m - suc k = omega arith in drop_taken k m xs ∙ ap (λ (n : ℕ). take n (drop k xs)) e

pub lane_window : (w : ℕ) (value : ℕ → Float) (n m : ℕ) (l : List ℕ) → w ≤ 24 → 24 * n + w ≤ m + 24 → lane_of w value n (take m l) ≡ lane_of w value n l
unfolding lane_of
lane_window w value zero m l h k = refl
lane_window w value (suc n) m l h k =
    ap₂ (λ (x y : List ℕ). value (num x) ∷ lane_of w value n y) (take-take w m l (omega arith)) (drop_taken 24 m l)
    ∙ ap (λ (y : List Float). value (num (take w l)) ∷ y) (lane_window w value n (m - 24) (drop 24 l) h (omega arith))

module _ (w n : ℕ) (bs : List ℕ) (h : 24598 ≤ w) (k : n ≤ 1024) where
  lane_at_lem : (width at : ℕ) (value : ℕ → Float) → width ≤ 24 → width + at ≤ 42 → lane_of width value n (drop at (take w bs)) ≡ lane_of width value n (drop at bs)
  lane_at_lem width at value i j =
      ap (lane_of width value n) (drop_taken at w bs) ∙ lane_window width value n (w - at) (drop at bs) i (omega arith)

  lanes_window : lanes_in n (take w bs) ≡ lanes_in n bs
  lanes_window =
      rw (
        lane_at_lem 4 18 (λ x. single x) (omega arith) (omega arith),
        lane_at_lem 4 22 (λ x. single x) (omega arith) (omega arith),
        lane_at_lem 4 26 (λ x. single x) (omega arith) (omega arith),
        lane_at_lem 4 30 (λ x. single x) (omega arith) (omega arith),
        lane_at_lem 8 34 (λ x. double x) (omega arith) (omega arith),
      ) refl

-- ---- a step

module _ (w : ℕ) (h : 24598 ≤ w) (r : CableowlReplay) (snd given : List Float) (sounds : ℕ) (out : List Float) where
  abbrev only : CableowlReplayed → List Float → StepC
  only a x = record { answer = a; sound = x; samples = out }

  laned_window : (n : ℕ) (vs bs : List ℕ) (x : List Float) → laned_step r n vs (take w bs) x out ≡ laned_step r n vs bs x out
  unfolding laned_step
  laned_window n vs bs x =
      let b = laned_block_of vs in
      ap
      (λ (ls : Lanes).
      let o = processed (take r.samples x) (decoded r.voice) b.time_step ls b.signals (take (2 * b.frames) out) in
      record { answer = of_kind 5 (block_c r n b.frames o.answer); sound = x; samples = o.samples ++ drop (2 * b.frames) out })
      (lanes_window w b.frames bs h (few_laned vs b refl))

  obeyed_window : (d : Record) (bs : List ℕ) (x : List Float) → obeyed r d (take w bs) x out ≡ obeyed r d bs x out
  unfolding obeyed
  obeyed_window d bs x =
      ap
      (λ (s : StepC).
      cond (eqb d.kind 2) (only (commands_c (take r.samples x) r d.next d.values) x)
      (cond (eqb d.kind 5) s (block_step r d.next d.values x out)))
      (laned_window d.next d.values bs x)

  turned_window : (d : Record) (bs : List ℕ) → played_record_v2 r d (take w bs) snd given sounds out ≡ played_record_v2 r d bs snd given sounds out
  unfolding played_record_v2
  turned_window d bs =
      ap
      (λ (o : StepC).
      cond (eqb d.kind 1)
      (record { answer = creation_c (playing 0 r) d.next d.values; sound = sets snd 0 (samples_of d.values); samples = out })
      (cond (eqb d.kind 4) (only (given_c given sounds r d.next d.values) snd)
      (record { answer = o.answer; sound = snd; samples = o.samples })))
      (obeyed_window d bs (buffer_of r snd given))

  judged_window : (ended : ℕ) (d : Record) (bs : List ℕ) → judged_v2 r ended d (take w bs) snd given sounds out ≡ judged_v2 r ended d bs snd given sounds out
  unfolding judged_v2
  judged_window ended d bs =
      ap
      (λ (t : StepC).
      cond (eqb d.refusal 0)
      (cond (eqb (lacking r d sounds (length given)) 0) t (only (unplayed r 4 (lacking r d sounds (length given))) snd))
      (judged r ended d snd out))
      (turned_window d bs)

pub archive_streams_v2 : StreamsV2
unfolding stepped_v2 begun_v2
archive_streams_v2 r bs ended zero snd given sounds out h = none (omega arith)
archive_streams_v2 r [] ended (suc w) snd given sounds out h = refl
archive_streams_v2 r (b ∷ bs) ended (suc w) snd given sounds out h =
    ap
    (λ (o : StepC).
    cond (eqb (refused_step_v2 r (length snd) (length out)) 0) o
    (record { answer = unplayed r 4 (refused_step_v2 r (length snd) (length out)); sound = snd; samples = out }))
    (ap (λ (d : Record). judged_v2 r ended d (take (suc w) (b ∷ bs)) snd given sounds out) (window (b ∷ bs) 0 (suc w) (omega arith))
    ∙ judged_window (suc w) h r snd given sounds out ended (any_at (b ∷ bs) 0) (b ∷ bs))
