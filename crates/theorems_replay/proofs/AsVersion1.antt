-- On kinds 1 to 3 a step of version 2 is the step of version 1, and so a whole trace of these kinds. Assumes nothing.
use mathlib.Core.Path.{◌≡◌, refl, sym, ap, ◌∙◌}
use Prim.Native.Nat.{ℕ, zero, suc, ◌-◌, ◌≤◌}
use native.Mathlib.Omega.{arith}
use mathlib.Core.Bool.{Bool, true, false, cond, not, ◌&&◌, ◌||◌, false≢true}
use mathlib.Core.List.{List, [], ◌∷◌, ◌++◌}
use lib.Dec.{eqb, leb}
use lib.ListN.{length, take}
use lib.Seq.{sets}
use lib.Ieee.{Float}
use borrow.Author.Tests.{ne_eqb, eqb-true, leb-true}
use Rattle.byte_layout.proofs.Numbers.{Small}
use Rattle.sound_state.specs.Refusals.{unless}
use Rattle.trace_inputs.specs.Inputs.{samples_of}
use Rattle.trace_records.specs.Records.{Record, Found, refused, found, read_record, valued, record_at}
use Rattle.trace_records.specs.Writes.{known}
use Rattle.trace_records.proofs.Rounds.{written_record}
use Rattle.trace_records.proofs.Windows.{refusal_numbered}
use Rattle.trace_sealed.specs.Records.{is_sealed, sealed_at, any_at}
use Rattle.cableowl.specs.declared.replays.CableowlReplay.{CableowlReplay}
use Rattle.cableowl.specs.declared.replays.CableowlReplayed.{CableowlReplayed}
use Rattle.cableowl.specs.Replays.{StepC, blank_replay, unplayed, creation_c, commands_c, block_c, block_step, played_record, judged, begun, refused_step, stepped_c}
use Rattle.cableowl.specs.ReplaysV2.{playing, obeyed, played_record_v2, lacking, judged_v2, begun_v2, refused_step_v2, stepped_v2}
use Rattle.theorems_replay.specs.Archive.{block_line_c, line_c, printed_c}
use Rattle.theorems_replay.specs.ArchiveV2.{of_reader, answer_of_reader, step_of_reader, Unsealed, AsVersion1, Offer, line_v2, printed_v2, is_version1, ArchiveReplaysV2}
use Rattle.theorems_replay.proofs.Archive.{turned_size, archive_replays}

none : {A : Type 0} → ⊥ → A
none e = elim e [ ]

-- ---- reader 1 reads kinds 1 to 3

few_kinds : (bs : List ℕ) → Small bs → (record_at bs 0).refusal ≡ 0 → (record_at bs 0).kind ≤ 3
unfolding record_at valued
few_kinds bs s e = go (read_record bs) refl e
  where
    least : (k : ℕ) → known k ≡ true → k ≤ 3
    least k h = by (leb 1 k) (leb k 3) refl h
      where
        by : (x y : Bool) → leb k 3 ≡ y → (x && y) ≡ true → k ≤ 3
        by true true p q = leb-true k 3 p
        by true false p q = none (false≢true q)
        by false y p q = none (false≢true q)

    go : (d : Found) → read_record bs ≡ d → (valued (length bs) 0 d).refusal ≡ 0 → (valued (length bs) 0 d).kind ≤ 3
    go (refused n) p q = none (omega (arith, q, refusal_numbered bs n p))
    go (found k ws rest) p q = least k (written_record bs k ws rest s p).kind

-- ---- one step

module _ (r : CableowlReplay) (ended : ℕ) (snd given : List Float) (sounds : ℕ) (out : List Float) where
  abbrev two : CableowlReplay
  two = of_reader 2 r

  abbrev one : CableowlReplay
  one = of_reader 1 r

  abbrev only : CableowlReplayed → StepC
  only a = record { answer = a; sound = snd; samples = out }

  turned_same : (d : Record) (bs : List ℕ) → d.kind ≤ 3
      → cond (eqb (lacking two d sounds (length given)) 0) (played_record_v2 two d bs snd given sounds out)
      (only (unplayed two 4 (lacking two d sounds (length given))))
      ≡ step_of_reader 2 (played_record one d snd out)
  unfolding lacking played_record_v2 obeyed played_record creation_c commands_c block_step block_c
  turned_same d bs h =
      rw (
        ne_eqb d.kind 4 (λ (e : d.kind ≡ 4). omega (arith, h, e)),
        ne_eqb d.kind 5 (λ (e : d.kind ≡ 5). omega (arith, h, e)),
      ) (go (eqb d.kind 1) (eqb d.kind 2))
    where
      n : ℕ
      n = d.next

      vs : List ℕ
      vs = d.values

      short : Bool → ℕ
      short p = unless (p || true || leb r.samples (length given)) 1 0

      heard : Bool → StepC
      heard q = cond q (only (commands_c (take r.samples snd) two n vs)) (block_step two n vs snd out)

      go : (p q : Bool)
          → cond (eqb (short p) 0)
          (cond p (record { answer = creation_c (playing 0 two) n vs; sound = sets snd 0 (samples_of vs); samples = out })
          (record { answer = (heard q).answer; sound = snd; samples = (heard q).samples }))
          (only (unplayed two 4 (short p)))
          ≡ step_of_reader 2
          (cond p (record { answer = creation_c one n vs; sound = sets snd 0 (samples_of vs); samples = out })
          (cond q (only (commands_c (take r.samples snd) one n vs)) (block_step one n vs snd out)))
      go true q = refl
      go false true = refl
      go false false = refl

  judged_same : (d : Record) (bs : List ℕ) → (d.refusal ≡ 0 → d.kind ≤ 3)
      → judged_v2 two ended d bs snd given sounds out ≡ step_of_reader 2 (judged one ended d snd out)
  unfolding judged_v2 judged
  judged_same d bs h = go (eqb d.refusal 0) (eqb d.refusal 18 && eqb ended 0) refl
    where
      broken : CableowlReplay → Bool → StepC
      broken q w = only (cond w (unplayed q 1 0) (unplayed q 3 d.refusal))

      go : (z w : Bool) → eqb d.refusal 0 ≡ z
          → cond z
          (cond (eqb (lacking two d sounds (length given)) 0) (played_record_v2 two d bs snd given sounds out)
          (only (unplayed two 4 (lacking two d sounds (length given)))))
          (cond z (played_record two d snd out) (broken two w))
          ≡ step_of_reader 2 (cond z (played_record one d snd out) (broken one w))
      go true w e = turned_same d bs (h (eqb-true d.refusal 0 e))
      go false true e = refl
      go false false e = refl

  begun_same : (bs : List ℕ) → Unsealed bs → begun_v2 two ended bs snd given sounds out ≡ step_of_reader 2 (begun one ended bs snd out)
  unfolding begun_v2 begun any_at
  begun_same [] h = go (eqb ended 0)
    where
      go : (t : Bool) → only (cond t (unplayed two 1 0) (unplayed two 2 0)) ≡ step_of_reader 2 (only (cond t (unplayed one 1 0) (unplayed one 2 0)))
      go true = refl
      go false = refl
  begun_same (b ∷ bs) h =
      ap (λ (t : Bool). judged_v2 two ended (cond t (sealed_at (b ∷ bs) 0) (record_at (b ∷ bs) 0)) (b ∷ bs) snd given sounds out) h.old
      ∙ judged_same (record_at (b ∷ bs) 0) (b ∷ bs) (few_kinds (b ∷ bs) h.bytes)

-- the refusal of a call over the recorded sound is the same
abbrev refusal : CableowlReplay → List Float → List Float → ℕ
refusal r snd out = unless (leb r.samples (length snd)) 1 (unless (leb 128 (length snd) && leb 2048 (length out)) 19 0)

pub as_version_1 : AsVersion1
unfolding stepped_v2 stepped_c refused_step_v2 refused_step
as_version_1 r bs ended snd given sounds out h = go (eqb (refusal r snd out) 0)
  where
    refused_by_lem : CableowlReplay → StepC
    refused_by_lem q = record { answer = unplayed q 4 (refusal r snd out); sound = snd; samples = out }

    go : (t : Bool)
        → cond t (begun_v2 (of_reader 2 r) ended bs snd given sounds out) (refused_by_lem (of_reader 2 r))
        ≡ step_of_reader 2 (cond t (begun (of_reader 1 r) ended bs snd out) (refused_by_lem (of_reader 1 r)))
    go true = begun_same r ended snd given sounds out bs h
    go false = refl

-- ---- the whole trace

-- a step of version 1 stays in version 1, and its line is that of version 2
record Stays (o : StepC) : Type 0 where
  replay : o.answer.replay ≡ of_reader 1 o.answer.replay
  line : line_v2 (answer_of_reader 2 o.answer) ≡ line_c o.answer

module _ (r : CableowlReplay) (snd out : List Float) where
  abbrev plain : CableowlReplayed → StepC
  plain a = record { answer = a; sound = snd; samples = out }

  turned_stays : (d : Record) → Stays (played_record (of_reader 1 r) d snd out)
  unfolding played_record creation_c commands_c block_step block_c line_v2 line_c block_line_c
  turned_stays d = go (eqb d.kind 1) (eqb d.kind 2)
    where
      n : ℕ
      n = d.next

      vs : List ℕ
      vs = d.values

      go : (p q : Bool)
          → Stays
          (cond p (record { answer = creation_c (of_reader 1 r) n vs; sound = sets snd 0 (samples_of vs); samples = out })
          (cond q (plain (commands_c (take r.samples snd) (of_reader 1 r) n vs)) (block_step (of_reader 1 r) n vs snd out)))
      go true q = record { replay = refl; line = refl }
      go false true = record { replay = refl; line = refl }
      go false false = record { replay = refl; line = refl }

  -- what is read after a record that was played is of version 1 too
  record Reads (bs : List ℕ) (o : StepC) : Type 0 where
    stays : Stays o
    goes_on : o.answer.what ≡ 0 → is_version1 (o.answer.size - 1) bs ≡ true

  step_reads : (b : ℕ) (bs : List ℕ) → is_version1 zero (b ∷ bs) ≡ true → Reads bs (stepped_c (of_reader 1 r) (b ∷ bs) 1 snd out)
  unfolding stepped_c begun judged is_version1 line_v2 line_c
  step_reads b bs h = go (eqb (refused_step (of_reader 1 r) (length snd) (length out)) 0) (eqb d.refusal 0) (eqb d.refusal 18) (behind (is_sealed (b ∷ bs)) h)
    where
      d : Record
      d = record_at (b ∷ bs) 0

      behind : (t : Bool) → (not t && cond (eqb d.refusal 0) (is_version1 (d.next - 1) bs) true) ≡ true → cond (eqb d.refusal 0) (is_version1 (d.next - 1) bs) true ≡ true
      behind true e = none (false≢true e)
      behind false e = e

      go : (t z w : Bool) → cond z (is_version1 (d.next - 1) bs) true ≡ true
          → Reads bs
          (cond t
          (cond z (played_record (of_reader 1 r) d snd out)
          (plain (cond (w && false) (unplayed (of_reader 1 r) 1 0) (unplayed (of_reader 1 r) 3 d.refusal))))
          (plain (unplayed (of_reader 1 r) 4 (refused_step (of_reader 1 r) (length snd) (length out)))))
      go true true w e =
          record {
            stays = turned_stays d;
            goes_on = λ z. ap (λ (n : ℕ). is_version1 (n - 1) bs) (turned_size (of_reader 1 r) d snd out) ∙ e;
          }
      go true false true e = record { stays = record { replay = refl; line = refl }; goes_on = λ (z : ◌≡◌ {A = ℕ} 3 0). none (omega (arith, z)) }
      go true false false e = record { stays = record { replay = refl; line = refl }; goes_on = λ (z : ◌≡◌ {A = ℕ} 3 0). none (omega (arith, z)) }
      go false z w e = record { stays = record { replay = refl; line = refl }; goes_on = λ (y : ◌≡◌ {A = ℕ} 4 0). none (omega (arith, y)) }

module _ (host : ℕ → Offer) where
  -- the first line, and what is printed after it
  abbrev onward_v2 : List ℕ → StepC → List ℕ
  onward_v2 bs o =
      let a = o.answer in
      line_v2 a ++ cond (eqb a.what 0) (printed_v2 host a.replay o.sound o.samples (a.size - 1) bs) []

  unsealed : (b : ℕ) (bs : List ℕ) → Small (b ∷ bs) → is_version1 zero (b ∷ bs) ≡ true → Unsealed (b ∷ bs)
  unfolding is_version1
  unsealed b bs s h = record { bytes = s; old = go (is_sealed (b ∷ bs)) h }
    where
      go : (t : Bool) → (not t && cond (eqb (record_at (b ∷ bs) 0).refusal 0) (is_version1 ((record_at (b ∷ bs) 0).next - 1) bs) true) ≡ true → t ≡ false
      go true e = none (false≢true e)
      go false e = refl

  abbrev Same : List ℕ → Type 0
  Same bs =
      (k : ℕ) (r : CableowlReplay) (snd out : List Float) → is_version1 k bs ≡ true
      → printed_v2 host (of_reader 2 r) snd out k bs ≡ printed_c (of_reader 1 r) snd out k bs

  rest_same : (bs : List ℕ) → Same bs → (r : CableowlReplay) (snd out : List Float) (o : StepC) → Reads r snd out bs o
      → cond (eqb o.answer.what 0) (printed_v2 host (of_reader 2 o.answer.replay) o.sound o.samples (o.answer.size - 1) bs) []
      ≡ cond (eqb o.answer.what 0) (printed_c o.answer.replay o.sound o.samples (o.answer.size - 1) bs) []
  rest_same bs h r snd out o x = go (eqb o.answer.what 0) refl
    where
      go : (t : Bool) → eqb o.answer.what 0 ≡ t
          → cond t (printed_v2 host (of_reader 2 o.answer.replay) o.sound o.samples (o.answer.size - 1) bs) []
          ≡ cond t (printed_c o.answer.replay o.sound o.samples (o.answer.size - 1) bs) []
      go true e =
          h (o.answer.size - 1) o.answer.replay o.sound o.samples (x.goes_on (eqb-true o.answer.what 0 e))
          ∙ ap (λ (q : CableowlReplay). printed_c q o.sound o.samples (o.answer.size - 1) bs) (sym x.stays.replay)
      go false e = refl

  printed_same : (bs : List ℕ) → Small bs → Same bs
  unfolding printed_v2 printed_c is_version1
  printed_same [] s k r snd out h = refl
  printed_same (b ∷ bs) s (suc k) r snd out h = printed_same bs (λ i. s (suc i)) k r snd out h
  printed_same (b ∷ bs) s zero r snd out h =
      let g = host r.offset in
      let o = stepped_c (of_reader 1 r) (b ∷ bs) 1 snd out in
      let a = o.answer in
      let x = step_reads r snd out b bs h in
      ap (onward_v2 bs) (as_version_1 r (b ∷ bs) 1 snd g.samples g.sounds out (unsealed b bs s h))
      ∙ ap (λ (l : List ℕ). l ++ cond (eqb a.what 0) (printed_v2 host (of_reader 2 a.replay) o.sound o.samples (a.size - 1) bs) []) x.stays.line
      ∙ ap (λ (l : List ℕ). line_c a ++ l) (rest_same bs (printed_same bs (λ i. s (suc i))) r snd out o x)

pub archive_replays_v2 : ArchiveReplaysV2
archive_replays_v2 host snd out bs h =
    printed_same host bs h.lent.bytes 0 blank_replay snd out h.kinds ∙ archive_replays snd out bs h.lent
