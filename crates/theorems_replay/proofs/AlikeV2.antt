-- Two given sounds of equal length: each step of version 2 returns the same except for samples, and so does a whole trace. Assumes nothing.
use mathlib.Core.Path.{◌≡◌, refl, sym, ap, ap₂, ◌∙◌}
use Prim.Native.Nat.{ℕ, zero, suc, ◌+◌, ◌-◌, ◌*◌, min}
use native.Mathlib.Omega.{arith}
use mathlib.Core.Bool.{Bool, true, false, cond, ◌&&◌}
use mathlib.Core.List.{List, [], ◌∷◌, ◌++◌}
use lib.Dec.{eqb}
use lib.ListN.{length, take, drop, length-take, length-append, take-append-drop}
use lib.Seq.{sets, length-sets}
use lib.Ieee.{Float}
use borrow.Author.Tests.{eqb-true}
use Rattle.numbers.specs.Lists.{all}
use Rattle.sound_lanes.specs.Lanes.{Lanes, rows, sized, is_time_step, laned, near}
use Rattle.sound_lanes.proofs.Rows.{beside_length}
use Rattle.sound_state.specs.declared.StaticSound.{StaticSound}
use Rattle.sound_state.specs.Refusals.{unless}
use Rattle.sound_state.specs.WellFormed.{well_formed_for}
use Rattle.sound_creation.specs.Creation.{Created, created}
use Rattle.sound_commands.specs.Commands.{CommandsAnswer, commanded}
use Rattle.sound_block.specs.declared.Signals.{Signals}
use Rattle.sound_block.specs.Blocks.{block}
use Rattle.sound_block.proofs.Blocks.{block_length}
use Rattle.sound_slow_path.specs.Plays.{BlockAnswer, Played, accepted_with}
use Rattle.static_sound.specs.Entries.{refused_block, refused_with, holds, processed}
use Rattle.trace_inputs.specs.Inputs.{settings_of, samples_of, commands_of, block_of, given_samples, laned_block_of}
use Rattle.trace_sealed.specs.Records.{any_at}
use Rattle.c_state.specs.declared.CableowlState.{CableowlState}
use Rattle.c_state.specs.Records.{decoded, encoded}
use Rattle.cableowl.specs.declared.replays.CableowlReplay.{CableowlReplay}
use Rattle.cableowl.specs.declared.replays.CableowlReplayed.{CableowlReplayed}
use Rattle.cableowl.specs.Entries.{after}
use Rattle.cableowl.specs.Replays.{
  StepC,
  more,
  behind,
  played_as,
  unplayed,
  lanes_of,
  block_outcome,
  creation_c,
  commands_c,
  block_c,
  block_step,
  judged,
  begun,
  played_record,
}
use Rattle.cableowl.specs.ReplaysV2.{
  blank_replay_v2,
  playing,
  buffer_of,
  other_sound,
  refused_given,
  given_c,
  lanes_in,
  laned_outcome,
  of_kind,
  laned_step,
  obeyed,
  played_record_v2,
  lacking,
  judged_v2,
  begun_v2,
  refused_step_v2,
  stepped_v2,
}
use Rattle.theorems_sound_length.specs.Muted.{muted_processed}
use Rattle.theorems_sound_length.specs.Lengths.{SameLength, OtherSound}
use Rattle.theorems_sound_length.specs.Archive.{muted_state}
use Rattle.theorems_sound_length.proofs.Calls.{creation_alike, commands_alike, blocks_alike}
use Rattle.theorems_sound_length.proofs.Archive.{encoded_muted, after_muted, means_alike}
use Rattle.theorems_replay.specs.Archive.{block_line_c}
use Rattle.theorems_replay.specs.ArchiveV2.{Offer, line_v2, printed_v2, muted_replay, muted_replayed, StepsAlike, LinesAlikeV2}
use Rattle.trace_records.specs.Records.{Record}

none : {A : Type 0} → ⊥ → A
none e = elim e [ ]

-- ---- lengths

taken : {A : Type 0} (n : ℕ) (xs ys : List A) → length xs ≡ length ys → length (take n xs) ≡ length (take n ys)
taken n xs ys e = length-take n xs ∙ ap (min n) e ∙ sym (length-take n ys)

-- an output keeps its length
placed : (len : ℕ) (v : StaticSound) (dt : Float) (b : Lanes) (p : Bool) → refused_block len v dt b p ≡ 0 → p ≡ true
unfolding refused_block
placed len v dt b p = go (well_formed_for len v) (sized b) p (unless (is_time_step dt) 10 (unless (all laned (rows b)) 11 (unless (all (near v.setup.sample_rate dt) (rows b)) 12 0)))
  where
    go : (o s q : Bool) (rest : ℕ) → unless o 1 (unless (s && q) 9 rest) ≡ 0 → q ≡ true
    go true true true rest e = refl
    go true true false rest e = none (omega (arith, e))
    go true false q rest e = none (omega (arith, e))
    go false s q rest e = none (omega (arith, e))

processed_long : (x : List Float) (v : StaticSound) (dt : Float) (b : Lanes) (g : Signals) (out : List Float) → length (processed x v dt b g out).samples ≡ length out
unfolding processed
processed_long x v dt b g out = go (eqb k 0) refl
  where
    k : ℕ
    k = refused_block (length x) v dt b (holds b out)

    heard : Played
    heard = block x dt (rows b) g v

    go : (t : Bool) → eqb k 0 ≡ t → length (cond t (accepted_with heard heard.samples) (refused_with k v out)).samples ≡ length out
    go true e =
        block_length x dt (rows b) g v
        ∙ ap (λ (n : ℕ). 2 * n) (beside_length b.fade b.volume b.left b.right b.rate)
        ∙ sym (eqb-true (length out) (2 * length b.rate) (placed (length x) v dt b (holds b out) (eqb-true k 0 e)))
    go false e = refl

joined : (n : ℕ) (part out : List Float) → length part ≡ length (take n out) → length (part ++ drop n out) ≡ length out
joined n part out e =
    length-append part (drop n out)
    ∙ ap (λ (m : ℕ). m + length (drop n out)) e
    ∙ sym (length-append (take n out) (drop n out))
    ∙ ap length (take-append-drop n out)

-- the buffers of a step keep their lengths
record Long (o : StepC) (snd out : List Float) : Type 0 where
  sound : length o.sound ≡ length snd
  samples : length o.samples ≡ length out

abbrev only : CableowlReplayed → List Float → List Float → StepC
only a snd out = record { answer = a; sound = snd; samples = out }

block_long : (r : CableowlReplay) (n : ℕ) (vs : List ℕ) (snd out : List Float) → length (block_step r n vs snd out).samples ≡ length out
unfolding block_step
block_long r n vs snd out =
    let b = block_of vs in
    joined (2 * b.frames) (block_outcome (take r.samples snd) r.voice b (take (2 * b.frames) out)).samples out
    (processed_long (take r.samples snd) (decoded r.voice) b.time_step (lanes_of b) b.signals (take (2 * b.frames) out))

laned_long : (r : CableowlReplay) (n : ℕ) (vs bs : List ℕ) (snd out : List Float) → length (laned_step r n vs bs snd out).samples ≡ length out
unfolding laned_step
laned_long r n vs bs snd out =
    let b = laned_block_of vs in
    joined (2 * b.frames) (laned_outcome (take r.samples snd) (decoded r.voice) b bs (take (2 * b.frames) out)).samples out
    (processed_long (take r.samples snd) (decoded r.voice) b.time_step (lanes_in b.frames bs) b.signals (take (2 * b.frames) out))

obeyed_long : (r : CableowlReplay) (d : Record) (bs : List ℕ) (snd out : List Float) → length (obeyed r d bs snd out).samples ≡ length out
unfolding obeyed
obeyed_long r d bs snd out = go (eqb d.kind 2) (eqb d.kind 5)
  where
    go : (p q : Bool)
        → length (cond p (only (commands_c (take r.samples snd) r d.next d.values) snd out)
        (cond q (laned_step r d.next d.values bs snd out) (block_step r d.next d.values snd out))).samples ≡ length out
    go true q = refl
    go false true = laned_long r d.next d.values bs snd out
    go false false = block_long r d.next d.values snd out

turned_long : (r : CableowlReplay) (d : Record) (bs : List ℕ) (snd given : List Float) (sounds : ℕ) (out : List Float) → Long (played_record_v2 r d bs snd given sounds out) snd out
unfolding played_record_v2
turned_long r d bs snd given sounds out = go (eqb d.kind 1) (eqb d.kind 4)
  where
    o : StepC
    o = obeyed r d bs (buffer_of r snd given) out

    go : (p q : Bool)
        → Long
        (cond p (record { answer = creation_c (playing 0 r) d.next d.values; sound = sets snd 0 (samples_of d.values); samples = out })
        (cond q (only (given_c given sounds r d.next d.values) snd out) (only o.answer snd o.samples))) snd out
    go true q = record { sound = length-sets snd 0 (samples_of d.values); samples = refl }
    go false true = record { sound = refl; samples = refl }
    go false false = record { sound = refl; samples = obeyed_long r d bs (buffer_of r snd given) out }

judged_long : (r : CableowlReplay) (ended : ℕ) (d : Record) (l : List ℕ) (snd given : List Float) (sounds : ℕ) (out : List Float)
    → Long (judged_v2 r ended d l snd given sounds out) snd out
unfolding judged_v2 judged
judged_long r ended d l snd given sounds out = by (eqb d.refusal 0) (eqb k 0)
  where
    k : ℕ
    k = lacking r d sounds (length given)

    by : (z e : Bool)
        → Long
        (cond z (cond e (played_record_v2 r d l snd given sounds out) (only (unplayed r 4 k) snd out))
        (cond z (played_record r d snd out)
        (only (cond (eqb d.refusal 18 && eqb ended 0) (unplayed r 1 0) (unplayed r 3 d.refusal)) snd out)))
        snd out
    by true true = turned_long r d l snd given sounds out
    by true false = record { sound = refl; samples = refl }
    by false e = record { sound = refl; samples = refl }

begun_long : (r : CableowlReplay) (ended : ℕ) (l : List ℕ) (snd given : List Float) (sounds : ℕ) (out : List Float)
    → Long (begun_v2 r ended l snd given sounds out) snd out
unfolding begun_v2 begun
begun_long r ended [] snd given sounds out = record { sound = refl; samples = refl }
begun_long r ended (b ∷ l) snd given sounds out = judged_long r ended (any_at (b ∷ l) 0) (b ∷ l) snd given sounds out

step_long : (r : CableowlReplay) (bs : List ℕ) (ended : ℕ) (snd given : List Float) (sounds : ℕ) (out : List Float) → Long (stepped_v2 r bs ended snd given sounds out) snd out
unfolding stepped_v2
step_long r bs ended snd given sounds out = go (eqb (refused_step_v2 r (length snd) (length out)) 0)
  where
    go : (t : Bool)
        → Long (cond t (begun_v2 r ended bs snd given sounds out) (only (unplayed r 4 (refused_step_v2 r (length snd) (length out))) snd out)) snd out
    go true = begun_long r ended bs snd given sounds out
    go false = record { sound = refl; samples = refl }

-- ---- the same except for samples

-- the replay with another voice
abbrev with_voice : CableowlReplay → CableowlState → CableowlReplay
with_voice r v =
    record { voice = v; samples = r.samples; blocks = r.blocks; offset = r.offset; reader = r.reader; given = r.given }

module _ (r : CableowlReplay) (w : CableowlState) (f : muted_state r.voice ≡ muted_state w) where
  abbrev q : CableowlReplay
  q = with_voice r w

  unplayed_alike : (what k : ℕ) → muted_replayed (unplayed r what k) ≡ muted_replayed (unplayed q what k)
  unplayed_alike what k = ap (λ (v : CableowlState). unplayed (with_voice r v) what k) f

  -- a creation over a given sound
  given_alike : (given other : List Float) (sounds n : ℕ) (vs : List ℕ) → SameLength given other
      → muted_replayed (given_c given sounds r n vs) ≡ muted_replayed (given_c other sounds q n vs)
  unfolding given_c
  given_alike given other sounds n vs l =
      go (other_sound sounds (length given) vs)
      ∙ ap (λ (m : ℕ). muted_replayed (cond (other_sound sounds m vs) (refused_given q n) (made (created (take (given_samples vs) other) (settings_of vs))))) l
    where
      made : Created → CableowlReplayed
      made c = played_as (behind (playing 1 r) n (encoded c.voice) (given_samples vs) r.blocks) n 4 c.refusal 0 0 4

      answers : CableowlState → ℕ → CableowlReplayed
      answers v k = played_as (behind (playing 1 r) n v (given_samples vs) r.blocks) n 4 k 0 0 4

      mine : Created
      mine = created (take (given_samples vs) given) (settings_of vs)

      theirs : Created
      theirs = created (take (given_samples vs) other) (settings_of vs)

      go : (b : Bool) → muted_replayed (cond b (refused_given r n) (made mine)) ≡ muted_replayed (cond b (refused_given q n) (made theirs))
      go true = refl
      go false =
          ap (λ (v : CableowlState). answers v mine.refusal) (encoded_muted mine.voice)
          ∙ ap (λ (c : Created). answers (encoded c.voice) c.refusal)
          (creation_alike (take (given_samples vs) given) (take (given_samples vs) other) (settings_of vs) (taken (given_samples vs) given other l))
          ∙ ap (λ (v : CableowlState). answers v theirs.refusal) (sym (encoded_muted theirs.voice))

  module _ (snd tnd : List Float) (l : SameLength snd tnd) where
    alike : (n : ℕ) → OtherSound (take n snd) (take n tnd) (decoded r.voice) (decoded w)
    alike n = record { samples = taken n snd tnd l; voices = means_alike r.voice w f }

    commands_same : (n : ℕ) (vs : List ℕ) → muted_replayed (commands_c (take r.samples snd) r n vs) ≡ muted_replayed (commands_c (take r.samples tnd) q n vs)
    unfolding commands_c
    commands_same n vs =
        ap (λ (v : CableowlState). answers v mine.refusal) (after_muted mine.refusal mine.voice r.voice)
        ∙ ap₂ (λ (a : CommandsAnswer) (v : CableowlState). answers (after a.refusal a.voice v) a.refusal)
        (commands_alike (take r.samples snd) (take r.samples tnd) (decoded r.voice) (decoded w) (commands_of vs) (alike r.samples)) f
        ∙ ap (λ (v : CableowlState). answers v theirs.refusal) (sym (after_muted theirs.refusal theirs.voice w))
      where
        answers : CableowlState → ℕ → CableowlReplayed
        answers v k = played_as (behind r n v r.samples r.blocks) n 2 k 0 0 4

        mine : CommandsAnswer
        mine = commanded (take r.samples snd) (decoded r.voice) (commands_of vs)

        theirs : CommandsAnswer
        theirs = commanded (take r.samples tnd) (decoded w) (commands_of vs)

    -- the player's result for a block, as a record of the kind k
    counted_same : (k n frames : ℕ) (mine theirs : BlockAnswer) → muted_processed mine ≡ muted_processed theirs
        → muted_replayed (of_kind k (block_c r n frames mine)) ≡ muted_replayed (of_kind k (block_c q n frames theirs))
    unfolding block_c
    counted_same k n frames mine theirs e =
        ap (λ (v : CableowlState). answers v mine) (after_muted mine.refusal mine.voice r.voice)
        ∙ ap₂ (λ (a : BlockAnswer) (v : CableowlState). answers (after a.refusal a.voice v) a) e f
        ∙ ap (λ (v : CableowlState). answers v theirs) (sym (after_muted theirs.refusal theirs.voice w))
      where
        answers : CableowlState → BlockAnswer → CableowlReplayed
        answers v p = played_as (behind r n v r.samples (more r.blocks)) n k p.refusal frames p.steps p.lowest_count

    module _ (out into : List Float) (m : SameLength out into) where
      block_same : (n : ℕ) (vs : List ℕ) → muted_replayed (block_step r n vs snd out).answer ≡ muted_replayed (block_step q n vs tnd into).answer
      unfolding block_step block_c
      block_same n vs =
          let b = block_of vs in
          counted_same 3 n b.frames
          (block_outcome (take r.samples snd) r.voice b (take (2 * b.frames) out)).answer
          (block_outcome (take r.samples tnd) w b (take (2 * b.frames) into)).answer
          (blocks_alike (take r.samples snd) (take r.samples tnd) (decoded r.voice) (decoded w) b.time_step (lanes_of b) b.signals
          (take (2 * b.frames) out) (take (2 * b.frames) into)
          (record { sound = alike r.samples; output = taken (2 * b.frames) out into m }))

      laned_same : (n : ℕ) (vs bs : List ℕ) → muted_replayed (laned_step r n vs bs snd out).answer ≡ muted_replayed (laned_step q n vs bs tnd into).answer
      unfolding laned_step
      laned_same n vs bs =
          let b = laned_block_of vs in
          counted_same 5 n b.frames
          (laned_outcome (take r.samples snd) (decoded r.voice) b bs (take (2 * b.frames) out)).answer
          (laned_outcome (take r.samples tnd) (decoded w) b bs (take (2 * b.frames) into)).answer
          (blocks_alike (take r.samples snd) (take r.samples tnd) (decoded r.voice) (decoded w) b.time_step (lanes_in b.frames bs) b.signals
          (take (2 * b.frames) out) (take (2 * b.frames) into)
          (record { sound = alike r.samples; output = taken (2 * b.frames) out into m }))

      obeyed_same : (d : Record) (bs : List ℕ) → muted_replayed (obeyed r d bs snd out).answer ≡ muted_replayed (obeyed q d bs tnd into).answer
      unfolding obeyed
      obeyed_same d bs = go (eqb d.kind 2) (eqb d.kind 5)
        where
          go : (x y : Bool)
              → muted_replayed (cond x (only (commands_c (take r.samples snd) r d.next d.values) snd out)
              (cond y (laned_step r d.next d.values bs snd out) (block_step r d.next d.values snd out))).answer
              ≡ muted_replayed (cond x (only (commands_c (take r.samples tnd) q d.next d.values) tnd into)
              (cond y (laned_step q d.next d.values bs tnd into) (block_step q d.next d.values tnd into))).answer
          go true y = commands_same d.next d.values
          go false true = laned_same d.next d.values bs
          go false false = block_same d.next d.values

  module _ (snd tnd given other out into : List Float) (sounds : ℕ) (l : SameLength snd tnd) (g : SameLength given other) (m : SameLength out into) where
    buffers : SameLength (buffer_of r snd given) (buffer_of r tnd other)
    buffers = go (eqb r.given 0)
      where
        go : (b : Bool) → length (cond b snd given) ≡ length (cond b tnd other)
        go true = l
        go false = g

    turned_same : (d : Record) (bs : List ℕ) → muted_replayed (played_record_v2 r d bs snd given sounds out).answer ≡ muted_replayed (played_record_v2 q d bs tnd other sounds into).answer
    unfolding played_record_v2 creation_c
    turned_same d bs = go (eqb d.kind 1) (eqb d.kind 4)
      where
        o : StepC
        o = obeyed r d bs (buffer_of r snd given) out

        p : StepC
        p = obeyed q d bs (buffer_of r tnd other) into

        go : (x y : Bool)
            → muted_replayed (cond x (record { answer = creation_c (playing 0 r) d.next d.values; sound = sets snd 0 (samples_of d.values); samples = out })
            (cond y (only (given_c given sounds r d.next d.values) snd out) (only o.answer snd o.samples))).answer
            ≡ muted_replayed (cond x (record { answer = creation_c (playing 0 q) d.next d.values; sound = sets tnd 0 (samples_of d.values); samples = into })
            (cond y (only (given_c other sounds q d.next d.values) tnd into) (only p.answer tnd p.samples))).answer
        go true y = refl
        go false true = given_alike given other sounds d.next d.values g
        go false false = obeyed_same (buffer_of r snd given) (buffer_of r tnd other) buffers out into m d bs

    judged_same : (ended : ℕ) (d : Record) (bs : List ℕ)
        → muted_replayed (judged_v2 r ended d bs snd given sounds out).answer ≡ muted_replayed (judged_v2 q ended d bs tnd other sounds into).answer
    unfolding judged_v2 judged lacking
    judged_same ended d bs =
        go (eqb d.refusal 0) (eqb (short (length given)) 0) (eqb d.refusal 18 && eqb ended 0)
        ∙ ap (λ (i : ℕ). muted_replayed (by q tnd into (played_record_v2 q d bs tnd other sounds into) (played_record q d tnd into) (eqb d.refusal 0) (eqb (short i) 0) (short i) (eqb d.refusal 18 && eqb ended 0))) g
      where
        short : ℕ → ℕ
        short i = lacking r d sounds i

        by : CableowlReplay → List Float → List Float → StepC → StepC → Bool → Bool → ℕ → Bool → CableowlReplayed
        by t i o s u z e k x =
            (cond z (cond e s (only (unplayed t 4 k) i o)) (cond z u (only (cond x (unplayed t 1 0) (unplayed t 3 d.refusal)) i o))).answer

        go : (z e x : Bool)
            → muted_replayed (by r snd out (played_record_v2 r d bs snd given sounds out) (played_record r d snd out) z e (short (length given)) x)
            ≡ muted_replayed (by q tnd into (played_record_v2 q d bs tnd other sounds into) (played_record q d tnd into) z e (short (length given)) x)
        go true true x = turned_same d bs
        go true false x = unplayed_alike 4 (short (length given))
        go false e true = unplayed_alike 1 0
        go false e false = unplayed_alike 3 d.refusal

    begun_same : (ended : ℕ) (bs : List ℕ)
        → muted_replayed (begun_v2 r ended bs snd given sounds out).answer ≡ muted_replayed (begun_v2 q ended bs tnd other sounds into).answer
    unfolding begun_v2 begun
    begun_same ended [] = go (eqb ended 0)
      where
        go : (t : Bool) → muted_replayed (cond t (unplayed r 1 0) (unplayed r 2 0)) ≡ muted_replayed (cond t (unplayed q 1 0) (unplayed q 2 0))
        go true = unplayed_alike 1 0
        go false = unplayed_alike 2 0
    begun_same ended (b ∷ bs) = judged_same ended (any_at (b ∷ bs) 0) (b ∷ bs)

    step_same : (ended : ℕ) (bs : List ℕ)
        → muted_replayed (stepped_v2 r bs ended snd given sounds out).answer ≡ muted_replayed (stepped_v2 q bs ended tnd other sounds into).answer
    unfolding stepped_v2 refused_step_v2
    step_same ended bs =
        go (eqb (number (length snd) (length out)) 0)
        ∙ ap₂ (λ (i j : ℕ). muted_replayed (by q tnd into (begun_v2 q ended bs tnd other sounds into) (eqb (number i j) 0) (number i j))) l m
      where
        number : ℕ → ℕ → ℕ
        number i j = refused_step_v2 r i j

        by : CableowlReplay → List Float → List Float → StepC → Bool → ℕ → CableowlReplayed
        by t i o s z k = (cond z s (only (unplayed t 4 k) i o)).answer

        go : (z : Bool)
            → muted_replayed (by r snd out (begun_v2 r ended bs snd given sounds out) z (number (length snd) (length out)))
            ≡ muted_replayed (by q tnd into (begun_v2 q ended bs tnd other sounds into) z (number (length snd) (length out)))
        go true = begun_same ended bs
        go false = unplayed_alike 4 (number (length snd) (length out))

pub archive_steps_alike : StepsAlike
archive_steps_alike r q bs ended sounds snd tnd given other out into h =
    let e : with_voice r q.voice ≡ q = ap (λ (t : CableowlReplay). with_voice t q.voice) h.replays in
    step_same r q.voice (ap (λ (t : CableowlReplay). t.voice) h.replays) snd tnd given other out into sounds h.sound h.given h.output ended bs
    ∙ ap (λ (t : CableowlReplay). muted_replayed (stepped_v2 t bs ended tnd other sounds into).answer) e

-- ---- the whole trace

line_muted : (a : CableowlReplayed) → line_v2 (muted_replayed a) ≡ line_v2 a
unfolding line_v2 block_line_c
line_muted a = refl

module _ (host other : ℕ → Offer) (s : (at : ℕ) → (host at).sounds ≡ (other at).sounds) (g : (at : ℕ) → SameLength (host at).samples (other at).samples) where
  abbrev onward_by : (ℕ → Offer) → List ℕ → StepC → List ℕ
  onward_by h bs o = cond (eqb o.answer.what 0) (printed_v2 h o.answer.replay o.sound o.samples (o.answer.size - 1) bs) []

  abbrev Same : List ℕ → Type 0
  Same bs =
      (k : ℕ) (r q : CableowlReplay) (snd tnd out into : List Float)
      → muted_replay r ≡ muted_replay q → SameLength snd tnd → SameLength out into
      → printed_v2 host r snd out k bs ≡ printed_v2 other q tnd into k bs

  rest_alike : (bs : List ℕ) → Same bs → (o p : StepC) → muted_replayed o.answer ≡ muted_replayed p.answer
      → SameLength o.sound p.sound → SameLength o.samples p.samples
      → onward_by host bs o ≡ onward_by other bs p
  rest_alike bs h o p f u v =
      go (eqb o.answer.what 0)
      ∙ ap (λ (a : CableowlReplayed). cond (eqb a.what 0) (printed_v2 other p.answer.replay p.sound p.samples (p.answer.size - 1) bs) []) f
    where
      go : (t : Bool)
          → cond t (printed_v2 host o.answer.replay o.sound o.samples (o.answer.size - 1) bs) []
          ≡ cond t (printed_v2 other p.answer.replay p.sound p.samples (p.answer.size - 1) bs) []
      go true =
          h (o.answer.size - 1) o.answer.replay p.answer.replay o.sound p.sound o.samples p.samples
          (ap (λ (a : CableowlReplayed). a.replay) f) u v
          ∙ ap (λ (a : CableowlReplayed). printed_v2 other p.answer.replay p.sound p.samples (a.size - 1) bs) f
      go false = refl

  printed_alike : (bs : List ℕ) → Same bs
  unfolding printed_v2
  printed_alike [] k r q snd tnd out into e l m = refl
  printed_alike (b ∷ bs) (suc k) r q snd tnd out into e l m = printed_alike bs k r q snd tnd out into e l m
  printed_alike (b ∷ bs) zero r q snd tnd out into e l m =
      let at : r.offset ≡ q.offset = ap (λ (t : CableowlReplay). t.offset) e in
      let x = host r.offset in
      let y = other r.offset in
      let o = stepped_v2 r (b ∷ bs) 1 snd x.samples x.sounds out in
      let p = stepped_v2 q (b ∷ bs) 1 tnd y.samples x.sounds into in
      let same = archive_steps_alike r q (b ∷ bs) 1 x.sounds snd tnd x.samples y.samples out into
      (record { replays = e; sound = l; given = g r.offset; output = m }) in
      let i = step_long r (b ∷ bs) 1 snd x.samples x.sounds out in
      let j = step_long q (b ∷ bs) 1 tnd y.samples x.sounds into in
      ap₂ (λ (a c : List ℕ). a ++ c)
      (sym (line_muted o.answer) ∙ ap line_v2 same ∙ line_muted p.answer)
      (rest_alike bs (printed_alike bs) o p same (i.sound ∙ l ∙ sym j.sound) (i.samples ∙ m ∙ sym j.samples))
      ∙ ap (λ (n : ℕ). let t = stepped_v2 q (b ∷ bs) 1 tnd y.samples n into in line_v2 t.answer ++ onward_by other bs t) (s r.offset)
      ∙ ap (λ (n : ℕ). let t = stepped_v2 q (b ∷ bs) 1 tnd (other n).samples (other n).sounds into in line_v2 t.answer ++ onward_by other bs t) at

pub archive_lines_alike_v2 : LinesAlikeV2
archive_lines_alike_v2 host other snd tnd out into bs h =
    printed_alike host other h.sounds h.given bs 0 blank_replay_v2 blank_replay_v2 snd tnd out into refl h.sound h.output
