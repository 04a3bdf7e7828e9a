-- What a step of a replay of version 2 returns, from the results of the calls below it. Assumes nothing.
use Rattle.std.specs.Prelude.{Result}
use mathlib.Core.Path.{◌≡◌, refl, sym, ap, ◌∙◌, subst}
use Prim.Native.Nat.{ℕ, ◌+◌, ◌-◌, ◌*◌, ◌/◌, ◌%◌, ◌≤◌}
use native.Mathlib.Omega.{arith}
use mathlib.Core.Bool.{Bool, true, false, cond, not, ◌&&◌, ◌||◌, true≢false}
use mathlib.Core.List.{List, [], ◌∷◌, ◌++◌}
use lib.Dec.{eqb, leb}
use lib.ListN.{length, take, drop, get_or, replicate, length-replicate}
use lib.Seq.{sets}
use lib.Ieee.{Float}
use borrow.Author.Tests.{eq-eqb, ne_eqb, eqb-true, eqb-false, leb-true}
use Rattle.numbers.specs.Words.{positive_zero}
use Rattle.sound_lanes.specs.Lanes.{five}
use Rattle.sound_state.specs.declared.StaticSound.{StaticSound}
use Rattle.refusals.specs.declared.Refusal.{Refusal}
use Rattle.refusals.specs.Numbers.{number}
use Rattle.refusals.proofs.Numbers.{number_eqb}
use Rattle.sound_slow_path.specs.declared.Processed.{Processed}
use Rattle.sound_slow_path.specs.Plays.{BlockAnswer, Outcome}
use Rattle.static_sound.specs.Entries.{processed, block_answer}
use Rattle.trace_inputs.specs.declared.LanedBlock.{LanedBlock}
use Rattle.trace_inputs.specs.Inputs.{single, double, settings_of, samples_of, given_frames, given_samples, lane_of, laned_block_of}
use Rattle.trace_inputs.proofs.Samples.{at_most_le}
use Rattle.trace_inputs.proofs.LaneLoops.{length_lane}
use Rattle.trace_records.specs.Records.{Record}
use Rattle.trace_sealed.specs.Records.{any_at}
use Rattle.c_state.specs.declared.CableowlState.{CableowlState}
use Rattle.c_state.specs.Records.{decoded, encoded}
use Rattle.cableowl.specs.declared.replays.CableowlReplay.{CableowlReplay}
use Rattle.cableowl.specs.declared.replays.CableowlReplayed.{CableowlReplayed}
use Rattle.cableowl.specs.Replays.{unplayed, StepC, creation_over, creation_c, commands_c, block_c, block_step, judged, begun}
use Rattle.cableowl.specs.ReplaysV2.{playing, buffer_of, other_sound, refused_given, given_c, laned_outcome, of_kind, laned_step, obeyed, played_record_v2, lacking, judged_v2, begun_v2, refused_step_v2, stepped_v2}
use Rattle.cableowl.proofs.Answers.{Few, block_few, block_low}
use Rattle.cableowl.proofs.ReplaySteps.{prefix, unread}

none : {A : Type 0} → ⊥ → A
none e = elim e [ ]

-- ---- a creation over a given sound

pub twice : (n f : ℕ) → (eqb (n / 2) f && eqb (n % 2) 0) ≡ eqb n (2 * f)
twice n f = go (eqb (n / 2) f) (eqb (n % 2) 0) refl refl
  where
    go : (x y : Bool) → eqb (n / 2) f ≡ x → eqb (n % 2) 0 ≡ y → (x && y) ≡ eqb n (2 * f)
    go true true p q = let e : n ≡ 2 * f = omega (arith, eqb-true (n / 2) f p, eqb-true (n % 2) 0 q) in sym (eq-eqb n (2 * f) e)
    go true false p q = sym (ne_eqb n (2 * f) (λ (e : n ≡ 2 * f). eqb-false (n % 2) 0 q (omega (arith, e))))
    go false y p q = sym (ne_eqb n (2 * f) (λ (e : n ≡ 2 * f). eqb-false (n / 2) f p (omega (arith, e))))

module _ (sounds len : ℕ) (vs : List ℕ) where
  least : given_samples vs ≤ 2 * given_frames vs
  least = go (leb (given_frames vs) 16777216)
    where
      go : (b : Bool) → cond b (2 * given_frames vs) 0 ≤ 2 * given_frames vs
      go true = omega arith
      go false = omega arith

  -- a sound that may be used is long enough
  pub long_enough : (sounds ≡ 0 → given_samples vs ≤ len) → other_sound sounds len vs ≡ false → given_samples vs ≤ len
  long_enough h = go (eqb sounds 0) (eqb sounds 1) (eqb len (2 * given_frames vs)) refl refl
    where
      go : (x y z : Bool) → eqb sounds 0 ≡ x → eqb len (2 * given_frames vs) ≡ z → (not x && not (y && z)) ≡ false → given_samples vs ≤ len
      go true y z p q e = h (eqb-true sounds 0 p)
      go false true true p q e = let l : len ≡ 2 * given_frames vs = eqb-true len (2 * given_frames vs) q in omega (arith, l, least)
      go false true false p q e = none (true≢false e)
      go false false z p q e = none (true≢false e)

pub given_long : (vs : List ℕ) (m : ℕ) → m ≡ given_samples vs → m ≤ 33554432
given_long vs m e = omega (arith, e, go (leb (given_frames vs) 16777216) refl)
  where
    go : (b : Bool) → leb (given_frames vs) 16777216 ≡ b → cond b (2 * given_frames vs) 0 ≤ 33554432
    go true p = omega (arith, leb-true (given_frames vs) 16777216 p)
    go false p = omega arith

module _ (given : List Float) (sounds : ℕ) (r : CableowlReplay) (n : ℕ) (vs : List ℕ) where
  pub given_other : (b : Bool) (p : CableowlReplayed) → b ≡ other_sound sounds (length given) vs → b ≡ true → p ≡ refused_given r n → p ≡ given_c given sounds r n vs
  unfolding given_c
  given_other b p hb t hp = hp ∙ rw (sym hb ∙ t) refl

  pub given_is : (b : Bool) (m : ℕ) (q : CableowlReplay) (p : CableowlReplayed)
      → b ≡ other_sound sounds (length given) vs → b ≡ false → m ≡ given_samples vs → m ≡ length (take m given)
      → q ≡ playing 1 r → p ≡ creation_over (take m given) 4 q n vs → p ≡ given_c given sounds r n vs
  unfolding given_c creation_over
  given_is b m q p hb f hm l hq hp = hp ∙ rw (sym hb ∙ f, hq, ← l, hm)

-- ---- a laned block

pub few_laned : (vs : List ℕ) (b : LanedBlock) → b ≡ laned_block_of vs → b.frames ≤ 1024
unfolding laned_block_of
few_laned vs b e = omega (arith, ap (λ (x : LanedBlock). x.frames) e, at_most_le 1024 (get_or vs 0 0))

module _ (w : ℕ) (value : ℕ → Float) (n : ℕ) (bs : List ℕ) (lane : List Float) (h : n ≤ 1024) (e : lane ≡ sets (replicate 1024 positive_zero) 0 (lane_of w value n bs)) where
  pub lane_is : take n lane ≡ lane_of w value n bs
  lane_is =
      let l = length_lane w value n bs in
      prefix (replicate 1024 positive_zero) lane (lane_of w value n bs) n e (sym l) (omega (arith, l, length-replicate 1024 positive_zero, h))

  pub lane_long : n ≡ length (take n lane)
  lane_long = sym (ap length lane_is ∙ length_lane w value n bs)

pub lanes_outcome : (snd : List Float) (v : StaticSound) (b : LanedBlock) (bs : List ℕ) (out fa vo le ri ra : List Float) (o : Outcome)
    → fa ≡ lane_of 4 (λ x. single x) b.frames (drop 18 bs) → vo ≡ lane_of 4 (λ x. single x) b.frames (drop 22 bs)
    → le ≡ lane_of 4 (λ x. single x) b.frames (drop 26 bs) → ri ≡ lane_of 4 (λ x. single x) b.frames (drop 30 bs)
    → ra ≡ lane_of 8 (λ x. double x) b.frames (drop 34 bs)
    → o ≡ processed snd v b.time_step (five fa vo le ri ra) b.signals out → o ≡ laned_outcome snd v b bs out
lanes_outcome snd v b bs out fa vo le ri ra o e1 e2 e3 e4 e5 q = q ∙ rw (e1, e2, e3, e4, e5)

pub laned_few : (snd out : List Float) (v : StaticSound) (b : LanedBlock) (bs : List ℕ) (q : Result Processed Refusal) (part : List Float)
    → record { answer = block_answer v q; samples = part } ≡ laned_outcome snd v b bs out → Few q
laned_few snd out v b bs q part f = block_few v _ q part (block_low snd v b.time_step _ b.signals out) f

module _ (r : CableowlReplay) (n : ℕ) (vs bs : List ℕ) (snd out : List Float) where
  abbrev laned_of : LanedBlock → Outcome → StepC
  laned_of b o = record { answer = of_kind 5 (block_c r n b.frames o.answer); sound = snd; samples = o.samples ++ drop (2 * b.frames) out }

  pub laned_is : (b : LanedBlock) (v : StaticSound) (q : Result Processed Refusal) (part : List Float) (p : CableowlReplayed) → b ≡ laned_block_of vs → v ≡ decoded r.voice
      → p ≡ of_kind 5 (block_c r n b.frames (block_answer (decoded r.voice) q))
      → record { answer = block_answer v q; samples = part } ≡ laned_outcome (take r.samples snd) v b bs (take (2 * b.frames) out)
      → record { answer = p; sound = snd; samples = part ++ drop (2 * b.frames) out } ≡ laned_step r n vs bs snd out
  unfolding laned_step
  laned_is b v q part p hb hv hp f =
      ap (λ (a : CableowlReplayed). record { answer = a; sound = snd; samples = part ++ drop (2 * b.frames) out }) hp
      ∙ ap (laned_of b)
      (subst (λ (u : StaticSound). record { answer = block_answer u q; samples = part } ≡ laned_outcome (take r.samples snd) u b bs (take (2 * b.frames) out)) hv f)
      ∙ ap (λ (z : LanedBlock). laned_of z (laned_outcome (take r.samples snd) (decoded r.voice) z bs (take (2 * z.frames) out))) hb

-- ---- by the kind

abbrev only : CableowlReplayed → List Float → List Float → StepC
only p snd out = record { answer = p; sound = snd; samples = out }

module _ (r : CableowlReplay) (d : Record) (bs : List ℕ) (snd out : List Float) where
  pub obeyed_commands : (p : CableowlReplayed) → d.kind ≡ 2 → p ≡ commands_c (take r.samples snd) r d.next d.values → only p snd out ≡ obeyed r d bs snd out
  unfolding obeyed
  obeyed_commands p k e = ap (λ (a : CableowlReplayed). only a snd out) e ∙ rw (eq-eqb d.kind 2 k) refl

  pub obeyed_lanes : (s : StepC) → (d.kind ≡ 2 → ⊥) → d.kind ≡ 5 → s ≡ laned_step r d.next d.values bs snd out → s ≡ obeyed r d bs snd out
  unfolding obeyed
  obeyed_lanes s j k e = e ∙ rw (ne_eqb d.kind 2 j, eq-eqb d.kind 5 k) refl

  pub obeyed_block : (s : StepC) → (d.kind ≡ 2 → ⊥) → (d.kind ≡ 5 → ⊥) → s ≡ block_step r d.next d.values snd out → s ≡ obeyed r d bs snd out
  unfolding obeyed
  obeyed_block s j k e = e ∙ rw (ne_eqb d.kind 2 j, ne_eqb d.kind 5 k) refl

module _ (r : CableowlReplay) (d : Record) (bs : List ℕ) (snd given : List Float) (sounds : ℕ) (out : List Float) where
  pub turned_creation_v2 : (q : CableowlReplay) (p : CableowlReplayed) (x : List Float) → d.kind ≡ 1 → q ≡ playing 0 r → p ≡ creation_c q d.next d.values
      → x ≡ sets snd 0 (samples_of d.values) → only p x out ≡ played_record_v2 r d bs snd given sounds out
  unfolding played_record_v2
  turned_creation_v2 q p x k hq e f =
      ap (λ (a : CableowlReplayed). only a x out) (e ∙ ap (λ (z : CableowlReplay). creation_c z d.next d.values) hq)
      ∙ ap (λ (y : List Float). only (creation_c (playing 0 r) d.next d.values) y out) f
      ∙ rw (eq-eqb d.kind 1 k) refl

  pub turned_given : (p : CableowlReplayed) → (d.kind ≡ 1 → ⊥) → d.kind ≡ 4 → p ≡ given_c given sounds r d.next d.values
      → only p snd out ≡ played_record_v2 r d bs snd given sounds out
  unfolding played_record_v2
  turned_given p j k e = ap (λ (a : CableowlReplayed). only a snd out) e ∙ rw (ne_eqb d.kind 1 j, eq-eqb d.kind 4 k) refl

  abbrev kept : StepC → StepC
  kept s = only s.answer snd s.samples

  pub turned_sound : (p : CableowlReplayed) (x : List Float) → (d.kind ≡ 1 → ⊥) → (d.kind ≡ 4 → ⊥) → r.given ≡ 0 → only p snd x ≡ obeyed r d bs snd out
      → only p snd x ≡ played_record_v2 r d bs snd given sounds out
  unfolding played_record_v2
  turned_sound p x j k g e = ap kept e ∙ rw (ne_eqb d.kind 1 j, ne_eqb d.kind 4 k, eq-eqb r.given 0 g) refl

  pub turned_over : (p : CableowlReplayed) (x : List Float) → (d.kind ≡ 1 → ⊥) → (d.kind ≡ 4 → ⊥) → (r.given ≡ 0 → ⊥) → only p given x ≡ obeyed r d bs given out
      → only p snd x ≡ played_record_v2 r d bs snd given sounds out
  unfolding played_record_v2
  turned_over p x j k g e = ap kept e ∙ rw (ne_eqb d.kind 1 j, ne_eqb d.kind 4 k, ne_eqb r.given 0 g) refl

-- ---- a given sound that is too short

module _ (r : CableowlReplay) (d : Record) (sounds len : ℕ) where
  abbrev usable : ℕ → Bool
  usable m = not (eqb sounds 0) || leb m len

  abbrev reached : Bool
  reached = eqb d.kind 1 || eqb r.given 0 || leb r.samples len

  pub lacks_nothing_4 : (m : ℕ) → d.kind ≡ 4 → m ≡ given_samples d.values → usable m ≡ true → 0 ≡ lacking r d sounds len
  unfolding lacking
  lacks_nothing_4 m k e h = let f : usable (given_samples d.values) ≡ true = subst (λ (z : ℕ). usable z ≡ true) e h in rw (eq-eqb d.kind 4 k, f) refl

  pub lacks_19 : (m : ℕ) → d.kind ≡ 4 → m ≡ given_samples d.values → usable m ≡ false → 19 ≡ lacking r d sounds len
  unfolding lacking
  lacks_19 m k e h = let f : usable (given_samples d.values) ≡ false = subst (λ (z : ℕ). usable z ≡ false) e h in rw (eq-eqb d.kind 4 k, f) refl

  pub lacks_nothing : (d.kind ≡ 4 → ⊥) → reached ≡ true → 0 ≡ lacking r d sounds len
  unfolding lacking
  lacks_nothing k h = rw (ne_eqb d.kind 4 k, h) refl

  pub lacks_1 : (d.kind ≡ 4 → ⊥) → reached ≡ false → 1 ≡ lacking r d sounds len
  unfolding lacking
  lacks_1 k h = rw (ne_eqb d.kind 4 k, h) refl

  -- what a call that lacks nothing has
  pub enough_given : lacking r d sounds len ≡ 0 → d.kind ≡ 4 → sounds ≡ 0 → given_samples d.values ≤ len
  unfolding lacking
  enough_given e k z = go (leb (given_samples d.values) len) refl (rw (eq-eqb d.kind 4 k, eq-eqb sounds 0 z) at e)
    where
      go : (b : Bool) → leb (given_samples d.values) len ≡ b → ◌≡◌ {A = ℕ} (cond b 0 19) 0 → given_samples d.values ≤ len
      go true p q = leb-true (given_samples d.values) len p
      go false p q = none (omega (arith, q))

  pub enough_played : lacking r d sounds len ≡ 0 → (d.kind ≡ 1 → ⊥) → (d.kind ≡ 4 → ⊥) → (r.given ≡ 0 → ⊥) → r.samples ≤ len
  unfolding lacking
  enough_played e j k g = go (leb r.samples len) refl (rw (ne_eqb d.kind 4 k, ne_eqb d.kind 1 j, ne_eqb r.given 0 g) at e)
    where
      go : (b : Bool) → leb r.samples len ≡ b → ◌≡◌ {A = ℕ} (cond b 0 1) 0 → r.samples ≤ len
      go true p q = leb-true r.samples len p
      go false p q = none (omega (arith, q))

-- ---- the number of a refused call

module _ (r : CableowlReplay) (s o : ℕ) where
  abbrev of_replay : Bool
  of_replay = eqb r.reader 2 && leb r.given 1 && (eqb r.given 1 || leb r.samples s)

  abbrev has_room : Bool
  has_room = leb 128 s && leb 2048 o

  pub number_1_v2 : of_replay ≡ false → 1 ≡ refused_step_v2 r s o
  unfolding refused_step_v2
  number_1_v2 h = rw (h) refl

  pub number_room_v2 : of_replay ≡ true → cond has_room 0 19 ≡ refused_step_v2 r s o
  unfolding refused_step_v2
  number_room_v2 h = rw (h) refl

  pub accepted_room_v2 : refused_step_v2 r s o ≡ 0 → (128 ≤ s) × (2048 ≤ o) × (r.given ≡ 0 → r.samples ≤ s)
  unfolding refused_step_v2
  accepted_room_v2 = go (eqb r.reader 2) (leb r.given 1) (eqb r.given 1) (leb r.samples s) (leb 128 s) (leb 2048 o) refl refl refl refl
    where
      go : (x y g a b c : Bool) → eqb r.given 1 ≡ g → leb r.samples s ≡ a → leb 128 s ≡ b → leb 2048 o ≡ c
          → ◌≡◌ {A = ℕ} (cond (x && y && (g || a)) (cond (b && c) 0 19) 1) 0 → (128 ≤ s) × (2048 ≤ o) × (r.given ≡ 0 → r.samples ≤ s)
      go true true true a true true p q t u e = (leb-true 128 s t, leb-true 2048 o u, λ (z : r.given ≡ 0). none (omega (arith, z, eqb-true r.given 1 p)))
      go true true false true true true p q t u e = (leb-true 128 s t, leb-true 2048 o u, λ (z : r.given ≡ 0). leb-true r.samples s q)
      go true true true a true false p q t u e = none (omega (arith, e))
      go true true true a false c p q t u e = none (omega (arith, e))
      go true true false true true false p q t u e = none (omega (arith, e))
      go true true false true false c p q t u e = none (omega (arith, e))
      go true true false false b c p q t u e = none (omega (arith, e))
      go true false g a b c p q t u e = none (omega (arith, e))
      go false y g a b c p q t u e = none (omega (arith, e))

-- ---- a step

module _ (r : CableowlReplay) (bs : List ℕ) (ended : ℕ) (snd given : List Float) (sounds : ℕ) (out : List Float) where
  abbrev k : ℕ
  k = refused_step_v2 r (length snd) (length out)

  abbrev step : StepC
  step = stepped_v2 r bs ended snd given sounds out

  pub step_refused_v2 : (x : Refusal) (p : CableowlReplayed) → number x ≡ k → p ≡ unplayed r 4 (number x) → only p snd out ≡ step
  unfolding stepped_v2
  step_refused_v2 x p e f = ap (λ (a : CableowlReplayed). only a snd out) (f ∙ ap (unplayed r 4) e) ∙ rw (ap (λ (n : ℕ). eqb n 0) (sym e) ∙ number_eqb x) refl

  step_begun : k ≡ 0 → begun_v2 r ended bs snd given sounds out ≡ step
  unfolding stepped_v2
  step_begun h = rw (eq-eqb k 0 h) refl

  pub step_empty_v2 : (p : CableowlReplayed) → k ≡ 0 → length bs ≡ 0 → p ≡ cond (eqb ended 0) (unplayed r 1 0) (unplayed r 2 0) → only p snd out ≡ step
  unfolding begun begun_v2
  step_empty_v2 p h l f = go bs l ∙ step_begun h
    where
      go : (l : List ℕ) → length l ≡ 0 → only p snd out ≡ begun_v2 r ended l snd given sounds out
      go [] q = ap (λ (a : CableowlReplayed). only a snd out) f
      go (b ∷ l) q = none (omega (arith, q))

  -- the record that some bytes begin with
  some_judged : (length bs ≡ 0 → ⊥) → (d : Record) → d ≡ any_at bs 0 → judged_v2 r ended d bs snd given sounds out ≡ begun_v2 r ended bs snd given sounds out
  unfolding begun_v2
  some_judged h d f = go bs h f
    where
      go : (l : List ℕ) → (length l ≡ 0 → ⊥) → d ≡ any_at l 0 → judged_v2 r ended d l snd given sounds out ≡ begun_v2 r ended l snd given sounds out
      go [] q g = none (q refl)
      go (b ∷ l) q g = ap (λ (x : Record). judged_v2 r ended x (b ∷ l) snd given sounds out) g

  module _ (d : Record) (h : k ≡ 0) (l : length bs ≡ 0 → ⊥) (f : d ≡ any_at bs 0) where
    as_judged : (s : StepC) → s ≡ judged_v2 r ended d bs snd given sounds out → s ≡ step
    as_judged s g = g ∙ some_judged l d f ∙ step_begun h

    pub step_lacking : (x : Refusal) (p : CableowlReplayed) → d.refusal ≡ 0 → number x ≡ lacking r d sounds (length given) → p ≡ unplayed r 4 (number x) → only p snd out ≡ step
    unfolding judged_v2
    step_lacking x p z m g =
        as_judged (only p snd out)
        (ap (λ (a : CableowlReplayed). only a snd out) g
        ∙ subst (λ (n : ℕ). only (unplayed r 4 (number x)) snd out ≡ cond (eqb n 0) (played_record_v2 r d bs snd given sounds out) (only (unplayed r 4 n) snd out)) m (rw (number_eqb x) refl)
        ∙ rw (eq-eqb d.refusal 0 z) refl)

    pub step_played_v2 : (s : StepC) → d.refusal ≡ 0 → lacking r d sounds (length given) ≡ 0 → s ≡ played_record_v2 r d bs snd given sounds out → s ≡ step
    unfolding judged_v2
    step_played_v2 s z m g = as_judged s (g ∙ rw (eq-eqb d.refusal 0 z, eq-eqb (lacking r d sounds (length given)) 0 m) refl)

    pub step_unread_v2 : (x : Refusal) (p : CableowlReplayed) → d.refusal ≡ number x → p ≡ unread r ended (number x) → only p snd out ≡ step
    unfolding judged judged_v2
    step_unread_v2 x p z g = as_judged (only p snd out) (ap (λ (a : CableowlReplayed). only a snd out) g ∙ rw (z, number_eqb x) refl)
