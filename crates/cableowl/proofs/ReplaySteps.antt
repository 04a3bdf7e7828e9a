-- What a step of a replay returns, from the results of the calls below it. Assumes nothing.
use Rattle.std.specs.Prelude.{Result, Ok, Err}
use mathlib.Core.Path.{◌≡◌, refl, sym, ap, ◌∙◌, subst}
use Prim.Native.Nat.{ℕ, ◌+◌, ◌-◌, ◌*◌, ◌/◌, ◌≤◌}
use native.Mathlib.Omega.{arith}
use mathlib.Core.Bool.{Bool, true, false, cond, ◌&&◌}
use mathlib.Core.List.{List, [], ◌∷◌, ◌++◌}
use lib.Dec.{eqb, leb}
use lib.ListN.{length, take, drop, get_or}
use lib.Seq.{sets, sets-eq, take_at, length-sets, length-take-le}
use lib.Ieee.{Float}
use borrow.Author.Tests.{eq-eqb, ne_eqb, leb-true}
use Rattle.sound_held.specs.declared.Held.{Held}
use Rattle.sound_held.specs.Held.{held_lanes}
use Rattle.sound_state.specs.declared.StaticSound.{StaticSound}
use Rattle.refusals.specs.declared.Refusal.{Refusal}
use Rattle.refusals.specs.Numbers.{number, number_of}
use Rattle.refusals.proofs.Numbers.{number_eqb, number_not_0}
use Rattle.sound_creation.specs.Creation.{blank_sound}
use Rattle.sound_slow_path.specs.declared.Processed.{Processed}
use Rattle.sound_slow_path.specs.Plays.{BlockAnswer, Outcome}
use Rattle.static_sound.specs.Entries.{processed, block_answer}
use Rattle.trace_inputs.specs.declared.Block.{Block}
use Rattle.trace_inputs.specs.Inputs.{settings_of, samples_of, commands_of, block_of, held_of}
use Rattle.trace_inputs.proofs.Samples.{at_most_le, all_samples}
use Rattle.trace_records.specs.Records.{Record, record_at}
use Rattle.c_state.specs.declared.CableowlState.{CableowlState}
use Rattle.c_state.specs.Records.{decoded, encoded}
use Rattle.cableowl.specs.declared.replays.CableowlReplay.{CableowlReplay}
use Rattle.cableowl.specs.declared.replays.CableowlReplayed.{CableowlReplayed}
use Rattle.cableowl.specs.Replays.{unplayed, StepC, creation_over, creation_c, commands_c, lanes_of, block_outcome, block_c, block_step, played_record, judged, begun, refused_step, stepped_c}
use Rattle.cableowl.specs.ReplaysV2.{of_kind}
use Rattle.cableowl.proofs.Few.{count_of}
use Rattle.cableowl.proofs.Answers.{Few, block_few, block_low}

none : {A : Type 0} → ⊥ → A
none e = elim e [ ]

-- ---- parts of borrowed buffers

-- what was written to the start of a buffer with enough space
pub prefix : {A : Type 0} (l new t : List A) (r : ℕ) → new ≡ sets l 0 t → r ≡ length t → length t ≤ length l → take r new ≡ t
prefix {A} l new t r e q h =
    let z : 0 + length t ≤ length l = omega arith in
    ap {B = List A} (λ u. take r u) (e ∙ sets-eq t l 0 z) ∙ take_at t (drop (0 + length t) l) r (sym q)

pub inside : {A : Type 0} (l new t : List A) (r : ℕ) → new ≡ sets l 0 t → r ≡ length t → length t ≤ 128 → 128 ≤ length l → r ≤ length new
inside l new t r e q h k = let z : length new ≡ length l = ap length e ∙ simp length-sets in omega (arith, z)

pub part_long : {A : Type 0} (n : ℕ) (l : List A) → n ≤ length l → n ≡ length (take n l)
part_long n l h = sym (length-take-le n l h)

pub few_samples : (vs : List ℕ) → 77 ≤ length vs → length (samples_of vs) ≤ 128
few_samples vs h = omega (arith, all_samples vs h, at_most_le 64 (get_or vs 12 0))

pub few_frames : (vs : List ℕ) (b : Block) → b ≡ block_of vs → b.frames ≤ 1024
unfolding block_of
few_frames vs b e = omega (arith, ap (λ (x : Block). x.frames) e, at_most_le 1024 (get_or vs 0 0))

-- ---- before any record

pub blank_few : (v : StaticSound) → v ≡ blank_sound → count_of v ≤ 4
blank_few v e = rw e (omega arith)

-- ---- the three kinds

pub creation_is : (r : CableowlReplay) (n : ℕ) (vs : List ℕ) → creation_over (samples_of vs) 1 r n vs ≡ creation_c r n vs
unfolding creation_over creation_c
creation_is r n vs = refl

pub counted_is : (r : CableowlReplay) (n frames : ℕ) (a : BlockAnswer) → of_kind 3 (block_c r n frames a) ≡ block_c r n frames a
unfolding block_c
counted_is r n frames a = refl

-- a block with held lanes is the block of its lanes
abbrev as_given : List Float → StaticSound → Block → Held → List Float → Outcome
as_given x v b h part = processed x v b.time_step (held_lanes h (length part / 2)) b.signals part

module _ (x out : List Float) (c : CableowlState) (b : Block) (v : StaticSound) (h : Held) (q : Result Processed Refusal) (part : List Float)
    (hv : v ≡ decoded c) (hh : h ≡ held_of b) (room : 2 * b.frames ≤ length out)
    (f : record { answer = block_answer v q; samples = part } ≡ as_given x v b h (take (2 * b.frames) out)) where
  abbrev answered : StaticSound → Outcome
  answered u = record { answer = block_answer u q; samples = part }

  pub held_outcome : answered (decoded c) ≡ block_outcome x c b (take (2 * b.frames) out)
  held_outcome =
      let l : length (take (2 * b.frames) out) / 2 ≡ b.frames = omega (arith, length-take-le (2 * b.frames) out room) in
      subst (λ (u : StaticSound). answered u ≡ as_given x u b h (take (2 * b.frames) out)) hv f ∙ rw (hh, l)

  pub held_few : Few q
  held_few = block_few (decoded c) _ q part (block_low x (decoded c) b.time_step (lanes_of b) b.signals (take (2 * b.frames) out)) held_outcome

module _ (r : CableowlReplay) (n : ℕ) (vs : List ℕ) (snd out : List Float) where
  abbrev step_of : Block → Outcome → StepC
  step_of b o = record { answer = block_c r n b.frames o.answer; sound = snd; samples = o.samples ++ drop (2 * b.frames) out }

  pub block_is : (b : Block) (q : BlockAnswer) (part : List Float) (p : CableowlReplayed) → b ≡ block_of vs → p ≡ block_c r n b.frames q
      → record { answer = q; samples = part } ≡ block_outcome (take r.samples snd) r.voice b (take (2 * b.frames) out)
      → record { answer = p; sound = snd; samples = part ++ drop (2 * b.frames) out } ≡ block_step r n vs snd out
  unfolding block_step
  block_is b q part p hb hp f =
      ap (λ (a : CableowlReplayed). record { answer = a; sound = snd; samples = part ++ drop (2 * b.frames) out }) hp
      ∙ ap (step_of b) f
      ∙ ap (λ (z : Block). step_of z (block_outcome (take r.samples snd) r.voice z (take (2 * z.frames) out))) hb

-- ---- by the kind

module _ (r : CableowlReplay) (d : Record) (snd out : List Float) where
  pub turned_creation : (p : CableowlReplayed) (x : List Float) → d.kind ≡ 1 → p ≡ creation_c r d.next d.values → x ≡ sets snd 0 (samples_of d.values)
      → record { answer = p; sound = x; samples = out } ≡ played_record r d snd out
  unfolding played_record
  turned_creation p x k e f =
      ap (λ (a : CableowlReplayed). record { answer = a; sound = x; samples = out }) e
      ∙ ap (λ (y : List Float). record { answer = creation_c r d.next d.values; sound = y; samples = out }) f
      ∙ rw (eq-eqb d.kind 1 k) refl

  pub turned_commands : (p : CableowlReplayed) → (d.kind ≡ 1 → ⊥) → d.kind ≡ 2 → p ≡ commands_c (take r.samples snd) r d.next d.values
      → record { answer = p; sound = snd; samples = out } ≡ played_record r d snd out
  unfolding played_record
  turned_commands p j k e =
      ap (λ (a : CableowlReplayed). record { answer = a; sound = snd; samples = out }) e
      ∙ rw (ne_eqb d.kind 1 j, eq-eqb d.kind 2 k) refl

  pub turned_block : (s : StepC) → (d.kind ≡ 1 → ⊥) → (d.kind ≡ 2 → ⊥) → s ≡ block_step r d.next d.values snd out → s ≡ played_record r d snd out
  unfolding played_record
  turned_block s j k e = e ∙ rw (ne_eqb d.kind 1 j, ne_eqb d.kind 2 k) refl

-- ---- the number of a refused call

module _ (r : CableowlReplay) (s o : ℕ) where
  abbrev of_replay : Bool
  of_replay = eqb r.reader 1 && eqb r.given 0 && leb r.samples s

  abbrev has_room : Bool
  has_room = leb 128 s && leb 2048 o

  pub number_1 : of_replay ≡ false → 1 ≡ refused_step r s o
  unfolding refused_step
  number_1 h = rw (h) refl

  pub number_room : of_replay ≡ true → cond has_room 0 19 ≡ refused_step r s o
  unfolding refused_step
  number_room h = rw (h) refl

  pub accepted_room : refused_step r s o ≡ 0 → (128 ≤ s) × (r.samples ≤ s) × (2048 ≤ o)
  unfolding refused_step
  accepted_room = go (eqb r.reader 1) (eqb r.given 0) (leb r.samples s) (leb 128 s) (leb 2048 o) refl refl refl
    where
      go : (x y a b c : Bool) → leb r.samples s ≡ a → leb 128 s ≡ b → leb 2048 o ≡ c → ◌≡◌ {A = ℕ} (cond (x && y && a) (cond (b && c) 0 19) 1) 0
          → (128 ≤ s) × (r.samples ≤ s) × (2048 ≤ o)
      go true true true true true p q t e = (leb-true 128 s q, leb-true r.samples s p, leb-true 2048 o t)
      go true true true true false p q t e = none (omega (arith, e))
      go true true true false c p q t e = none (omega (arith, e))
      go true true false b c p q t e = none (omega (arith, e))
      go true false a b c p q t e = none (omega (arith, e))
      go false y a b c p q t e = none (omega (arith, e))

-- ---- a step

abbrev only : CableowlReplayed → List Float → List Float → StepC
only p snd out = record { answer = p; sound = snd; samples = out }

-- a call that is refused, or accepted
pub called_err : (q : Result (Unit {0}) Refusal) (x : Refusal) (k : ℕ) → number_of q ≡ k → q ≡ Err x → number x ≡ k
called_err q x k e f = ap number_of (sym f) ∙ e

pub called_ok : (q : Result (Unit {0}) Refusal) (x : Unit {0}) (k : ℕ) → number_of q ≡ k → q ≡ Ok x → k ≡ 0
called_ok q x k e f = sym e ∙ ap number_of f

-- the answer to a record that is refused
abbrev pub unread : CableowlReplay → ℕ → ℕ → CableowlReplayed
unread r ended k = cond (eqb k 18 && eqb ended 0) (unplayed r 1 0) (unplayed r 3 k)

module _ (r : CableowlReplay) (bs : List ℕ) (ended : ℕ) (snd out : List Float) where
  abbrev k : ℕ
  k = refused_step r (length snd) (length out)

  pub step_refused : (x : Refusal) (p : CableowlReplayed) → number x ≡ k → p ≡ unplayed r 4 (number x) → only p snd out ≡ stepped_c r bs ended snd out
  unfolding stepped_c
  step_refused x p e f = ap (λ (a : CableowlReplayed). only a snd out) (f ∙ ap (unplayed r 4) e) ∙ rw (ap (λ (n : ℕ). eqb n 0) (sym e) ∙ number_eqb x) refl

  step_begun : k ≡ 0 → begun r ended bs snd out ≡ stepped_c r bs ended snd out
  unfolding stepped_c
  step_begun h = rw (eq-eqb k 0 h) refl

  pub step_empty : (p : CableowlReplayed) → k ≡ 0 → length bs ≡ 0 → p ≡ cond (eqb ended 0) (unplayed r 1 0) (unplayed r 2 0)
      → only p snd out ≡ stepped_c r bs ended snd out
  unfolding begun
  step_empty p h l f = go bs l ∙ step_begun h
    where
      go : (l : List ℕ) → length l ≡ 0 → only p snd out ≡ begun r ended l snd out
      go [] q = ap (λ (a : CableowlReplayed). only a snd out) f
      go (b ∷ l) q = none (omega (arith, q))

  -- the record that some bytes begin with
  some_judged : (length bs ≡ 0 → ⊥) → (d : Record) → d ≡ record_at bs 0 → judged r ended d snd out ≡ begun r ended bs snd out
  unfolding begun
  some_judged h d f = go bs h f
    where
      go : (l : List ℕ) → (length l ≡ 0 → ⊥) → d ≡ record_at l 0 → judged r ended d snd out ≡ begun r ended l snd out
      go [] q g = none (q refl)
      go (b ∷ l) q g = ap (λ (x : Record). judged r ended x snd out) g

  module _ (d : Record) (h : k ≡ 0) (l : length bs ≡ 0 → ⊥) (f : d ≡ record_at bs 0) where
    as_judged : (s : StepC) → s ≡ judged r ended d snd out → s ≡ stepped_c r bs ended snd out
    as_judged s g = g ∙ some_judged l d f ∙ step_begun h

    pub step_played : (s : StepC) → d.refusal ≡ 0 → s ≡ played_record r d snd out → s ≡ stepped_c r bs ended snd out
    unfolding judged
    step_played s z g = as_judged s (g ∙ rw (eq-eqb d.refusal 0 z) refl)

    pub step_unread : (x : Refusal) (p : CableowlReplayed) → d.refusal ≡ number x → p ≡ unread r ended (number x)
        → only p snd out ≡ stepped_c r bs ended snd out
    unfolding judged
    step_unread x p z g =
        as_judged (only p snd out) (ap (λ (a : CableowlReplayed). only a snd out) g ∙ rw (z, number_eqb x) refl)
