-- What each entry returns, from the result of the function below it and from the translations. Assumes nothing.
use Rattle.std.specs.Prelude.{Result, Ok, Err, IfOk}
use Rattle.std.specs.Result.{result_unwrap_or}
use mathlib.Core.Path.{◌≡◌, refl, sym, ap, ◌∙◌, subst}
use Prim.Native.Nat.{ℕ, ◌≤◌}
use mathlib.Core.List.{List}
use lib.ListN.{length}
use lib.Ieee.{Float}
use Rattle.refusals.specs.declared.Refusal.{Refusal}
use Rattle.refusals.specs.Numbers.{number, number_of}
use Rattle.refusals.proofs.Numbers.{number_eqb}
use Rattle.sound_lanes.specs.Lanes.{Lanes}
use Rattle.sound_state.specs.declared.StaticSound.{StaticSound}
use Rattle.sound_creation.specs.Creation.{blank_sound, created_of}
use Rattle.sound_commands.specs.declared.Commands.{Commands}
use Rattle.sound_commands.specs.declared.Commanded.{Commanded}
use Rattle.sound_commands.specs.Commands.{CommandsAnswer, commands_answer, commanded}
use Rattle.sound_block.specs.declared.Signals.{Signals}
use Rattle.sound_slow_path.specs.declared.Processed.{Processed}
use Rattle.sound_slow_path.specs.Plays.{BlockAnswer, Outcome}
use Rattle.static_sound.specs.Entries.{processed, processed_into, block_answer}
use Rattle.c_state.specs.declared.CableowlState.{CableowlState}
use Rattle.c_inputs.specs.declared.CableowlSignals.{CableowlSignals}
use Rattle.cableowl.specs.declared.CableowlProcessed.{CableowlProcessed}
use Rattle.c_state.specs.Records.{decoded, encoded}
use Rattle.c_inputs.specs.Inputs.{signals_of}
use Rattle.cableowl.specs.Entries.{after, commanded_as, answered, OutcomeC, processed_c, processed_into_c}
use Rattle.cableowl.proofs.Few.{count_of, well_formed_for_few, commanded_well_formed_for, processed_well_formed_for, into_well_formed_for, processed_low, into_low}

-- ---- the state to return

pub after_accepted : (v : StaticSound) (c : CableowlState) → encoded v ≡ after 0 v c
unfolding after
after_accepted v c = refl

pub after_refused : (k : Refusal) (v : StaticSound) (c : CableowlState) → c ≡ after (number k) v c
unfolding after
after_refused k v c = rw (number_eqb k) refl

-- ---- creation

pub made_is : (r : Result StaticSound Refusal) (b : StaticSound) (p : StaticSound × ℕ) → b ≡ blank_sound → p ≡ (result_unwrap_or r b, number_of r)
    → (p.0 ≡ (created_of r).voice) × (p.1 ≡ (created_of r).refusal)
made_is (Ok v) b p e f = (ap (λ (q : StaticSound × ℕ). q.0) f, ap (λ (q : StaticSound × ℕ). q.1) f)
made_is (Err k) b p e f = (ap (λ (q : StaticSound × ℕ). q.0) f ∙ e, ap (λ (q : StaticSound × ℕ). q.1) f)

-- ---- commands

abbrev pub FewAfter : CommandsAnswer → Type 0
FewAfter a = a.refusal ≡ 0 → count_of a.voice ≤ 4

pub few_if : (v : StaticSound) (a : CommandsAnswer) (r : Result Commanded Refusal) → FewAfter a → commands_answer v r ≡ a → IfOk r (λ d. count_of d.voice ≤ 4)
few_if v a (Ok d) h f = subst FewAfter (sym f) h refl
few_if v a (Err k) h f = tt

pub commands_few : (snd : List Float) (v : StaticSound) (u : Commands) (r : Result Commanded Refusal) → commands_answer v r ≡ commanded snd v u
    → IfOk r (λ d. count_of d.voice ≤ 4)
commands_few snd v u r f = few_if v (commanded snd v u) r (λ z. well_formed_for_few (length snd) _ (commanded_well_formed_for snd v u z)) f

pub commands_are : (snd : List Float) (c : CableowlState) (v : StaticSound) (u : Commands) (r : Result Commanded Refusal) → v ≡ decoded c
    → commands_answer v r ≡ commanded snd v u → commanded_as (commands_answer (decoded c) r) c ≡ commanded_as (commanded snd (decoded c) u) c
commands_are snd c v u r d f = ap (λ (a : CommandsAnswer). commanded_as a c) (subst (λ (w : StaticSound). commands_answer w r ≡ commanded snd w u) d f)

-- ---- blocks

abbrev pub Low : Outcome → Type 0
Low o = (o.answer.refusal ≡ 0 → count_of o.answer.voice ≤ 4) × (o.answer.lowest_count ≤ 4)

abbrev pub Few : Result Processed Refusal → Type 0
Few r = IfOk r (λ p. (count_of p.voice ≤ 4) × (p.lowest_count ≤ 4))

pub block_few : (v : StaticSound) (o : Outcome) (r : Result Processed Refusal) (samples : List Float) → Low o
    → record { answer = block_answer v r; samples = samples } ≡ o → Few r
block_few v o (Ok p) samples h f = let l = subst Low (sym f) h in (l.0 refl, l.1)
block_few v o (Err k) samples h f = tt

module _ (snd : List Float) (v : StaticSound) (dt : Float) (b : Lanes) (w : Signals) where
  pub block_low : (out : List Float) → Low (processed snd v dt b w out)
  block_low out = (λ z. well_formed_for_few (length snd) _ (processed_well_formed_for snd v dt b w out z), processed_low snd v dt b w out)

  pub mix_low : (mix : List Float) (from : ℕ) → Low (processed_into snd v dt b w mix from)
  mix_low mix from = (λ z. well_formed_for_few (length snd) _ (into_well_formed_for snd v dt b w mix from z), into_low snd v dt b w mix from)

module _ (snd : List Float) (c : CableowlState) (dt : Float) (b : Lanes) (g : CableowlSignals) (v : StaticSound) (w : Signals)
    (d : v ≡ decoded c) (e : w ≡ signals_of g) (r : Result Processed Refusal) (samples : List Float) where
  abbrev pub given : StaticSound → Outcome
  given u = record { answer = block_answer u r; samples = samples }

  abbrev pub told : CableowlProcessed → OutcomeC
  told a = record { answer = a; samples = samples }

  abbrev pub as_c : Outcome → OutcomeC
  as_c o = record { answer = answered o.answer c; samples = o.samples }

  pub block_is : (out : List Float) → given v ≡ processed snd v dt b w out → (a : CableowlProcessed) → a ≡ answered (block_answer (decoded c) r) c
      → told a ≡ processed_c snd c dt b g out
  unfolding processed_c
  block_is out f a h = ap told h ∙ ap as_c (subst (λ (u : StaticSound). given u ≡ processed snd u dt b w out) d f) ∙ rw e

  pub mix_is : (mix : List Float) (from : ℕ) → given v ≡ processed_into snd v dt b w mix from → (a : CableowlProcessed)
      → a ≡ answered (block_answer (decoded c) r) c → told a ≡ processed_into_c snd c dt b g mix from
  unfolding processed_into_c
  mix_is mix from f a h = ap told h ∙ ap as_c (subst (λ (u : StaticSound). given u ≡ processed_into snd u dt b w mix from) d f) ∙ rw e
