-- What every call over records returns. An accepted one returns a well formed record of a state that is well formed over the sound; a refused one returns the given record.
-- By the laws of the entries below, and since every voice's record is well formed and represents it. Assumes nothing.
use mathlib.Core.Path.{◌≡◌, sym, ap, subst}
use Prim.Native.Nat.{ℕ}
use mathlib.Core.List.{List}
use lib.Dec.{T}
use lib.ListN.{length}
use lib.Ieee.{Float}
use borrow.Author.Tests.{ne_eqb}
use Rattle.numbers.specs.Words.{positive_zero}
use Rattle.sound_lanes.specs.Lanes.{Lanes}
use Rattle.sound_state.specs.declared.StaticSound.{StaticSound}
use Rattle.sound_state.specs.WellFormed.{well_formed_for}
use Rattle.sound_creation.specs.Creation.{blank_sound}
use Rattle.sound_creation.proofs.Answers.{created_passed, created_done, created_refused}
use Rattle.sound_commands.specs.Commands.{CommandsAnswer}
use Rattle.sound_commands.proofs.Answers.{commanded_refused}
use Rattle.sound_slow_path.specs.Plays.{Outcome}
use Rattle.static_sound.proofs.Entries.{processed_refused, into_refused}
use Rattle.c_state.specs.declared.CableowlState.{CableowlState}
use Rattle.c_inputs.specs.declared.CableowlSettings.{CableowlSettings}
use Rattle.c_inputs.specs.declared.CableowlCommands.{CableowlCommands}
use Rattle.c_inputs.specs.declared.CableowlSignals.{CableowlSignals}
use Rattle.c_state.specs.Records.{well_formed_state, decoded, encoded}
use Rattle.c_inputs.specs.Inputs.{settings_of, commands_of, signals_of}
use Rattle.cableowl.specs.Entries.{after, created_c, commanded_c, OutcomeC, processed_c, processed_into_c}
use Rattle.cableowl.proofs.Few.{created_well_formed_for, commanded_well_formed_for, processed_well_formed_for, into_well_formed_for}
use Rattle.c_state.proofs.Inverse.{well_formed_encoded, decoded_encoded}

-- a record that the next call accepts over this sound
abbrev pub Good : List Float → CableowlState → Type 0
Good snd c = T (well_formed_state c) × T (well_formed_for (length snd) (decoded c))

encoded_good : (snd : List Float) (v : StaticSound) → T (well_formed_for (length snd) v) → Good snd (encoded v)
encoded_good snd v h = (well_formed_encoded v, subst (λ (u : StaticSound). T (well_formed_for (length snd) u)) (sym (decoded_encoded v)) h)

-- ---- accepted

after_good : (snd : List Float) (k : ℕ) (v : StaticSound) (c : CableowlState) → k ≡ 0 → T (well_formed_for (length snd) v) → Good snd (after k v c)
unfolding after
after_good snd k v c e h = rw e (encoded_good snd v h)

pub created_kept : (snd : List Float) (s : CableowlSettings) → (created_c snd s).refusal ≡ 0 → Good snd (created_c snd s).state
unfolding created_c
created_kept snd s e =
    let k = created_passed snd (settings_of s) e in
    encoded_good snd _ (subst (λ (u : StaticSound). T (well_formed_for (length snd) u)) (sym (created_done snd (settings_of s) k)) (created_well_formed_for snd (settings_of s) k))

pub commanded_kept : (snd : List Float) (c : CableowlState) (k : CableowlCommands) → (commanded_c snd c k).refusal ≡ 0 → Good snd (commanded_c snd c k).state
unfolding commanded_c
commanded_kept snd c k e = after_good snd _ _ c e (commanded_well_formed_for snd (decoded c) (commands_of k) e)

module _ (snd : List Float) (c : CableowlState) (dt : Float) (b : Lanes) (g : CableowlSignals) where
  pub processed_kept : (out : List Float) → let o = processed_c snd c dt b g out in o.answer.refusal ≡ 0 → Good snd o.answer.state
  unfolding processed_c
  processed_kept out e = after_good snd _ _ c e (processed_well_formed_for snd (decoded c) dt b (signals_of g) out e)

  pub into_kept : (mix : List Float) (from : ℕ) → let o = processed_into_c snd c dt b g mix from in o.answer.refusal ≡ 0 → Good snd o.answer.state
  unfolding processed_into_c
  into_kept mix from e = after_good snd _ _ c e (into_well_formed_for snd (decoded c) dt b (signals_of g) mix from e)

-- ---- refused

after_given : (k : ℕ) (v : StaticSound) (c : CableowlState) → (k ≡ 0 → ⊥) → after k v c ≡ c
unfolding after
after_given k v c n = rw (ne_eqb k 0 n)

pub created_blank : (snd : List Float) (s : CableowlSettings) → ((created_c snd s).refusal ≡ 0 → ⊥) → (created_c snd s).state ≡ encoded blank_sound
unfolding created_c
created_blank snd s n = ap encoded (created_refused snd (settings_of s) n)

pub commanded_given : (snd : List Float) (c : CableowlState) (k : CableowlCommands) → ((commanded_c snd c k).refusal ≡ 0 → ⊥)
    → let r = commanded_c snd c k in (r.state ≡ c) × (r.position ≡ positive_zero)
unfolding commanded_c
commanded_given snd c k n = (
  after_given _ _ c n,
  ap (λ (r : CommandsAnswer). r.position) (commanded_refused snd (decoded c) (commands_of k) n),
)

-- the record, the steps, the count and the samples of a refused block
abbrev pub Given : CableowlState → List Float → OutcomeC → Type 0
Given c out o = (o.answer.state ≡ c) × (o.answer.steps ≡ 0) × (o.answer.lowest_count ≡ 4) × (o.samples ≡ out)

module _ (snd : List Float) (c : CableowlState) (dt : Float) (b : Lanes) (g : CableowlSignals) where
  pub processed_given : (out : List Float) → let o = processed_c snd c dt b g out in (o.answer.refusal ≡ 0 → ⊥) → Given c out o
  unfolding processed_c
  processed_given out n =
      let e = processed_refused snd (decoded c) dt b (signals_of g) out n in
      (after_given _ _ c n, ap (λ (o : Outcome). o.answer.steps) e, ap (λ (o : Outcome). o.answer.lowest_count) e, ap (λ (o : Outcome). o.samples) e)

  pub into_given : (mix : List Float) (from : ℕ) → let o = processed_into_c snd c dt b g mix from in (o.answer.refusal ≡ 0 → ⊥) → Given c mix o
  unfolding processed_into_c
  into_given mix from n =
      let e = into_refused snd (decoded c) dt b (signals_of g) mix from n in
      (after_given _ _ c n, ap (λ (o : Outcome). o.answer.steps) e, ap (λ (o : Outcome). o.answer.lowest_count) e, ap (λ (o : Outcome). o.samples) e)
