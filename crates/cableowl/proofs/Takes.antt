-- A voice that took a slot's loop: if accepted, it is well formed over its sound, so its count fits; and what the entry returns. Assumes nothing.
use Rattle.std.specs.Prelude.{Result, IfOk}
use Rattle.refusals.specs.declared.Refusal.{Refusal}
use mathlib.Core.Path.{◌≡◌, refl, ap, ◌∙◌, subst}
use Prim.Native.Nat.{ℕ, ◌≤◌}
use mathlib.Core.Bool.{Bool, true, false, cond}
use mathlib.Core.List.{List}
use lib.Dec.{T, eqb}
use lib.ListN.{length}
use lib.Ieee.{Float}
use borrow.Author.Tests.{eqb-false}
use Rattle.numbers.specs.Words.{positive_zero}
use Rattle.sound_state.specs.declared.StaticSound.{StaticSound}
use Rattle.sound_state.specs.WellFormed.{well_formed_for}
use Rattle.sound_commands.specs.declared.Commanded.{Commanded}
use Rattle.sound_commands.specs.Commands.{CommandsAnswer, commands_answer, commanded}
use Rattle.loop_table.specs.declared.LoopTable.{LoopTable}
use Rattle.loop_table.specs.Tables.{found}
use Rattle.take_loop.specs.Taking.{loop_command_of, taken}
use Rattle.c_state.specs.declared.CableowlState.{CableowlState}
use Rattle.cableowl.specs.declared.CableowlCommanded.{CableowlCommanded}
use Rattle.c_state.specs.Records.{decoded}
use Rattle.cableowl.specs.Entries.{commanded_as}
use Rattle.cableowl.specs.Loops.{taken_c}
use Rattle.cableowl.proofs.Answers.{few_if}
use Rattle.cableowl.proofs.Few.{count_of, well_formed_for_few, commanded_well_formed_for}

module _ (snd : List Float) (t : LoopTable) (k : ℕ) where
  taken_well_formed_for : (v : StaticSound) → (taken snd t k v).refusal ≡ 0 → T (well_formed_for (length snd) (taken snd t k v).voice)
  unfolding taken
  taken_well_formed_for v = go (eqb n 0) refl
    where
      n : ℕ
      n = (found t k).refusal

      go : (b : Bool) → eqb n 0 ≡ b
          → let r = cond {A = CommandsAnswer} b (commanded snd v (loop_command_of (found t k).slot)) (record { refusal = n; voice = v; position = positive_zero }) in
          r.refusal ≡ 0 → T (well_formed_for (length snd) r.voice)
      go true e z = commanded_well_formed_for snd v (loop_command_of (found t k).slot) z
      go false e z = absurd (eqb-false n 0 e z)

  pub take_few : (v : StaticSound) (r : Result Commanded Refusal) → commands_answer v r ≡ taken snd t k v → IfOk r (λ d. count_of d.voice ≤ 4)
  take_few v r f = few_if v (taken snd t k v) r (λ z. well_formed_for_few (length snd) _ (taken_well_formed_for v z)) f

  pub take_is : (c : CableowlState) (v : StaticSound) (r : Result Commanded Refusal) (b : CableowlCommanded) → v ≡ decoded c → commands_answer v r ≡ taken snd t k v
      → b ≡ commanded_as (commands_answer (decoded c) r) c → b ≡ taken_c snd t k c
  unfolding taken_c
  take_is c v r b d f g = g ∙ ap (λ (a : CommandsAnswer). commanded_as a c) (subst (λ (w : StaticSound). commands_answer w r ≡ taken snd t k w) d f)
