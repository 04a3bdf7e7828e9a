-- `take_loop::take` meets its contract: the table's refusal, or the command set's result for the loop of the slot. Assumes nothing.
use mathlib.Core.Path.{◌≡◌, ap, ◌∙◌}
use Prim.Native.Nat.{ℕ}
use mathlib.Core.List.{List}
use lib.Ieee.{Float, of_bits}
use Rattle.std.proofs.lemmas.Result.{err_from_is_err_and}
use Rattle.numbers.specs.Words.{positive_zero}
use Rattle.refusals.specs.declared.Refusal.{Refusal}
use Rattle.refusals.specs.Numbers.{number}
use Rattle.refusals.proofs.Numbers.{number_eqb}
use Rattle.sound_state.specs.declared.StaticSound.{StaticSound}
use Rattle.sound_commands.specs.declared.Commands.{Commands}
use Rattle.sound_commands.specs.Commands.{CommandsAnswer, commanded}
use Rattle.loop_table.specs.declared.LoopSlot.{LoopSlot}
use Rattle.loop_table.specs.declared.LoopTable.{LoopTable}
use Rattle.loop_table.specs.Tables.{LoopFound, empty, found}
use Rattle.take_loop.specs.Taking.{loop_command_of, taken}
use Rattle.take_loop.proofs.take.Goals as goal

module _ (snd : List Float) (t : LoopTable) (k : ℕ) (v : StaticSound) where
  refused : (r : Refusal) → ◌≡◌ {A = LoopFound} (record { slot = empty; refusal = number r }) (found t k)
      → ◌≡◌ {A = CommandsAnswer} (record { refusal = number r; voice = v; position = positive_zero }) (taken snd t k v)
  unfolding taken
  refused r e = rw (← e, number_eqb r)

  set : (s : LoopSlot) (c : Commands) (a : CommandsAnswer) → ◌≡◌ {A = LoopFound} (record { slot = s; refusal = 0 }) (found t k) → c ≡ loop_command_of s → a ≡ commanded snd v c → a ≡ taken snd t k v
  unfolding taken
  set s c a e o p = rw (← e) (p ∙ ap (commanded snd v) o)

pub returns-in_err-held : goal.returns-in_err-held
unfolding of_bits
returns-in_err-held c =
    let p = err_from_is_err_and c.from_residual.result c.from_residual.ensures.1 in
    rw (p.1, p.2) (refused _ _ _ _ _ c.in_err-held.ensures)

pub returns : goal.returns
returns c = set _ _ _ _ _ _ _ c.in_ok-held.ensures c.loop_command.ensures c.on_start_processing.ensures
