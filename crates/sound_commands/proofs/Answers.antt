-- The result of a command set, by whether it is refused. Assumes nothing.
use mathlib.Core.Path.{◌≡◌, refl}
use Prim.Native.Nat.{ℕ}
use mathlib.Core.List.{List}
use lib.ListN.{length}
use lib.Ieee.{Float}
use Rattle.numbers.specs.Words.{positive_zero}
use Rattle.sound_state.specs.declared.StaticSound.{StaticSound}
use Rattle.sound_commands.specs.declared.Commands.{Commands}
use Rattle.sound_commands.specs.Commands.{CommandsAnswer, refused_set, obeyed, reported, commanded}
use Rattle.sound_state.proofs.Refusals.{none_refused, some_refused, accepted}

-- a command set's two outcomes
abbrev obeying : List Float → StaticSound → Commands → CommandsAnswer
obeying snd v c = record { refusal = 0; voice = obeyed snd c v; position = reported v }

abbrev refusing : ℕ → StaticSound → CommandsAnswer
refusing k v = record { refusal = k; voice = v; position = positive_zero }

module _ (snd : List Float) (v : StaticSound) (c : Commands) where
  pub commanded_passed : (commanded snd v c).refusal ≡ 0 → refused_set (length snd) v c ≡ 0
  unfolding commanded
  commanded_passed e =
      let k = refused_set (length snd) v c in
      none_refused (λ (a : CommandsAnswer). a.refusal) k (obeying snd v c) (refusing k v) refl e

  pub commanded_done : refused_set (length snd) v c ≡ 0 → commanded snd v c ≡ obeying snd v c
  unfolding commanded
  commanded_done e =
      let k = refused_set (length snd) v c in
      accepted (λ (a : CommandsAnswer). a.refusal) k (obeying snd v c) (refusing k v) e

  pub commanded_refused : ((commanded snd v c).refusal ≡ 0 → ⊥) → commanded snd v c ≡ refusing (refused_set (length snd) v c) v
  unfolding commanded
  commanded_refused h =
      let k = refused_set (length snd) v c in
      some_refused (λ (a : CommandsAnswer). a.refusal) k (obeying snd v c) (refusing k v) refl h
