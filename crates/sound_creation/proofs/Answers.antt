-- The result of creation, by whether it is refused. Assumes nothing.
use mathlib.Core.Path.{◌≡◌, refl, ap}
use Prim.Native.Nat.{ℕ}
use mathlib.Core.Bool.{Bool, true, false, cond}
use mathlib.Core.List.{List}
use lib.Dec.{eqb}
use lib.ListN.{length}
use lib.Ieee.{Float}
use borrow.Author.Tests.{eqb-true}
use Rattle.sound_creation.specs.declared.Settings.{Settings}
use Rattle.sound_creation.specs.Creation.{refused_new, made, blank_sound, created}

module _ (snd : List Float) (s : Settings) where
  pub created_passed : (created snd s).refusal ≡ 0 → refused_new (length snd) s ≡ 0
  unfolding created
  created_passed e = e

  pub created_done : refused_new (length snd) s ≡ 0 → (created snd s).voice ≡ made snd s
  unfolding created
  created_done e = ap (λ (k : ℕ). cond (eqb k 0) (made snd s) blank_sound) e

  pub created_refused : ((created snd s).refusal ≡ 0 → ⊥) → (created snd s).voice ≡ blank_sound
  unfolding created
  created_refused h = go (eqb (refused_new (length snd) s) 0) refl
    where
      go : (b : Bool) → eqb (refused_new (length snd) s) 0 ≡ b → cond b (made snd s) blank_sound ≡ blank_sound
      go true t = absurd (h (eqb-true (refused_new (length snd) s) 0 t))
      go false t = refl
