-- A buffer filled from its start with one value.
use mathlib.Core.Path.{◌≡◌, refl, sym, ap, ◌∙◌}
use mathlib.Core.List.{List, [], ◌∷◌, ◌++◌}
use Prim.Native.Nat.{ℕ, suc, ◌+◌, ◌*◌, ◌<◌}
use native.Mathlib.Numerals.{add-one}
use native.Mathlib.Omega.{arith}
use lib.ListN.{length, take, set, replicate, replicate-append-replicate}
use lib.Seq.{take-suc-set, take_all}
use lib.Ieee.{Float}
use Rattle.numbers.specs.Words.{positive_zero}
use Rattle.sound_lanes.specs.Lanes.{Lane}
use Rattle.sound_block.specs.Blocks.{zeros}

-- a silent block's samples are that many positive zeros
pub zeros_filled : (ls : List Lane) → zeros ls ≡ replicate (2 * length ls) positive_zero
unfolding zeros
zeros_filled [] = refl
zeros_filled (l ∷ ls) = ap (λ (r : List Float). positive_zero ∷ positive_zero ∷ r) (zeros_filled ls) ∙ ap (λ (n : ℕ). replicate n positive_zero) (two (length ls))
  where
    two : (n : ℕ) → suc (suc (2 * n)) ≡ 2 * suc n
    two n = omega arith
