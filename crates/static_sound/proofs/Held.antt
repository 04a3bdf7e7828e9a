-- Held lanes are judged as one frame's. Assumes nothing.
use mathlib.Core.Path.{◌≡◌, refl, sym, ap, ap₂, ◌∙◌}
use mathlib.Core.Bool.{Bool, true, false, ◌&&◌, cond}
use Prim.Native.Nat.{ℕ, zero, suc}
use lib.ListN.{replicate}
use lib.Ieee.{Float}
use Rattle.numbers.specs.Lists.{all}
use Rattle.sound_lanes.specs.Lanes.{Lane, rows, laned, near, judged}
use Rattle.sound_held.specs.declared.Held.{Held}
use Rattle.sound_held.specs.Held.{held_lanes}
use Rattle.sound_held.proofs.Once.{lane, rows_once}

-- a number repeated passes where it passes once
all_same : (p : Lane → Bool) (z : Lane) (n : ℕ) → all p (replicate (suc n) z) ≡ all p (replicate 1 z)
all_same p z zero = refl
all_same p z (suc n) = ap (λ (b : Bool). p z && b) (all_same p z n) ∙ twice (p z)
  where
    twice : (b : Bool) → (b && (b && true)) ≡ (b && true)
    twice true = refl
    twice false = refl

all_once : (p : Lane → Bool) (x : Held) (n : ℕ) → all p (rows (held_lanes x (suc n))) ≡ all p (rows (held_lanes x 1))
all_once p x n = ap (all p) (rows_once x (suc n)) ∙ all_same p (lane x) n

judged_once : (hz : ℕ) (dt : Float) (x : Held) (n : ℕ) → judged hz dt (held_lanes x (suc n)) ≡ judged hz dt (held_lanes x 1)
judged_once hz dt x n = ap₂ (λ (a b : Bool). cond a (cond b 0 12) 11) (all_once laned x n) (all_once (near hz dt) x n)

pub judged_some : (hz : ℕ) (dt : Float) (x : Held) (n : ℕ) → (n ≡ 0 → ⊥) → judged hz dt (held_lanes x 1) ≡ judged hz dt (held_lanes x n)
judged_some hz dt x zero h = absurd (h refl)
judged_some hz dt x (suc n) h = sym (judged_once hz dt x n)
