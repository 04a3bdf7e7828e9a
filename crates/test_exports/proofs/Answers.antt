-- `moved`, by its two tests. Assumes nothing.
use mathlib.Core.Path.{◌≡◌, refl, sym, ap, ap₂, ◌∙◌}
use mathlib.Core.Logic.{◌⊎◌, inl, inr}
use mathlib.Core.Bool.{Bool, true, false, ◌&&◌, cond}
use lib.IntN.{pos}
use lib.Ieee.{Float, fin, binary64, add, le}
use Rattle.numbers.specs.Words.{positive_zero, proper}
use Rattle.numbers.specs.declared.Stepped.{Stepped}
use Rattle.test_exports.specs.declared.Moved.{Moved}
use Rattle.test_exports.specs.Answers.{walked, moved}

-- a leaf's result under the export's type
abbrev pub copied : Stepped → Moved
copied s = record { steps = s.steps; rest = s.fraction }

abbrev pub still : Moved
still = record { steps = 0; rest = positive_zero }

module _ (f a : Float) where
  abbrev low : Bool
  low = le a (fin false 1 (pos 8))

  pub went : proper f ≡ true → low ≡ true → walked (add binary64 f a) ≡ moved f a
  unfolding moved
  went p q = sym (ap₂ (λ (x y : Bool). cond (x && y) (walked (add binary64 f a)) still) p q)

  pub stayed : (proper f ≡ false) ⊎ (low ≡ false) → still ≡ moved f a
  unfolding moved
  stayed (inl p) = sym (ap (λ (x : Bool). cond (x && low) (walked (add binary64 f a)) still) p)
  stayed (inr q) = sym (ap (λ (x : Bool). cond (proper f && x) (walked (add binary64 f a)) still) q ∙ neither (proper f))
    where
      neither : (b : Bool) → cond (b && false) (walked (add binary64 f a)) still ≡ still
      neither true = refl
      neither false = refl
