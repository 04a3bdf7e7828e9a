-- One frame's steps.
use Rattle.std.specs.Prelude.{◌<◌, ◌≡◌, Bool, false, not, List, T, pos, length, get_or, replicate, Float}
use Rattle.std.specs.Float.{nan, fin, binary64}
use Rattle.std.specs.Float.Ieee.{add, le, is_nan}
use Rattle.numbers.specs.declared.Stepped.{Stepped}
use Rattle.numbers.specs.Words.{proper, finite_clear, stepped}

-- an advance that is finite, not negative and at most 256
pub record Slow (a : Float) : Type 0 where
  pub finite_clear : T (finite_clear a)
  pub most : T (le a (fin false 1 (pos 8)))

-- s has the steps that the advance a makes from the fraction f, and the new fraction
pub record Move (f a : Float) (s : Stepped) : Type 0 where
  pub is : s ≡ stepped (add binary64 f a)
  pub few : s.steps < 258
  pub below : T (proper s.fraction)

-- not a NaN
abbrev pub number : Float → Bool
number x = not (is_nan x)

-- at least one rate, all equal to the first
pub record Same (rates : List Float) : Type 0 where
  pub some : 0 < length rates
  pub each : rates ≡ replicate (length rates) (get_or rates 0 nan)
