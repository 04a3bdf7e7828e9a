-- `is_steady` compares every rate with the first. The invariant: if all so far were the same, each of them is.
use Prim.Native.Nat.{ℕ, ◌<◌}
use mathlib.Core.Path.{◌≡◌}
use mathlib.Core.Bool.{true}
use lib.ListN.{get_or}
use lib.Ieee.{nan}
use Rattle.sound_fast_reading.proofs.is_steady.Given as goal

abbrev pub invariant-loop-r : goal.invariant-loop-r
invariant-loop-r l = l.same ≡ true → (j : ℕ) → j < l.r-index → get_or l.rate j nan ≡ get_or l.rate 0 nan
