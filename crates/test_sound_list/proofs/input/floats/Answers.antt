-- `test_sound_list::input::floats` meets its contract. The invariant: the slice keeps its length. The measure is how many numbers are left.
-- Assumes nothing.
use Prim.Native.Nat.{◌-◌}
use mathlib.Core.Path.{◌≡◌}
use native.Mathlib.Omega.{arith}
use Rattle.test_sound_list.proofs.Counting.{counts}
use Rattle.test_sound_list.proofs.input.floats.Goals as goal

pub returns : goal.returns
returns g c = counts _ _ (omega arith)
