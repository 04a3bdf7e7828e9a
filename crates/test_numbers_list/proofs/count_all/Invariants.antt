-- `test_numbers_list::count_all` is safe and ends. The invariant: no more differ than there are cases.
-- Assumes nothing.
use Prim.Native.Nat.{◌≤◌}
use Rattle.test_numbers_list.proofs.count_all.Given as goal

abbrev pub invariant-loop-cases : goal.invariant-loop-cases
invariant-loop-cases g l = l.differ ≤ l.cases
