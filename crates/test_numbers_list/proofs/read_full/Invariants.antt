-- `test_numbers_list::read_full` is safe and ends. The invariant: at most 45 bytes are read. The measure is how many are left. Assumes nothing.
use Rattle.std.proofs.Common.{◌-◌, ◌≤◌}
use Rattle.test_numbers_list.proofs.read_full.Given as goal

abbrev pub invariant-loop-n : goal.invariant-loop-n
invariant-loop-n g l = l.n ≤ 45

abbrev pub decreases-loop-n : goal.decreases-loop-n
decreases-loop-n g l = 45 - l.n
