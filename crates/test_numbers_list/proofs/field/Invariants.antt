-- `test_numbers_list::field` meets its contract. The invariant: the value is that of the digits so far.
-- Assumes nothing.
use mathlib.Core.Path.{◌≡◌, ap₂, ◌∙◌}
use Prim.Native.Nat.{ℕ, ◌+◌, ◌-◌, ◌*◌, ◌^◌, ◌≤◌, ◌<◌}
use Rattle.test_numbers_list.specs.Lines.{number}
use Rattle.test_numbers_list.proofs.field.Given as goal

abbrev pub invariant-loop-i : goal.invariant-loop-i
invariant-loop-i l = l.value ≡ number l.line l.from l.i
