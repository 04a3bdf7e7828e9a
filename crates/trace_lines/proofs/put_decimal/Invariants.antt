-- `trace_lines::put_decimal`: the remaining digits before the written ones are the whole number.
use mathlib.Core.Path.{◌≡◌, ◌∙◌}
use Prim.Native.Nat.{ℕ, ◌+◌, ◌-◌, ◌*◌, ◌%◌, ◌^◌, ◌≤◌, ◌<◌}
use lib.ListN.{length, drop}
use Rattle.trace_lines.specs.Lines.{spelt, decimal}
use Rattle.trace_lines.proofs.put_decimal.Given as goal

abbrev pub invariant-loop-y : goal.invariant-loop-y
invariant-loop-y l = (l.i ≤ 19) × (length l.digits ≡ 20) × (l.y < 10 ^ (l.i + 1)) × (spelt (l.i + 1) l.y (drop (l.i + 1) l.digits) ≡ decimal l.n)

abbrev pub decreases-loop-y : goal.decreases-loop-y
decreases-loop-y l = l.y
