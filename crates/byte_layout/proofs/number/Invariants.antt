-- `byte_layout::number`: after the bytes from i on, x is their number.
use mathlib.Core.Path.{◌≡◌}
use Prim.Native.Nat.{◌+◌, ◌-◌, ◌≤◌}
use lib.ListN.{take, drop}
use Rattle.byte_layout.specs.Numbers.{num}
use Rattle.byte_layout.proofs.number.Given as goal

abbrev pub invariant-loop-i : goal.invariant-loop-i
invariant-loop-i l = (l.at ≤ l.i) × (l.x ≡ num (take (l.at + l.width - l.i) (drop l.i l.s)))
