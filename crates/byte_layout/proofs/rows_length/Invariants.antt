-- `byte_layout::rows_length`: the bytes counted and those of the rows left are the payload's.
use Prim.Native.Nat.{◌+◌, ◌*◌, ◌≤◌}
use mathlib.Core.Path.{◌≡◌}
use mathlib.Core.List.{[]}
use lib.ListN.{length, take}
use Rattle.byte_layout.specs.Writes.{payload}
use Rattle.byte_layout.proofs.Puts.{tail_of}
use Rattle.byte_layout.proofs.rows_length.Given as goal

abbrev pub invariant-loop-i : goal.invariant-loop-i
invariant-loop-i l = (l.k ≤ 8 * l.i) × (l.k + length (tail_of l.table l.values l.i) ≡ length (payload l.table [] (take (length l.table) l.values)))
