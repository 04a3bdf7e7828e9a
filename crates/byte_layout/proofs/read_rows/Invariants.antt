-- `byte_layout::read_rows`: the rest of the rows, read, has the result of all of them.
use Prim.Native.Nat.{◌≤◌}
use mathlib.Core.Path.{◌≡◌}
use lib.ListN.{length, drop}
use Rattle.std.specs.Prelude.{Ok}
use Rattle.byte_layout.specs.Reads.{steps, view}
use Rattle.byte_layout.proofs.read_rows.Given as goal

abbrev pub invariant-loop-i : goal.invariant-loop-i
invariant-loop-i l =
    (l.q.at ≤ length l.s) × (steps (drop l.i l.table) (view l.s l.i (Ok l.q)) ≡ steps l.table (view l.s 0 (Ok l.initial.q)))
    × (drop l.i l.q.values ≡ drop l.i l.initial.q.values)
