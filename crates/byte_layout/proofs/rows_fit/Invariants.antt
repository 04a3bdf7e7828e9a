-- `byte_layout::rows_fit`: the rest of the rows decides as all of them do.
use mathlib.Core.Path.{◌≡◌}
use mathlib.Core.List.{[]}
use lib.ListN.{length, take}
use Rattle.byte_layout.specs.Writes.{fine}
use Rattle.byte_layout.proofs.Puts.{fine_of}
use Rattle.byte_layout.proofs.rows_fit.Given as goal

abbrev pub invariant-loop-i : goal.invariant-loop-i
invariant-loop-i l = fine_of l.table l.values l.i ≡ fine l.table [] (take (length l.table) l.values)
