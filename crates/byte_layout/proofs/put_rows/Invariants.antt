-- `byte_layout::put_rows`: what is still to store, stored, is the whole payload stored.
use Prim.Native.Nat.{◌+◌}
use mathlib.Core.Path.{◌≡◌}
use mathlib.Core.List.{[]}
use lib.ListN.{length, take}
use lib.Seq.{sets}
use Rattle.byte_layout.specs.Writes.{payload}
use Rattle.byte_layout.proofs.Puts.{tail_of}
use Rattle.byte_layout.proofs.put_rows.Given as goal

abbrev pub invariant-loop-i : goal.invariant-loop-i
invariant-loop-i l =
    (length l.buf ≡ length l.initial.buf) × (sets l.buf l.a (tail_of l.table l.values l.i) ≡ sets l.initial.buf l.at (payload l.table [] (take (length l.table) l.values))) × (l.a + length (tail_of l.table l.values l.i) ≡ l.at + length (payload l.table [] (take (length l.table) l.values)))
