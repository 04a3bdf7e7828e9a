-- `byte_layout::put_number`: what is still to store, stored, is the whole number stored.
use Prim.Native.Nat.{◌+◌, ◌-◌}
use mathlib.Core.Path.{◌≡◌}
use lib.ListN.{length}
use lib.Seq.{sets}
use Rattle.byte_layout.specs.Numbers.{bytes}
use Rattle.byte_layout.proofs.put_number.Given as goal

abbrev pub invariant-loop-i : goal.invariant-loop-i
invariant-loop-i l = (length l.buf ≡ length l.initial.buf) × (sets l.buf l.i (bytes (l.at + l.width - l.i) l.y) ≡ sets l.initial.buf l.at (bytes l.width l.x))
