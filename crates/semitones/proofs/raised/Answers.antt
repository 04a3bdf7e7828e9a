-- `semitones::raised` meets its contract: outside the pitches neither test of the definition passes. Assumes nothing.
use mathlib.Core.Path.{refl}
use Prim.Native.Nat.{◌<◌}
use native.Mathlib.Omega.{arith}
use lib.Ieee.{of_bits}
use borrow.Author.Tests.{lt-leb}
use Rattle.semitones.proofs.raised.Goals as goal

pub returns-else-steps-le48 : goal.returns-else-steps-le48
unfolding of_bits
returns-else-steps-le48 c =
    let h = c.if-steps-le48.false in
    let above : 24 < c.args.pitch = omega arith in
    let below : c.args.pitch < 18446744073709551592 = omega arith in
    simp (lt-leb _ _ above, lt-leb _ _ below) refl
