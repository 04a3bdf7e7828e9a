-- `byte_layout::copy`: the part of `out` that is written over.
use Prim.Native.Nat.{◌+◌, ◌-◌}
use native.Mathlib.Omega.{arith}
use mathlib.Core.Path.{◌≡◌}
use lib.ListN.{length, take, drop, length-drop}
use lib.Seq.{length-take-le}
use Rattle.byte_layout.proofs.Puts.{put_over}
use Rattle.byte_layout.proofs.copy.Goals as goal

pub returns : goal.returns
returns c =
    let a = c.args in
    let n : a.at + (a.to - a.from) - a.at ≡ a.to - a.from = omega arith in
    let m : length (take (a.to - a.from) (drop a.from a.s.now)) ≡ a.to - a.from = length-take-le _ _ (omega (arith, length-drop a.from a.s.now)) in
    rw (n, c.copy_from_slice.ensures.after) (put_over a.out.now (take (a.to - a.from) (drop a.from a.s.now)) a.at (a.to - a.from) m (omega arith))
