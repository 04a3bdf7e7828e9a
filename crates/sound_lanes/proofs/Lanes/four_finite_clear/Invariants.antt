-- `Lanes::four_finite_clear` meets its contract. The loop's invariant: the words' top bit is clear if the four lanes pass as far as they are read.
-- Assumes nothing.
use Prim.Native.Nat.{◌≤◌}
use mathlib.Core.Path.{◌≡◌}
use lib.ListN.{length, take}
use Rattle.sound_lanes.specs.Lanes.{lanes_of, low, four_finite_clear}
use Rattle.sound_lanes.proofs.Lanes.four_finite_clear.Given as goal

abbrev pub invariant-loop-i : goal.invariant-loop-i
invariant-loop-i l =
    let b = lanes_of l.fn.self in
    (l.i ≤ length b.fade) × (low l.tops ≡ four_finite_clear (take l.i b.fade) (take l.i b.volume) (take l.i b.left) (take l.i b.right))
