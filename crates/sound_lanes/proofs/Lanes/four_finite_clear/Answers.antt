-- `Lanes::four_finite_clear` meets its contract. The loop's invariant: the words' top bit is clear if the four lanes pass as far as they are read.
-- Assumes nothing.
use mathlib.Core.Path.{refl}
use native.Mathlib.Omega.{arith}
use Rattle.sound_lanes.specs.Lanes.{lanes_of, low}
use Rattle.sound_lanes.proofs.Rows.{sized_parts}
use Rattle.sound_lanes.proofs.Gathered.{four_turn, four_end}
use Rattle.sound_lanes.proofs.Lanes.four_finite_clear.Goals as goal

pub loop-i-init : goal.loop-i-init
unfolding low
loop-i-init c = (omega arith, refl)

pub loop-i-preserved : goal.loop-i-preserved
loop-i-preserved c =
    let b = lanes_of c.args.self in
    let h = sized_parts b c.requires in
    let l = c.loop-i-test.true in (
      omega arith,
      four_turn b.fade b.volume b.left b.right c.loop-i.i c.loop-i.tops _ _ _ _
          l (omega (arith, h.fade, h.volume, l)) (omega (arith, h.fade, h.left, l)) (omega (arith, h.fade, h.right, l)) c.loop-i.invariant.1
          c.top.ensures c.top-in-loop-i.ensures c.top-in-loop-i-2.ensures c.top-in-loop-i-3.ensures,
    )

pub returns : goal.returns
unfolding low
returns c =
    let b = lanes_of c.args.self in
    let h = sized_parts b c.requires in
    let l = c.loop-i-test.false in
    four_end b.fade b.volume b.left b.right c.loop-i.i _
    l (omega (arith, h.fade, h.volume, l)) (omega (arith, h.fade, h.left, l)) (omega (arith, h.fade, h.right, l)) c.loop-i.invariant.1
