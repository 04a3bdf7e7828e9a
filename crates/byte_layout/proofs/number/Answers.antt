-- `byte_layout::number`: after the bytes from i on, x is their number.
use mathlib.Core.Path.{refl}
use Prim.Native.Nat.{◌-◌, ◌<◌}
use native.Mathlib.Nat.{sub_self}
use native.Mathlib.Omega.{arith}
use Rattle.byte_layout.specs.Numbers.{num}
use Rattle.byte_layout.proofs.Numbers.{turn, room, counted}
use Rattle.byte_layout.proofs.number.Goals.{In-loop-i}
use Rattle.byte_layout.proofs.number.Goals as goal

pub loop-i-init : goal.loop-i-init
unfolding num
loop-i-init c = (omega arith, rw sub_self refl)

small : (c : In-loop-i) → c.loop-i.x < 72057594037927936
small c = room c.args.s.now _ _ _ (λ i. omega (arith, c.type_inv.s i)) (omega arith) c.loop-i.invariant.1

pub overflow_mul-x : goal.overflow_mul-x
overflow_mul-x c = omega (arith, small (goal.at.overflow_mul-x c).In-loop-i)

pub overflow_add-x : goal.overflow_add-x
overflow_add-x c = omega (arith, small (goal.at.overflow_add-x c).In-loop-i, c.type_inv.s (c.loop-i.i - 1))

pub loop-i-preserved : goal.loop-i-preserved
loop-i-preserved c = (omega arith, turn _ _ _ _ (omega arith) (omega arith) c.requires.0 c.loop-i.invariant.1)

pub returns : goal.returns
returns c = counted c.args.s.now c.args.at c.args.width c.loop-i.i c.loop-i.x (omega arith) c.loop-i.invariant.1
