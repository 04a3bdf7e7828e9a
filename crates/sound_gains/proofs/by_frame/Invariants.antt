-- `by_frame` scales one frame per iteration. The invariant: the frames so far are scaled, and the rest is unchanged.
use Rattle.sound_lanes.specs.Lanes.{lanes_of}
use Rattle.sound_gains.proofs.Gained.{Sofar}
use Rattle.sound_gains.proofs.by_frame.Given as goal

abbrev pub invariant-loop-i : goal.invariant-loop-i
invariant-loop-i l = let b = lanes_of l.fn.lanes in Sofar b.fade b.volume b.left b.right l.n l.initial.out l.out l.i
