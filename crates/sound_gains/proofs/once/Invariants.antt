-- `once`: gains of 1 change nothing. Other gains scale one frame per iteration. The invariant: the frames so far are scaled, and the rest is unchanged.
use lib.ListN.{replicate}
use Rattle.sound_gains.proofs.Gained.{Sofar}
use Rattle.sound_gains.proofs.once.Given as goal

abbrev pub invariant-loop-i : goal.invariant-loop-i
invariant-loop-i l = let g = l.gains in Sofar (replicate l.n g.fade) (replicate l.n g.volume) (replicate l.n g.left) (replicate l.n g.right) l.n l.initial.out l.out l.i
