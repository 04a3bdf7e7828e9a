-- `test_sound_list::Replay::take` is safe: no more samples are passed than there are. Assumes nothing.
use native.Mathlib.Omega.{arith}
use mathlib.Core.Path.{sym}
use lib.Seq.{length-take-le}
use Rattle.test_sound_list.proofs.Replay.take.Goals as goal

pub slice_bounds-call-end-2 : goal.slice_bounds-call-end-2
slice_bounds-call-end-2 g c = sym (length-take-le _ _ (omega arith))
