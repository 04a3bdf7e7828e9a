-- `frame_with_gains` returns the reading times its gains.
use Rattle.resampler.specs.Windows.{reading}
use Rattle.sound_slow_path.specs.FrameSteps.{frame_at}
use Rattle.sound_slow_path.proofs.frame_with_gains.Goals as goal

pub returns : goal.returns
unfolding frame_at reading
returns c =
    simp (c.scale.ensures, c.get-read.ensures, c.narrow.ensures)
