-- `Resampler::get` meets its contract: the four entries' frames go to `interpolate_frame` in order, and the count is returned with the frame.
use Rattle.resampler.specs.Windows.{reading}
use Rattle.resampler.proofs.Resampler.get.Goals as goal

pub returns : goal.returns
unfolding reading
returns c = rw c.interpolate_frame.ensures
