-- `interpolate_frame` meets its contract: each channel is one call of `interpolate`.
use Rattle.frame.specs.Frames.{interpolated}
use Rattle.frame.proofs.interpolate_frame.Goals as goal

pub returns : goal.returns
unfolding interpolated
returns c = simp (c.interpolate.ensures, c.interpolate-2.ensures)
