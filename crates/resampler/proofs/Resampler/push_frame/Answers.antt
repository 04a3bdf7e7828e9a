-- `Resampler::push_frame` meets its contract: by whether there is a frame; none lowers the count.
use lib.Ieee.{of_bits}
use Rattle.resampler.specs.Windows.{push}
use Rattle.resampler.proofs.Resampler.push_frame.Goals as goal

pub returns-in-Some : goal.returns-in-Some
unfolding push
returns-in-Some c = rw c.in-Some.is

pub returns-in-None : goal.returns-in-None
unfolding push of_bits
returns-in-None c = rw (c.in-None.is, c.saturating_sub.ensures)
