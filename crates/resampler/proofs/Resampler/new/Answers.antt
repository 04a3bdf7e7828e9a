-- `Resampler::new` meets its contract: four times the entry is the list of four.
use mathlib.Core.Path.{refl}
use lib.Ieee.{of_bits}
use Rattle.resampler.proofs.Resampler.new.Goals as goal

pub returns : goal.returns
unfolding of_bits
returns c = refl
