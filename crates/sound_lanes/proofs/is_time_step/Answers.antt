-- `sound_lanes::is_time_step` meets its contract, which has the same two tests. Assumes nothing.
use mathlib.Core.Path.{ap}
use mathlib.Core.Bool.{Bool, ◌&&◌}
use lib.Ieee.{lt, of_bits}
use Rattle.numbers.specs.Words.{positive_zero}
use Rattle.sound_lanes.proofs.is_time_step.Goals as goal

pub returns : goal.returns
unfolding of_bits
returns c = ap (λ (b : Bool). b && lt positive_zero c.args.dt) c.is_finite.ensures
