-- `sound_lanes::all_slow` meets its contract. The loop's invariant: `ok` is the test over the rates so far. Assumes nothing.
use mathlib.Core.Path.{◌≡◌}
use lib.ListN.{take}
use Rattle.numbers.specs.Lists.{all}
use Rattle.sound_lanes.specs.Lanes.{slow}
use Rattle.sound_lanes.proofs.all_slow.Given as goal

abbrev pub invariant-loop-r : goal.invariant-loop-r
invariant-loop-r l = l.ok ≡ all (slow l.sample_rate l.dt) (take l.r-index l.rate)
