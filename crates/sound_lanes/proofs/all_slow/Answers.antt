-- `sound_lanes::all_slow` meets its contract. The loop's invariant: `ok` is the test over the rates so far. Assumes nothing.
use Prim.Native.Nat.{ℕ}
use mathlib.Core.Path.{◌≡◌, ap}
use mathlib.Core.Bool.{false}
use lib.IntN.{pos}
use lib.ListN.{get_or}
use lib.Ieee.{Float, nan, fin, binary64, mul, le, of_int, of_bits}
use Rattle.numbers.specs.Words.{magnitude, advance}
use Rattle.sound_lanes.specs.Lanes.{slow}
use Rattle.sound_lanes.proofs.Gathered.{all_turn}
use Rattle.sound_lanes.proofs.all_slow.Goals as goal

-- the advance of a rate, by its magnitude
slow-by : (hz : ℕ) (dt q m : Float) → m ≡ magnitude q → le (mul binary64 (mul binary64 (of_int binary64 (pos hz)) m) dt) (fin false 1 (pos 8)) ≡ slow hz dt q
unfolding advance
slow-by hz dt q m e = ap (λ (x : Float). le (mul binary64 (mul binary64 (of_int binary64 (pos hz)) x) dt) (fin false 1 (pos 8))) e

pub loop-r-preserved : goal.loop-r-preserved
unfolding of_bits
loop-r-preserved c =
    let l = c.loop-r in
    let a = c.args in
    all_turn (slow a.sample_rate a.dt) a.rate.now l.r-index nan l.ok _ c.loop-r-test.true l.invariant
    (slow-by a.sample_rate a.dt (get_or a.rate.now l.r-index nan) _ c.magnitude.ensures)
