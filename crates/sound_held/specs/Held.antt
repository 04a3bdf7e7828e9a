-- Lanes given once: the lanes of n frames that each have the same five numbers (docs/assurance/RULES.md, "What the
-- host supplies").
use Rattle.std.specs.Prelude.{ℕ, replicate}
use Rattle.sound_lanes.specs.Lanes.{Lanes, five}
use Rattle.sound_held.specs.declared.Held.{Held}

abbrev pub held_lanes : Held → ℕ → Lanes
held_lanes x n =
    let g = x.gains in
    five (replicate n g.fade) (replicate n g.volume) (replicate n g.left) (replicate n g.right) (replicate n x.rate)
