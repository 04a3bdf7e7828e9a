-- Constant lanes: every frame has the first frame's numbers.
use Rattle.std.specs.Prelude.{◌<◌, ◌≡◌, List, length, get_or, replicate}
use Rattle.std.specs.Float.{nan}
use Rattle.sound_lanes.specs.Lanes.{Lanes, gains_at}
use Rattle.sound_held.specs.declared.Held.{Held}
use Rattle.sound_held.specs.Held.{held_lanes}

-- the numbers of the first frame
abbrev pub first : Lanes → Held
first b = record { gains = gains_at b.fade b.volume b.left b.right 0; rate = get_or b.rate 0 nan }

-- every number of a lane is its first
abbrev pub Repeats : {A : Type 0} → List A → Type 0
Repeats {A} l = (z : A) → l ≡ replicate (length l) (get_or l 0 z)

-- lanes of at least one frame, which all repeat the first frame's numbers
pub record Constant (b : Lanes) : Type 0 where
  pub some : 0 < length b.rate
  pub each : b ≡ held_lanes (first b) (length b.rate)
