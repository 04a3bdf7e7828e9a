-- The five lanes of a block, and refusals 9 to 12 (docs/assurance/RULES.md, "What the host supplies", "Numbers and
-- their refusals").
use Rattle.std.specs.Prelude.{ℕ, Bool, false, ◌≤◌, ◌&&◌, cond, List, [], ◌∷◌, leb, ltb, eqb, pos, length, get_or, take}
use Rattle.std.specs.Prelude.{drop, Float}
use Rattle.std.specs.Float.{nan, fin, binary32}
use Rattle.std.specs.Float.Ieee.{mul, lt, le}
use Rattle.numbers.specs.Words.{positive_zero, finite, finite_clear, advance}
use Rattle.numbers.specs.Lists.{all}
use Rattle.frame.specs.declared.Frame.{Frame}
use Rattle.sound_lanes.specs.declared.Gains.{Gains}
use Rattle.sound_lanes.specs.declared.Lanes.{Lanes as LaneSlices}

-- the five numbers of one output frame
pub record Lane : Type 0 where
  pub fade : Float
  pub volume : Float
  pub left : Float
  pub right : Float
  pub rate : Float

-- the five lanes as they are passed
pub record Lanes : Type 0 where
  pub fade : List Float
  pub volume : List Float
  pub left : List Float
  pub right : List Float
  pub rate : List Float

abbrev pub five : List Float → List Float → List Float → List Float → List Float → Lanes
five fade volume left right rate = record { fade = fade; volume = volume; left = left; right = right; rate = rate }

-- the lanes that a call's five slices hold
abbrev pub lanes_of : LaneSlices → Lanes
lanes_of lanes = five lanes.fade.now lanes.volume.now lanes.left.now lanes.right.now lanes.rate.now

-- frame i's gains in the lanes
abbrev pub gains_at : List Float → List Float → List Float → List Float → ℕ → Gains
gains_at fade volume left right i =
    record {
      fade = get_or fade i nan;
      volume = get_or volume i nan;
      left = get_or left i nan;
      right = get_or right i nan;
    }

-- a reading times its gains
abbrev pub scaled : Float → Float → Gains → Frame
scaled x y g =
    record {
      left = mul binary32 (mul binary32 (mul binary32 x g.fade) g.volume) g.left;
      right = mul binary32 (mul binary32 (mul binary32 y g.fade) g.volume) g.right;
    }

-- the lanes of amplitudes and gains have n frames or more
pub record Covers (n : ℕ) (b : Lanes) : Type 0 where
  pub fade : n ≤ length b.fade
  pub volume : n ≤ length b.volume
  pub left : n ≤ length b.left
  pub right : n ≤ length b.right

-- the lanes side by side
abbrev pub beside : List Float → List Float → List Float → List Float → List Float → List Lane
beside fs vs ls rs [] = []
beside fs vs ls rs (q ∷ qs) =
    record {
      fade = get_or fs 0 nan;
      volume = get_or vs 0 nan;
      left = get_or ls 0 nan;
      right = get_or rs 0 nan;
      rate = q;
    }
    ∷ beside (drop 1 fs) (drop 1 vs) (drop 1 ls) (drop 1 rs) qs

abbrev pub rows : Lanes → List Lane
rows b = beside b.fade b.volume b.left b.right b.rate

-- 9: at most 4,096 frames, and every lane has as many
abbrev pub sized : Lanes → Bool
sized b =
    let n = length b.rate in
    leb n 4096 && eqb (length b.fade) n && eqb (length b.volume) n && eqb (length b.left) n
    && eqb (length b.right) n

-- 10: a time step that is finite and above 0
abbrev pub is_time_step : Float → Bool
is_time_step dt = finite dt && lt positive_zero dt

-- 11: amplitudes and gains finite with their sign bit clear, a finite rate
abbrev pub laned : Lane → Bool
laned l = finite_clear l.fade && finite_clear l.volume && finite_clear l.left && finite_clear l.right
    && finite l.rate

-- 12: an advance of at most 256
abbrev pub slow : ℕ → Float → Float → Bool
slow hz dt rate = le (advance hz rate dt) (fin false 1 (pos 8))

abbrev pub near : ℕ → Float → Lane → Bool
near hz dt l = slow hz dt l.rate

-- 11 and 12 over all frames, 11 first; 0 if both pass
abbrev pub judged : ℕ → Float → Lanes → ℕ
judged hz dt b = cond (all laned (rows b)) (cond (all (near hz dt) (rows b)) 0 12) 11

-- the four lanes of amplitudes and gains
abbrev pub four_finite_clear : List Float → List Float → List Float → List Float → Bool
four_finite_clear fs vs ls rs = all finite_clear fs && all finite_clear vs && all finite_clear ls && all finite_clear rs

-- the top bit of 32 is clear
unfoldable pub low : ℕ → Bool
low n = ltb n 2147483648

-- the lanes of the first k frames
abbrev pub first_lanes : ℕ → Lanes → Lanes
first_lanes k b = five (take k b.fade) (take k b.volume) (take k b.left) (take k b.right)
    (take k b.rate)

-- the lanes of the frames after them
abbrev pub rest_lanes : ℕ → Lanes → Lanes
rest_lanes k b = five (drop k b.fade) (drop k b.volume) (drop k b.left) (drop k b.right) (drop k b.rate)
