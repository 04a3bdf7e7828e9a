-- The theorems about levels and ramps (request #101).
use Rattle.std.specs.Prelude.{ℕ, ◌-◌, ◌≤◌, ◌<◌, ◌≡◌, false, List, ◌++◌, T, get_or, take, drop, Float}
use Rattle.std.specs.Float.{nan}
use Rattle.std.specs.Float.Ieee.Exact.{HasValue}
use Rattle.numbers.specs.Words.{positive_zero, finite_clear}
use Rattle.decibels.specs.Levels.{fits, Entry, scaled, amplitude}
use Rattle.decibels.specs.Ramps.{level_at, frames}

-- ---- hypotheses

abbrev pub Fitting : ℕ → ℕ → Type 0
Fitting t e = T (fits t e)

-- a level above silence
abbrev pub Audible : ℕ → Type 0
Audible t = t < 601

-- ramps of more than one frame, and of at least one; a frame of a ramp
abbrev pub Several : ℕ → Type 0
Several n = 1 < n

abbrev pub Some : ℕ → Type 0
Some n = 0 < n

abbrev pub Among : ℕ → ℕ → Type 0
Among n i = i < n

-- a frame of a ramp, and numbers that enclose both of its levels
pub record Enclosed (start end n i low high : ℕ) : Type 0 where
  pub frame : i < n
  pub low_start : low ≤ start
  pub low_end : low ≤ end
  pub start_high : start ≤ high
  pub end_high : end ≤ high

-- two frames of a ramp that goes to a larger number, and to a smaller one
pub record Rising (start end n i j : ℕ) : Type 0 where
  pub levels : start ≤ end
  pub order : i ≤ j
  pub frame : j < n

pub record Falling (start end n i j : ℕ) : Type 0 where
  pub levels : end ≤ start
  pub order : i ≤ j
  pub frame : j < n

-- inputs that meet them
pub record Witnesses : Type 0 where
  pub none_larger : Fitting 0 16777216
  pub exact : Audible 60
  pub first : Several 2
  pub last : Some 2
  pub between : Enclosed 0 601 3 1 0 601
  pub upward : Rising 0 601 3 0 2
  pub downward : Falling 601 0 3 0 2
  pub each : Among 3 1

pub record Promises : Type 0 where
  -- at each level e fits and e + 1 does not
  pub rule : (t : ℕ) → Entry t (scaled t)
  -- and no larger number fits
  pub none_larger : (t e : ℕ) → Fitting t e → e ≤ scaled t
  -- an amplitude is e / 2^24 exactly, and silence is positive zero
  pub exact : (t : ℕ) → Audible t → HasValue (amplitude t) false (scaled t) 16777216
  pub silent : amplitude 601 ≡ positive_zero
  -- every amplitude passes refusal 11
  pub passes : (t : ℕ) → T (finite_clear (amplitude t))
  -- the first frame has the start level, the last the end level
  pub first : (start end n : ℕ) → Several n → level_at start end n 0 ≡ start
  pub last : (start end n : ℕ) → Some n → level_at start end n (n - 1) ≡ end
  -- numbers that enclose both levels enclose the level of every frame
  pub between : (start end n i low high : ℕ) → Enclosed start end n i low high → (low ≤ level_at start end n i)
      × (level_at start end n i ≤ high)
  -- levels never change direction
  pub upward : (start end n i j : ℕ) → Rising start end n i j → level_at start end n i ≤ level_at start end n j
  pub downward : (start end n i j : ℕ) → Falling start end n i j → level_at start end n j ≤ level_at start end n i
  -- each frame of the lane has the amplitude of its level
  pub each : (start end n i : ℕ) → Among n i → get_or (frames start end n n) i nan ≡ amplitude (level_at start end n i)
  -- a lane cut in two and joined again is the lane, so blocks can get parts of it
  pub parts : (k : ℕ) (lane : List Float) → take k lane ++ drop k lane ≡ lane
  -- one input for each hypothesis
  pub witnesses : Witnesses
