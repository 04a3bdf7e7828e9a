-- The theorems about pitches (request #113).
use Rattle.std.specs.Prelude.{ℕ, ◌*◌, ◌/◌, ◌%◌, ◌^◌, ◌≤◌, ◌<◌, false, T}
use Rattle.std.specs.Float.Ieee.Exact.{HasValue}
use Rattle.semitones.specs.Ratios.{fits, Entry, scaled, ratio}

-- ---- hypotheses

-- a number of semitones below an octave, and a number that fits it
abbrev pub Semitones : ℕ → Type 0
Semitones n = n < 12

pub record Fitting (n e : ℕ) : Type 0 where
  pub semitones : Semitones n
  pub fits : T (fits n e)

-- the number of steps from the lowest pitch to a pitch
abbrev pub Steps : ℕ → Type 0
Steps steps = steps ≤ 48

-- and numbers that meet them: a fifth, the beginning of an octave, the middle pitch
pub record Witnesses : Type 0 where
  pub rule : Semitones 7
  pub none_larger : Fitting 0 281474976710656
  pub exact : Steps 24

pub record Promises : Type 0 where
  -- for 0 to 11 semitones e fits and e + 1 does not
  pub rule : (n : ℕ) → Semitones n → Entry n (scaled n)
  -- and no larger number fits
  pub none_larger : (n e : ℕ) → Fitting n e → e ≤ scaled n
  -- a ratio is its fraction exactly
  pub exact : (steps : ℕ) → Steps steps
      → HasValue (ratio steps) false (scaled (steps % 12) * 2 ^ (steps / 12)) (2 ^ 50)
  -- one input for each hypothesis
  pub witnesses : Witnesses
