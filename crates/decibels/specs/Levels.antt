-- Levels in tenths of a decibel below full level, and their amplitudes: request #101. Level 601 is silence.
use Rattle.std.specs.Prelude.{ℕ, suc, ◌*◌, ◌^◌, ◌≤◌, ◌<◌, ◌≡◌, Bool, false, cond, List, leb, ltb, length, get_or, Float}
use Rattle.std.specs.Prelude.{Result, Ok, Err}
use Rattle.std.specs.Float.{binary32}
use Rattle.std.specs.Float.Ieee.{round}
use Rattle.refusals.specs.declared.Refusal.{Refusal}
use Rattle.refusals.specs.declared.Refusal.TheVariants as refusal
use Rattle.tables.specs.Largest.{largest}
use Rattle.numbers.specs.Words.{positive_zero}

-- (e / 2^24)^200 * 10^t is at most 1
abbrev pub fits : ℕ → ℕ → Bool
fits t e = leb (e ^ 200 * 10 ^ t) (2 ^ 4800)

-- the rule of the table: e fits and e + 1 does not
abbrev pub Entry : ℕ → ℕ → Type 0
Entry t e = (e ^ 200 * 10 ^ t ≤ 2 ^ 4800) × (2 ^ 4800 < suc e ^ 200 * 10 ^ t)

-- the largest whole number that fits; above 2^24 none does
unfoldable pub scaled : ℕ → ℕ
scaled t = largest (fits t) 16777216

-- a table of the levels 0 to 600: each entry meets the rule, so it is the largest number that fits
unfoldable pub Table : List ℕ → Type 0
Table xs = (length xs ≡ 601) × ((t : ℕ) → t < 601 → (get_or xs t 0 ≡ scaled t) × Entry t (get_or xs t 0))

-- the amplitude of a level: e / 2^24 as an f32, and +0 for silence
unfoldable pub amplitude : ℕ → Float
amplitude t = cond (ltb t 601) (round binary32 false (scaled t) 16777216) positive_zero

-- 13: a level above 601
abbrev pub level_refusal : ℕ → ℕ
level_refusal t = cond (leb t 601) 0 13

-- the amplitude of a level, or the old value if the level is refused
abbrev pub amplitude_or : ℕ → Float → Float
amplitude_or t given = cond (leb t 601) (amplitude t) given

-- the amplitude of a level, or its refusal
abbrev pub amplitude_answer : ℕ → Result Float Refusal
amplitude_answer t = cond (leb t 601) (Ok (amplitude t)) (Err refusal.Level)
