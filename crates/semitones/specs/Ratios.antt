-- The ratio of a pitch, and a rate times that ratio: request #113, docs/formats/SETTINGS.md.
use Rattle.std.specs.Prelude.{ℕ, suc, ◌+◌, ◌-◌, ◌*◌, ◌/◌, ◌%◌, ◌^◌, ◌≤◌, ◌<◌, ◌≡◌, Bool, false, cond, List, leb}
use Rattle.std.specs.Prelude.{length, get_or, Float}
use Rattle.std.specs.Float.{nan, binary64}
use Rattle.std.specs.Float.Ieee.{round, mul}
use Rattle.tables.specs.Largest.{largest}

-- (e / 2^48)^12 is at most 2^n
abbrev pub fits : ℕ → ℕ → Bool
fits n e = leb (e ^ 12) (2 ^ (n + 576))

-- the rule of the table: e fits and e + 1 does not
abbrev pub Entry : ℕ → ℕ → Type 0
Entry n e = (e ^ 12 ≤ 2 ^ (n + 576)) × (2 ^ (n + 576) < suc e ^ 12)

-- the largest whole number that fits; for n below 12 none from 2^49 on does
unfoldable pub scaled : ℕ → ℕ
scaled n = largest (fits n) 562949953421311

-- a table of 0 to 11 semitones: each entry meets the rule, so it is the largest number that fits
unfoldable pub Table : List ℕ → Type 0
Table xs = (length xs ≡ 12) × ((n : ℕ) → n < 12 → (get_or xs n 0 ≡ scaled n) × Entry n (get_or xs n 0))

-- the ratio of the pitch this many steps above the lowest, -24: with n = steps mod 12 and o = steps div 12 - 2
-- octaves it is e * 2^(o - 48), and it is an f64
unfoldable pub ratio : ℕ → Float
ratio steps = round binary64 false (scaled (steps % 12) * 2 ^ (steps / 12)) (2 ^ 50)

-- a rate times the ratio of a pitch, rounded once; the pitch is a word with its sign in two's complement, -24 to 24
abbrev pub raised_by : Float → ℕ → Float
raised_by rate pitch = cond (leb pitch 24) (mul binary64 rate (ratio (pitch + 24)))
    (cond (leb 18446744073709551592 pitch) (mul binary64 rate (ratio (pitch - 18446744073709551592))) nan)
