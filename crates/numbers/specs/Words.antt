-- Floats by their values: docs/assurance/RULES.md, "Numbers and their refusals", "The window of four", "Creation,
-- commands, block". `fin s m e` is m * 2 ^ e, its sign bit s; that is m * up e / down e.
use Rattle.std.specs.Prelude.{ℕ, zero, suc, ◌*◌, ◌/◌, Bool, true, false, not, ◌&&◌, pos, negsuc, Float}
use Rattle.std.specs.Float.{nan, inf, fin, binary32, binary64}
use Rattle.std.specs.Float.Ieee.{up, down, round, sub, mul, lt, of_int}
use Rattle.numbers.specs.declared.Stepped.{Stepped}

-- positive zero
abbrev pub positive_zero : Float
positive_zero = fin false 0 (pos 0)

abbrev pub one : Float
one = fin false 1 (pos 0)

-- neither NaN nor infinite
abbrev pub finite : Float → Bool
finite nan = false
finite (inf s) = false
finite (fin s m e) = true

-- finite, and its sign bit is clear
abbrev pub finite_clear : Float → Bool
finite_clear nan = false
finite_clear (inf s) = false
finite_clear (fin s m e) = not s

-- exactly positive zero
abbrev pub is_positive_zero : Float → Bool
is_positive_zero nan = false
is_positive_zero (inf s) = false
is_positive_zero (fin true m e) = false
is_positive_zero (fin false (suc m) e) = false
is_positive_zero (fin false zero (negsuc k)) = false
is_positive_zero (fin false zero (pos (suc k))) = false
is_positive_zero (fin false zero (pos zero)) = true

-- the sign bit is set: minus zero is negative
abbrev pub negative : Float → Bool
negative nan = false
negative (inf s) = s
negative (fin s m e) = s

-- at least 0, below 1, and the sign bit is clear
abbrev pub proper : Float → Bool
proper x = finite_clear x && lt x one

-- without its sign
unfoldable pub magnitude : Float → Float
magnitude nan = nan
magnitude (inf s) = inf false
magnitude (fin s m e) = fin false m e

-- the nearest f32, ties to even
unfoldable pub narrowed : Float → Float
narrowed nan = nan
narrowed (inf s) = inf s
narrowed (fin s m e) = round binary32 s (m * up e) (down e)

-- the whole part
unfoldable pub whole : Float → ℕ
whole nan = 0
whole (inf s) = 0
whole (fin s m e) = m * up e / down e

-- 1 subtracted n times, each difference rounded
unfoldable pub taken : ℕ → Float → Float
taken zero x = x
taken (suc n) x = taken n (sub binary64 x one)

-- the fractional part: 1 subtracted as often as the whole part says
unfoldable pub part : Float → Float
part x = taken (whole x) x

-- the steps of a sum of fraction and advance, and the fraction that is left
abbrev pub stepped : Float → Stepped
stepped x = record { steps = whole x; fraction = part x }

-- (sample rate * lane rate without its sign) * time step
unfoldable pub advance : ℕ → Float → Float → Float
advance hz rate step = mul binary64 (mul binary64 (of_int binary64 (pos hz)) (magnitude rate)) step
