-- A digit's value, and floats by their bits.
use Rattle.std.specs.Prelude.{ℕ, ◌+◌, ◌%◌, cond, ltb, Float}
use Rattle.std.specs.Float.{nan, Format}
use Rattle.std.specs.Float.Ieee.{eq, of_bits, to_bits, nan_bits}

-- the value of a hexadecimal digit in lower case: `0` to `9` are 48 to 57, `a` to `f` are 97 to 102
abbrev pub digit : ℕ → ℕ
digit b = cond (ltb b 58) (b % 16) ((b + 9) % 16)

-- the float with these bits; every NaN pattern is NaN
unfoldable pub float_of : Format → ℕ → Float
float_of f n = cond (nan_bits f n) nan (of_bits f n)

-- the bits of a float; for a NaN the given ones
unfoldable pub bits_of : Format → ℕ → Float → ℕ
bits_of f other x = cond (eq x x) (to_bits f x) other
