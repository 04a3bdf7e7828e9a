-- A line of the list: its fields, and whether its answer agrees with the definitions of `numbers`.
use Rattle.std.specs.Prelude.{ℕ, zero, suc, ◌+◌, ◌*◌, ◌%◌, Bool, false, cond, List, ltb, eqb, pos, get_or, Float}
use Rattle.std.specs.Float.{binary32, binary64}
use Rattle.std.specs.Float.Ieee.{mul, eq, of_int, of_bits, to_bits, nan_bits}
use Rattle.numbers.specs.Words.{proper, narrowed, magnitude}
use Rattle.numbers.specs.Frames.{rounded, cut_off}

-- the value of a hexadecimal digit in lower case: `0` to `9` are 48 to 57, `a` to `f` are 97 to 102
abbrev pub digit : ℕ → ℕ
digit b = cond (ltb b 58) (b % 16) ((b + 9) % 16)

-- the number that this many digits from an offset spell
unfoldable pub number : List ℕ → ℕ → ℕ → ℕ
number line at zero = 0
number line at (suc n) = number line at n * 16 + digit (get_or line (at + n) 0)

-- x seconds in frames, before rounding
abbrev pub product : Float → ℕ → Float
product x rate = mul binary64 x (of_int binary64 (pos rate))

-- x is a proper fraction, and its f32 has these bits
unfoldable pub narrows_to : Float → ℕ → Bool
narrows_to x bits = cond (proper x) (eqb (to_bits binary32 (narrowed x)) bits) false

-- x is a number, and its magnitude has these bits
unfoldable pub measures : Float → ℕ → Bool
measures x bits = cond (eq (magnitude x) (magnitude x)) (eqb (to_bits binary64 (magnitude x)) bits) false

-- `n` narrows, `r` rounds, `c` cuts, `m` returns the magnitude; any other kind is wrong
unfoldable pub right : ℕ → Float → ℕ → ℕ → Bool
right kind x rate expected =
    cond (eqb kind 110) (narrows_to x expected)
    (cond (eqb kind 114) (eqb (rounded (product x rate)) expected)
    (cond (eqb kind 99) (eqb (cut_off (product x rate)) expected)
    (cond (eqb kind 109) (measures x expected) false)))

-- the line's answer is right; the bits of a NaN are not a case
unfoldable pub agrees : List ℕ → Bool
agrees line =
    cond (nan_bits binary64 (number line 2 16)) false
    (right (get_or line 0 0) (of_bits binary64 (number line 2 16)) (number line 19 8) (number line 28 16))
