-- Seconds to frames, after the product with the sample rate: docs/assurance/RULES.md, "Seconds to frames". `fin s m
-- e` is m * 2 ^ e, which is m * up e / down e.
use Rattle.std.specs.Prelude.{ℕ, ◌+◌, ◌*◌, ◌/◌, min, cond, Float}
use Rattle.std.specs.Float.{nan, inf, fin}
use Rattle.std.specs.Float.Ieee.{up, down}

-- the largest frame index: a product at or above it becomes this number
abbrev pub most : ℕ
most = 4294967296

-- rounded half away from zero: add a half, then drop the fraction; a negative result becomes 0
unfoldable pub rounded : Float → ℕ
rounded nan = 0
rounded (inf s) = cond s 0 most
rounded (fin s m e) = cond s 0 (min ((2 * (m * up e) + down e) / (2 * down e)) most)

-- cut toward zero; a negative result becomes 0
unfoldable pub cut_off : Float → ℕ
cut_off nan = 0
cut_off (inf s) = cond s 0 most
cut_off (fin s m e) = cond s 0 (min (m * up e / down e) most)
