-- The results of the exports, as numbers.
use Rattle.std.specs.Prelude.{ℕ, Bool, false, ◌&&◌, cond, ltb, pos, Float}
use Rattle.std.specs.Float.{fin, binary64}
use Rattle.std.specs.Float.Ieee.{add, le}
use Rattle.numbers.specs.Words.{positive_zero, proper, whole, part}
use Rattle.test_exports.specs.declared.Moved.{Moved}

-- 1 for yes, 0 for no
abbrev pub bit : Bool → ℕ
bit b = cond b 1 0

-- 0 is no
abbrev pub yes : ℕ → Bool
yes n = ltb 0 n

-- the steps of a sum, and the remaining fraction
abbrev pub walked : Float → Moved
walked x = record { steps = whole x; rest = part x }

-- a fraction plus an advance: no steps and positive zero if the fraction is not proper or the advance is above 256
unfoldable pub moved : Float → Float → Moved
moved f a = cond (proper f && le a (fin false 1 (pos 8))) (walked (add binary64 f a))
    (record { steps = 0; rest = positive_zero })
