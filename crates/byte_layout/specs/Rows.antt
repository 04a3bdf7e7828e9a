-- A layout is a list of rows, one number each. A row is present if the number of an earlier row, its guard, is at
-- least `low`; a row with `low` 0 is always present.
use Rattle.std.specs.Prelude.{ℕ, ◌^◌, Bool, true, ◌&&◌, List, [], ◌∷◌, ltb, leb, get_or}
use Rattle.refusals.specs.declared.Refusal.{Refusal}
use Rattle.byte_layout.specs.declared.Row.{Row}

-- a row as it stands in a table: width, guard, low, least, most, refusal
abbrev pub row : ℕ → ℕ → ℕ → ℕ → ℕ → Refusal → Row
row width guard low least most refusal =
    record { width = width; guard = guard; low = low; least = least; most = most; refusal = refusal }

-- whether a row is present, after the numbers vs
unfoldable pub stands : Row → List ℕ → Bool
stands r vs = leb r.low (get_or vs r.guard 0)

-- a number in a row's range
unfoldable pub within : Row → ℕ → Bool
within r x = leb r.least x && leb x r.most

-- rows of at most eight bytes, whose numbers fit their bytes
unfoldable pub sound : List Row → Bool
sound [] = true
sound (r ∷ rs) = (leb r.width 8 && ltb r.most (256 ^ r.width)) && sound rs
