-- Reading by a layout, byte by byte in reading order: 17 if the payload ends inside a row, 18 if the input does; a
-- number outside a row's range is refused with the row's own number.
use Rattle.std.specs.Prelude.{ℕ, ◌-◌, cond, List, [], ◌∷◌, ◌++◌, leb, length, take, drop, Result, Ok, Err}
use Rattle.refusals.specs.declared.Refusal.{Refusal}
use Rattle.refusals.specs.Numbers.{number}
use Rattle.byte_layout.specs.declared.Row.{Row}
use Rattle.byte_layout.specs.declared.Parsed.{Parsed}
use Rattle.byte_layout.specs.Numbers.{num}
use Rattle.byte_layout.specs.Rows.{stands, within}

-- a parse: refused with a number, or the payload's bytes left, the numbers read, the input left
pub data Reading : Type 0 where
  bad : ℕ → Reading
  good : ℕ → List ℕ → List ℕ → Reading

-- a row that is present; the payload's end is tested before the input's
unfoldable pub taken : Row → ℕ → List ℕ → List ℕ → Reading
taken r left vs bs =
    cond (leb r.width left)
    (cond (leb r.width (length bs))
    (cond (within r (num (take r.width bs)))
    (good (left - r.width) (vs ++ (num (take r.width bs) ∷ [])) (drop r.width bs)) (bad (number r.refusal)))
    (bad 18))
    (cond (leb left (length bs)) (bad 17) (bad 18))

-- one row; the number of an absent row is 0
unfoldable pub step : Row → Reading → Reading
step r (bad k) = bad k
step r (good left vs bs) = cond (stands r vs) (taken r left vs bs) (good left (vs ++ (0 ∷ [])) bs)

-- all rows
unfoldable pub steps : List Row → Reading → Reading
steps [] d = d
steps (r ∷ rs) d = steps rs (step r d)

-- what a parse in progress represents: its first i values are the numbers read
abbrev pub view : List ℕ → ℕ → Result Parsed Refusal → Reading
view s i (Ok p) = good p.left (take i p.values) (drop p.at s)
view s i (Err r) = bad (number r)
