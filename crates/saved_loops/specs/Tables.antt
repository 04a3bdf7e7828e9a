-- The layout of docs/formats/LOOPS.md up to the names: a row's width, guard, low, least, most, refusal. Every row is
-- present.
use Rattle.std.specs.Prelude.{List, ◌∷◌, replicate}
use Rattle.refusals.specs.declared.Refusal.TheVariants.{Mark, Version, SavedField}
use Rattle.byte_layout.specs.declared.Row.{Row}
use Rattle.byte_layout.specs.Rows.{row}

-- mark, mark, version, length; hall, frames of the sound, number of changes; start and end of each of the eight slots
unfoldable pub half_rows : List Row
half_rows =
    row 1 0 0 167 167 Mark ∷
    row 1 0 0 76 76 Mark ∷
    row 1 0 0 1 1 Version ∷
    row 2 0 0 661 661 SavedField ∷
    row 1 0 0 0 255 SavedField ∷
    replicate 18 (row 8 0 0 0 18446744073709551615 SavedField)
