-- The layouts of docs/formats/SETTINGS.md, head and fields in one: a row's width, guard, low, least, most, refusal.
-- Every row is present.
use Rattle.std.specs.Prelude.{List, [], ◌∷◌}
use Rattle.refusals.specs.declared.Refusal.TheVariants.{Mark, Version, SavedField}
use Rattle.byte_layout.specs.declared.Row.{Row}
use Rattle.byte_layout.specs.Rows.{row}

-- mark, mark, version, length; start, loop start, loop end, flag, the rate's bits
unfoldable pub first_rows : List Row
first_rows =
    row 1 0 0 94 94 Mark ∷
    row 1 0 0 113 113 Mark ∷
    row 1 0 0 1 1 Version ∷
    row 1 0 0 21 21 SavedField ∷
    row 4 0 0 0 4294967295 SavedField ∷
    row 4 0 0 0 4294967295 SavedField ∷
    row 4 0 0 0 4294967295 SavedField ∷
    row 1 0 0 0 255 SavedField ∷
    row 8 0 0 0 18446744073709551615 SavedField ∷ []

-- the same and the pitch's byte
unfoldable pub second_rows : List Row
second_rows =
    row 1 0 0 94 94 Mark ∷
    row 1 0 0 113 113 Mark ∷
    row 1 0 0 2 2 Version ∷
    row 1 0 0 22 22 SavedField ∷
    row 4 0 0 0 4294967295 SavedField ∷
    row 4 0 0 0 4294967295 SavedField ∷
    row 4 0 0 0 4294967295 SavedField ∷
    row 1 0 0 0 255 SavedField ∷
    row 8 0 0 0 18446744073709551615 SavedField ∷
    row 1 0 0 0 255 SavedField ∷ []
