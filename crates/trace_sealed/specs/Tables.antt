-- The layouts of sealed records (docs/formats/TRACE.md, "Version 2"): a row's width, guard, low, least, most, refusal.
use Rattle.std.specs.Prelude.{ℕ, ◌*◌, cond, List, [], ◌∷◌, eqb, get_or}
use Rattle.refusals.specs.declared.Refusal.TheVariants.{Mark, Kind, Record}
use Rattle.byte_layout.specs.declared.Row.{Row}
use Rattle.byte_layout.specs.Rows.{row}
use Rattle.trace_sealed.specs.declared.layouts.Kind as Kinds
use Rattle.trace_sealed.specs.declared.layouts.Kind.TheVariants.{Given, Laned}

-- mark, mark, kind, length
unfoldable pub head_rows : List Row
head_rows =
    row 1 0 0 165 165 Mark ∷
    row 1 0 0 29 29 Mark ∷
    row 1 0 0 4 5 Kind ∷
    row 2 0 0 0 65535 Record ∷ []

-- sample rate; slice, its start and end; start's unit, start; loop, its start and end; reverse; rate; start waits;
-- frames; digest
unfoldable pub given_rows : List Row
given_rows =
    row 4 0 0 0 4294967295 Record ∷
    row 1 0 0 0 6 Record ∷
    row 8 1 1 0 18446744073709551615 Record ∷
    row 8 1 3 0 18446744073709551615 Record ∷
    row 1 0 0 0 1 Record ∷
    row 8 0 0 0 18446744073709551615 Record ∷
    row 1 0 0 0 6 Record ∷
    row 8 6 1 0 18446744073709551615 Record ∷
    row 8 6 3 0 18446744073709551615 Record ∷
    row 1 0 0 0 1 Record ∷
    row 8 0 0 0 18446744073709551615 Record ∷
    row 1 0 0 0 1 Record ∷
    row 4 0 0 0 4294967295 Record ∷
    row 8 0 0 0 18446744073709551615 Record ∷
    row 8 0 0 0 18446744073709551615 Record ∷
    row 8 0 0 0 18446744073709551615 Record ∷
    row 8 0 0 0 18446744073709551615 Record ∷ []

-- frames; time step; finished, start, resume
unfoldable pub laned_rows : List Row
laned_rows =
    row 2 0 0 1 1024 Record ∷
    row 8 0 0 0 18446744073709551615 Record ∷
    row 1 0 0 0 1 Record ∷
    row 1 0 0 0 2 Record ∷
    row 1 0 0 0 2 Record ∷ []

-- a kind's number
abbrev pub kind_number : Kinds.Kind → ℕ
kind_number Given = 4
kind_number Laned = 5

-- the rows of a kind, and how many they are
abbrev pub field_rows : ℕ → List Row
field_rows k = cond (eqb k 4) given_rows laned_rows

abbrev pub field_count : ℕ → ℕ
field_count k = cond (eqb k 4) 17 5

-- the bytes of the lanes that follow the numbers vs of a kind's rows: 24 a frame
abbrev pub lane_bytes : ℕ → List ℕ → ℕ
lane_bytes k vs = cond (eqb k 4) 0 (24 * get_or vs 0 0)
