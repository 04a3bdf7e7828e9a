-- The layouts of docs/formats/TRACE.md: a row's width, guard, low, least, most, refusal. A row is present if the number
-- of its guard, an earlier row, is at least `low`.
use Rattle.std.specs.Prelude.{ℕ, zero, suc, cond, List, [], ◌∷◌, eqb}
use Rattle.refusals.specs.declared.Refusal.TheVariants.{Mark, Kind, Record}
use Rattle.byte_layout.specs.declared.Row.{Row}
use Rattle.byte_layout.specs.Rows.{row}
use Rattle.trace_records.specs.declared.tables.Kind as Kinds
use Rattle.trace_records.specs.declared.tables.Kind.TheVariants.{Creation, Commands, Block}

-- mark, mark, kind, length
unfoldable pub head_rows : List Row
head_rows =
    row 1 0 0 165 165 Mark ∷
    row 1 0 0 29 29 Mark ∷
    row 1 0 0 1 3 Kind ∷
    row 2 0 0 0 65535 Record ∷ []

-- n frames of a sound from frame k on, eight bytes each: frame k is present if there are more than k
unfoldable pub frame_rows : ℕ → ℕ → List Row
frame_rows k zero = []
frame_rows k (suc n) = row 8 12 (suc k) 0 18446744073709551615 Record ∷ frame_rows (suc k) n

-- sample rate; slice, its start and end; start's unit, start; loop, its start and end; reverse; rate; start waits;
-- frames
unfoldable pub creation_rows : List Row
creation_rows =
    row 4 0 0 0 4294967295 Record ∷
    row 1 0 0 0 6 Record ∷
    row 8 1 1 0 18446744073709551615 Record ∷
    row 8 1 3 0 18446744073709551615 Record ∷
    row 1 0 0 0 1 Record ∷
    row 8 0 0 0 18446744073709551615 Record ∷
    row 1 0 0 0 6 Record ∷
    row 8 6 1 0 18446744073709551615 Record ∷
    row 8 6 3 0 18446744073709551615 Record ∷
    row 1 0 0 0 1 Record ∷
    row 8 0 0 0 18446744073709551615 Record ∷
    row 1 0 0 0 1 Record ∷
    row 1 0 0 0 64 Record ∷
    frame_rows 0 64

-- rate's tag, rate; loop, its start and end; pause; resume; stop; seek_by's tag, seek_by; seek_to's tag, seek_to
unfoldable pub command_rows : List Row
command_rows =
    row 1 0 0 0 1 Record ∷
    row 8 0 1 0 18446744073709551615 Record ∷
    row 1 0 0 0 7 Record ∷
    row 8 2 2 0 18446744073709551615 Record ∷
    row 8 2 4 0 18446744073709551615 Record ∷
    row 1 0 0 0 1 Record ∷
    row 1 0 0 0 2 Record ∷
    row 1 0 0 0 1 Record ∷
    row 1 0 0 0 1 Record ∷
    row 8 8 1 0 18446744073709551615 Record ∷
    row 1 0 0 0 1 Record ∷
    row 8 10 1 0 18446744073709551615 Record ∷ []

-- frames; fade, volume, left, right; rate; time step; finished, start, resume
unfoldable pub block_rows : List Row
block_rows =
    row 2 0 0 0 1024 Record ∷
    row 4 0 0 0 4294967295 Record ∷
    row 4 0 0 0 4294967295 Record ∷
    row 4 0 0 0 4294967295 Record ∷
    row 4 0 0 0 4294967295 Record ∷
    row 8 0 0 0 18446744073709551615 Record ∷
    row 8 0 0 0 18446744073709551615 Record ∷
    row 1 0 0 0 1 Record ∷
    row 1 0 0 0 2 Record ∷
    row 1 0 0 0 2 Record ∷ []

-- a kind's number
abbrev pub kind_number : Kinds.Kind → ℕ
kind_number Creation = 1
kind_number Commands = 2
kind_number Block = 3

-- the rows of a kind, and how many they are
abbrev pub body : ℕ → List Row
body k = cond (eqb k 1) creation_rows (cond (eqb k 2) command_rows block_rows)

abbrev pub fields : ℕ → ℕ
fields k = cond (eqb k 1) 77 (cond (eqb k 2) 12 10)
