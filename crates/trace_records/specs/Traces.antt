-- A whole trace: its records one after the other, with nothing between them, written and read.
use Rattle.std.specs.Prelude.{ℕ, zero, suc, ◌-◌, Bool, true, false, ◌&&◌, cond, List, [], ◌∷◌, ◌++◌, eqb, length}
use Rattle.byte_layout.specs.Writes.{fine}
use Rattle.trace_records.specs.Tables.{body}
use Rattle.trace_records.specs.Records.{Found, refused, found, read_record}
use Rattle.trace_records.specs.Writes.{record_of, known, Written, write_record}

-- a record's kind and its numbers
pub record Entry : Type 0 where
  pub kind : ℕ
  pub numbers : List ℕ

-- the bytes of records
unfoldable pub trace_of : List Entry → List ℕ
trace_of [] = []
trace_of (e ∷ es) = record_of e.kind e.numbers ++ trace_of es

-- records that a writer accepts
abbrev pub takes : Entry → Bool
takes e = known e.kind && fine (body e.kind) [] e.numbers

unfoldable pub takes_all : List Entry → Bool
takes_all [] = true
takes_all (e ∷ es) = takes e && takes_all es

-- records written one after the other into a buffer, from an offset on, until one is refused
unfoldable pub write_all : List ℕ → ℕ → List Entry → Written
write_all buf at [] = record { number = 0; next = at; buffer = buf }
write_all buf at (e ∷ es) =
    let w = write_record buf at e.kind e.numbers in
    cond (eqb w.number 0) (write_all w.buffer w.next es) w

-- what a reader of a whole trace finds: its end, a refused record, or a record and what comes after it
pub data Story : Type 0 where
  over : Story
  broken : ℕ → Story
  and_then : Entry → Story → Story

-- after one record of at most suc n bytes: `more` reads on behind it
unfoldable pub onward : ℕ → (ℕ → Story) → Found → Story
onward n more (refused k) = broken k
onward n more (found k ws rest) = and_then (record { kind = k; numbers = ws }) (more (n - length rest))

-- a trace read record by record; k bytes of the current record are left. `read` finds the record at the beginning of
-- bytes
unfoldable pub read_all_by : (List ℕ → Found) → ℕ → List ℕ → Story
read_all_by read k [] = over
read_all_by read (suc k) (b ∷ bs) = read_all_by read k bs
read_all_by read zero (b ∷ bs) = onward (length bs) (λ (k : ℕ). read_all_by read k bs) (read (b ∷ bs))

-- a trace of version 1
abbrev pub read_all : ℕ → List ℕ → Story
read_all = read_all_by read_record

-- the records found, and whether they reach the trace's end
unfoldable pub entries : Story → List Entry
entries over = []
entries (broken k) = []
entries (and_then e s) = e ∷ entries s

unfoldable pub is_whole : Story → Bool
is_whole over = true
is_whole (broken k) = false
is_whole (and_then e s) = is_whole s
