-- A record read: docs/formats/TRACE.md, "How a record is judged". Then the record as a value.
use Rattle.std.specs.Prelude.{ℕ, ◌-◌, ◌%◌, Bool, ◌&&◌, cond, List, [], ◌++◌, leb, eqb}
use Rattle.std.specs.Prelude.{length, get_or, drop, replicate, Result, Ok, Err}
use Rattle.refusals.specs.declared.Refusal.{Refusal}
use Rattle.refusals.specs.Numbers.{number}
use Rattle.byte_layout.specs.Reads.{Reading, bad, good, steps}
use Rattle.trace_records.specs.declared.Record as Answer
use Rattle.trace_records.specs.Tables.{head_rows, body}

-- a kind's shortest and longest payload
abbrev pub shortest : ℕ → ℕ
shortest k = cond (eqb k 1) 26 (cond (eqb k 2) 7 37)

abbrev pub longest : ℕ → ℕ
longest k = cond (eqb k 1) 570 (cond (eqb k 2) 47 37)

-- from `low` to `high`, in steps
unfoldable pub in_steps : ℕ → ℕ → ℕ → ℕ → Bool
in_steps n low high by = leb low n && leb n high && eqb ((n - low) % by) 0

-- a length that the kind's fields can have
unfoldable pub possible : ℕ → ℕ → Bool
possible k n = leb (shortest k) n && leb n (longest k) && eqb ((n - shortest k) % 8) 0

-- what is found at the beginning of bytes: a refusal; or a record, its kind, its numbers and the bytes after it
pub data Found : Type 0 where
  refused : ℕ → Found
  found : ℕ → List ℕ → List ℕ → Found

-- the fields end where the length says
unfoldable pub ended : ℕ → Reading → Found
ended k (bad n) = refused n
ended k (good left ws rest) = cond (eqb left 0) (found k ws rest) (refused 17)

-- after the head: a length that is possible, then the kind's fields
unfoldable pub bodied : Reading → Found
bodied (bad n) = refused n
bodied (good l hs bs) =
    let k = get_or hs 2 0 in
    let n = get_or hs 3 0 in
    cond (possible k n) (ended k (steps (body k) (good n [] bs))) (refused 17)

-- the record that bytes begin with: the head's five bytes, then the payload
unfoldable pub read_record : List ℕ → Found
read_record bs = bodied (steps head_rows (good 5 [] bs))

-- a record by value: 0 or a refusal, the kind, the offset after it, and the numbers in the layout's order
pub record Record : Type 0 where
  pub refusal : ℕ
  pub kind : ℕ
  pub next : ℕ
  pub values : List ℕ

-- what a read of the record at an offset returns
abbrev pub record_read : ℕ → Result Answer.Record Refusal → Record
record_read at (Ok r) = record { refusal = 0; kind = r.kind; next = r.next; values = r.values }
record_read at (Err e) = record { refusal = number e; kind = 0; next = at; values = replicate 80 0 }

-- as a value: the numbers, then zeros; a refused record has no kind and no numbers, and keeps the offset
unfoldable pub valued : ℕ → ℕ → Found → Record
valued len at (refused n) = record { refusal = n; kind = 0; next = at; values = replicate 80 0 }
valued len at (found k ws rest) = record {
  refusal = 0;
  kind = k;
  next = len - length rest;
  values = ws ++ replicate (80 - length ws) 0;
}

-- the record at an offset of the bytes
unfoldable pub record_at : List ℕ → ℕ → Record
record_at s at = valued (length s) at (read_record (drop at s))
