-- The theorems about a trace's records (requests #104 and #105): what is written is read back as the same fields,
-- whatever follows it, and what is read is written again byte for byte; the same for whole traces; and a read looks
-- at no more than 575 bytes.
use Rattle.std.specs.Prelude.{ℕ, ◌+◌, ◌-◌, ◌≤◌, ◌≡◌, true, cond, List, [], ◌∷◌, ◌++◌, leb, length, take, drop}
use Rattle.std.specs.Prelude.{replicate}
use Rattle.byte_layout.specs.Numbers.{Bytes}
use Rattle.byte_layout.specs.Writes.{fine}
use Rattle.trace_records.specs.Tables.{body, fields}
use Rattle.trace_records.specs.Records.{found, read_record, record_at}
use Rattle.trace_records.specs.Writes.{record_of, known, Written, write_record}
use Rattle.trace_records.specs.Traces.{Entry, trace_of, takes_all, write_all, read_all, entries, is_whole}

-- the bytes begin with the record of these fields, which a writer accepts
pub record Kept (bs : List ℕ) (k : ℕ) (ws rest : List ℕ) : Type 0 where
  pub kind : known k ≡ true
  pub takes : fine (body k) [] ws ≡ true
  pub same : bs ≡ record_of k ws ++ rest

-- a trace that is read to its end as these records
pub record Reads (bs : List ℕ) (es : List Entry) : Type 0 where
  pub to_the_end : is_whole (read_all 0 bs) ≡ true
  pub same : entries (read_all 0 bs) ≡ es

-- records written one after the other: no byte before or after them changes, and the bytes between are a trace of
-- them
pub record Appended (buf : List ℕ) (at : ℕ) (es : List Entry) (next : ℕ) (new : List ℕ) : Type 0 where
  pub before : take at new ≡ take at buf
  pub behind : drop next new ≡ drop next buf
  pub trace : Reads (take (next - at) (drop at new)) es

-- the first n bytes written into a buffer at an offset; 19 if there is too little space
abbrev pub copied : List ℕ → ℕ → ℕ → List ℕ → Written
copied buf at n bs =
    cond (leb n (length buf - at))
    (record { number = 0; next = at + n; buffer = take at buf ++ take n bs ++ drop (at + n) buf })
    (record { number = 19; next = at; buffer = buf })

-- ---- hypotheses

-- a known kind, and fields that a writer accepts
pub record Writable (k : ℕ) (ws : List ℕ) : Type 0 where
  pub kind : known k ≡ true
  pub takes : fine (body k) [] ws ≡ true

-- bytes that begin with a record
pub record Begins (bs : List ℕ) (k : ℕ) (ws rest : List ℕ) : Type 0 where
  pub bytes : Bytes bs
  pub reads : read_record bs ≡ found k ws rest

-- records that a writer accepts, all of them
abbrev pub Takes : List Entry → Type 0
Takes es = takes_all es ≡ true

-- bytes that are read to their end
pub record Whole (bs : List ℕ) : Type 0 where
  pub bytes : Bytes bs
  pub to_the_end : is_whole (read_all 0 bs) ≡ true

-- a buffer into which all of them are written
abbrev pub Writes : List ℕ → ℕ → List Entry → Type 0
Writes buf at es = (write_all buf at es).number ≡ 0

-- as many bytes as the longest record has
abbrev pub Wide : ℕ → ℕ → Type 0
Wide at end = at + 575 ≤ end

-- bytes at an offset of which `read` returns a record
pub record Answers (bs : List ℕ) (at : ℕ) : Type 0 where
  pub bytes : Bytes bs
  pub reads : (record_at bs at).refusal ≡ 0

-- a buffer into which `write` puts a record
abbrev pub Puts : List ℕ → ℕ → ℕ → List ℕ → Type 0
Puts buf at k vs = (write_record buf at k (take (fields k) vs)).number ≡ 0

-- and inputs that meet it: a command set that pauses, 12 bytes long
abbrev pub pause_numbers : List ℕ
pause_numbers = 0 ∷ 0 ∷ 0 ∷ 0 ∷ 0 ∷ 1 ∷ 0 ∷ 0 ∷ 0 ∷ 0 ∷ 0 ∷ 0 ∷ []

abbrev pub pause_record : List ℕ
pause_record = 165 ∷ 29 ∷ 2 ∷ 7 ∷ 0 ∷ 0 ∷ 0 ∷ 1 ∷ 0 ∷ 0 ∷ 0 ∷ 0 ∷ []

abbrev pub pauses : List Entry
pauses = record { kind = 2; numbers = pause_numbers } ∷ []

pub record Witnesses : Type 0 where
  pub read_back : Writable 2 pause_numbers
  pub written_again : Begins pause_record 2 pause_numbers []
  pub trace_read_back : Takes pauses
  pub trace_written_again : Whole pause_record
  pub trace_appended : Writes (replicate 20 0) 4 pauses
  pub window : Wide 0 575
  pub answer_written : Answers pause_record 0
  pub written_answer : Puts (replicate 20 0) 4 2 pause_numbers

pub record Promises : Type 0 where
  pub read_back : (k : ℕ) (ws rest : List ℕ) → Writable k ws → read_record (record_of k ws ++ rest) ≡ found k ws rest
  pub written_again : (bs : List ℕ) (k : ℕ) (ws rest : List ℕ) → Begins bs k ws rest → Kept bs k ws rest
  pub trace_read_back : (es : List Entry) → Takes es → Reads (trace_of es) es
  pub trace_written_again : (bs : List ℕ) → Whole bs → bs ≡ trace_of (entries (read_all 0 bs))
  pub trace_appended : (buf : List ℕ) (at : ℕ) (es : List Entry) → Writes buf at es
      → Appended buf at es (write_all buf at es).next (write_all buf at es).buffer
  pub window : (bs : List ℕ) (at end : ℕ) → Wide at end → record_at (take end bs) at ≡ record_at bs at
  -- `write` writes what `read` returned as the same bytes
  pub answer_written : (bs : List ℕ) (at : ℕ) (buf : List ℕ) (to : ℕ) → Answers bs at
      → let r = record_at bs at in write_record buf to r.kind (take (fields r.kind) r.values)
      ≡ copied buf to (r.next - at) (drop at bs)
  -- and `read` returns what `write` wrote to the buffer
  pub written_answer : (buf : List ℕ) (at k : ℕ) (vs : List ℕ) → Puts buf at k vs
      → let w = write_record buf at k (take (fields k) vs) in
      record_at w.buffer at ≡ record {
        refusal = 0;
        kind = k;
        next = w.next;
        values = take (fields k) vs ++ replicate (80 - fields k) 0;
      }
  -- one input for each hypothesis
  pub witnesses : Witnesses
