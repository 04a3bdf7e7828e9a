-- Writing a record: its bytes, and the buffer after a write.
use Rattle.std.specs.Prelude.{ℕ, ◌+◌, ◌-◌, ◌≡◌, Bool, false, ◌&&◌, cond, List, [], ◌∷◌, ◌++◌, leb, length, take, drop}
use Rattle.std.specs.Prelude.{Result, Ok, Err}
use Rattle.byte_layout.specs.Writes.{payload, fine}
use Rattle.refusals.specs.declared.Refusal.{Refusal}
use Rattle.refusals.specs.declared.Refusal.TheVariants as refusal
use Rattle.refusals.specs.Numbers.{number}
use Rattle.trace_records.specs.declared.tables.Kind.{Kind}
use Rattle.trace_records.specs.Tables.{head_rows, body, kind_number}

-- the head of a record: mark, kind, the payload's length
abbrev pub head_of : ℕ → ℕ → List ℕ
head_of k n = 165 ∷ 29 ∷ k ∷ n ∷ []

-- the bytes of a record of the kind
unfoldable pub record_of : ℕ → List ℕ → List ℕ
record_of k ws = payload head_rows [] (head_of k (length (payload (body k) [] ws))) ++ payload (body k) [] ws

abbrev pub known : ℕ → Bool
known k = leb 1 k && leb k 3

-- the kind of a number
abbrev pub Named : ℕ → Result Kind Refusal → Type 0
Named n (Ok k) = n ≡ kind_number k
Named n (Err e) = (e ≡ refusal.Kind) × (known n ≡ false)

-- the outcome of a write: its refusal, the next offset, the buffer
pub record Written : Type 0 where
  pub number : ℕ
  pub next : ℕ
  pub buffer : List ℕ

-- 0 or a refusal, and the next offset
pub record Sent : Type 0 where
  pub refusal : ℕ
  pub next : ℕ

-- what a write at an offset returns: a refused one keeps the offset
abbrev pub sent : ℕ → Result ℕ Refusal → Sent
sent at (Ok n) = record { refusal = 0; next = n }
sent at (Err e) = record { refusal = number e; next = at }

abbrev pub sent_of : Sent → List ℕ → Written
sent_of a buf = record { number = a.refusal; next = a.next; buffer = buf }

-- the fields ws written as a record at `at`: 16 for an unknown kind, 17 for a field above its limit, 19 for too
-- little space, with the buffer unchanged; otherwise the record's bytes, and every other byte unchanged
unfoldable pub write_record : List ℕ → ℕ → ℕ → List ℕ → Written
write_record buf at k ws =
    cond (known k)
    (cond (fine (body k) [] ws)
    (cond (leb (length (record_of k ws)) (length buf - at))
    (record {
      number = 0;
      next = at + length (record_of k ws);
      buffer = take at buf ++ record_of k ws ++ drop (at + length (record_of k ws)) buf;
    })
    (record { number = 19; next = at; buffer = buf }))
    (record { number = 17; next = at; buffer = buf }))
    (record { number = 16; next = at; buffer = buf })
