-- How a sealed record is written: its bytes, and the buffer after a write.
use Rattle.std.specs.Prelude.{ℕ, ◌+◌, ◌-◌, ◌≡◌, Bool, true, false, ◌&&◌, cond, List, [], ◌++◌, leb, eqb, length}
use Rattle.std.specs.Prelude.{take, drop, Result, Ok, Err}
use Rattle.byte_layout.specs.Numbers.{Bytes, bytes}
use Rattle.byte_layout.specs.Writes.{payload, fine}
use Rattle.crc32.specs.Checksums.{checksum_of}
use Rattle.trace_records.specs.Tables.{fields}
use Rattle.trace_records.specs.Writes.{head_of, Written, write_record}
use Rattle.refusals.specs.declared.Refusal.{Refusal}
use Rattle.refusals.specs.declared.Refusal.TheVariants as refusal
use Rattle.trace_sealed.specs.declared.layouts.Kind.{Kind}
use Rattle.trace_sealed.specs.Tables.{head_rows, kind_number, field_rows, field_count, lane_bytes}

-- the payload before the checksum: the fields' numbers, then the lanes' bytes
abbrev pub body_of : ℕ → List ℕ → List ℕ → List ℕ
body_of k vs lanes = payload (field_rows k) [] vs ++ lanes

-- the record without its checksum
unfoldable pub unsealed : ℕ → List ℕ → List ℕ → List ℕ
unsealed k vs lanes = payload head_rows [] (head_of k (length (body_of k vs lanes) + 4)) ++ body_of k vs lanes

-- the bytes of a sealed record: the checksum covers everything except the mark
unfoldable pub sealed_of : ℕ → List ℕ → List ℕ → List ℕ
sealed_of k vs lanes = unsealed k vs lanes ++ bytes 4 (checksum_of (drop 2 (unsealed k vs lanes)))

abbrev pub sealed_kind : ℕ → Bool
sealed_kind k = leb 4 k && leb k 5

-- the kind of a number
abbrev pub Named : ℕ → Result Kind Refusal → Type 0
Named n (Ok k) = n ≡ kind_number k
Named n (Err e) = (e ≡ refusal.Kind) × (sealed_kind n ≡ false)

-- numbers and lanes that a sealed record of the kind can have
pub record Sealable (k : ℕ) (vs lanes : List ℕ) : Type 0 where
  pub kind : sealed_kind k ≡ true
  pub takes : fine (field_rows k) [] vs ≡ true
  pub whole : length lanes ≡ lane_bytes k vs
  pub bytes : Bytes lanes

-- numbers and lanes written as a sealed record at `at`: 17 if a number is beyond its limit or the lanes have another
-- length, 19 if the buffer is too short, both with the buffer unchanged; otherwise the record's bytes, with every other
-- byte unchanged
unfoldable pub write_sealed : List ℕ → ℕ → ℕ → List ℕ → List ℕ → Written
write_sealed buf at k vs lanes =
    cond (fine (field_rows k) [] vs)
    (cond (eqb (length lanes) (lane_bytes k vs))
    (cond (leb (length (sealed_of k vs lanes)) (length buf - at))
    (record {
      number = 0;
      next = at + length (sealed_of k vs lanes);
      buffer = take at buf ++ sealed_of k vs lanes ++ drop (at + length (sealed_of k vs lanes)) buf;
    })
    (record { number = 19; next = at; buffer = buf }))
    (record { number = 17; next = at; buffer = buf }))
    (record { number = 17; next = at; buffer = buf })

-- a record of any kind: kinds 1 to 3 are written as in version 1, and the lanes are ignored
unfoldable pub write_any : List ℕ → ℕ → ℕ → List ℕ → List ℕ → Written
write_any buf at k vs lanes =
    cond (sealed_kind k)
    (write_sealed buf at k (take (field_count k) vs) lanes)
    (write_record buf at k (take (fields k) vs))
