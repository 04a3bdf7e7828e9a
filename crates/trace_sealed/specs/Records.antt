-- How a sealed record is read: docs/formats/TRACE.md, "How a sealed record is checked". Then a record of any kind.
use Rattle.std.specs.Prelude.{ℕ, ◌+◌, ◌-◌, ◌≤◌, ◌≡◌, Bool, ◌&&◌, cond, List, [], ◌++◌, leb, eqb, length, get_or}
use Rattle.std.specs.Prelude.{take, drop, replicate}
use Rattle.byte_layout.specs.declared.Parsed.{Parsed}
use Rattle.byte_layout.specs.Numbers.{num}
use Rattle.byte_layout.specs.Reads.{Reading, bad, good, steps}
use Rattle.crc32.specs.Checksums.{checksum_of}
use Rattle.trace_records.specs.Records.{Record, Found, refused, found, in_steps, read_record, record_at}
use Rattle.trace_sealed.specs.Tables.{head_rows, field_rows, field_count, lane_bytes}

-- a length that the kind's fields, lanes and checksum can have
unfoldable pub possible : ℕ → ℕ → Bool
possible k n = cond (eqb k 4) (in_steps n 65 97 8) (in_steps n 41 24593 24)

-- the refusal for w bytes of lanes and the checksum's offset, or 0: `left` bytes of payload are left before the
-- checksum, and `input` bytes of input
unfoldable pub tail : ℕ → ℕ → ℕ → ℕ
tail w left input =
    cond (leb w left)
    (cond (leb w input)
    (cond (eqb w left) (cond (leb (w + 4) input) 0 18) 17)
    18)
    (cond (leb left input) 17 18)

-- after the fields come lanes and checksum. `covered` is what the checksum covers
unfoldable pub closed : List ℕ → ℕ → Reading → Found
closed covered k (bad n) = refused n
closed covered k (good left vs bs) =
    let w = lane_bytes k vs in
    let t = tail w left (length bs) in
    cond (eqb t 0)
    (cond (eqb (num (take 4 (drop w bs))) (checksum_of covered))
    (found k (vs ++ take w bs) (drop (w + 4) bs))
    (refused 17))
    (refused t)

-- after the head: a possible length, then the kind's fields. The checksum covers everything except the mark and itself
unfoldable pub bodied : List ℕ → Reading → Found
bodied bs (bad n) = refused n
bodied bs (good l hs rest) =
    let k = get_or hs 2 0 in
    let n = get_or hs 3 0 in
    cond (possible k n)
    (closed (take (n - 1) (drop 2 bs)) k (steps (field_rows k) (good (n - 4) [] rest)))
    (refused 17)

-- the sealed record at the beginning of the bytes
unfoldable pub read_sealed : List ℕ → Found
read_sealed bs = bodied bs (steps head_rows (good 5 [] bs))

-- bytes whose third is kind 4 or 5
abbrev pub is_sealed : List ℕ → Bool
is_sealed bs = leb 4 (get_or bs 2 0) && leb (get_or bs 2 0) 5

-- the record of any kind at the beginning of the bytes
unfoldable pub read_any : List ℕ → Found
read_any bs = cond (is_sealed bs) (read_sealed bs) (read_record bs)

-- and the one that the reader of a version finds: reader 1 knows kinds 1 to 3, any other all five
unfoldable pub read_by : ℕ → List ℕ → Found
read_by v bs = cond (eqb v 1) (read_record bs) (read_any bs)

-- as a value: the fields' numbers, then zeros. The lanes' bytes stay in the trace, before the checksum
unfoldable pub valued : ℕ → ℕ → Found → Record
valued len at (refused n) = record { refusal = n; kind = 0; next = at; values = replicate 80 0 }
valued len at (found k ws rest) =
    record {
      refusal = 0;
      kind = k;
      next = len - length rest;
      values = take (field_count k) ws ++ replicate (80 - field_count k) 0;
    }

-- the sealed record at an offset of the bytes, and the record of any kind
unfoldable pub sealed_at : List ℕ → ℕ → Record
sealed_at s at = valued (length s) at (read_sealed (drop at s))

unfoldable pub any_at : List ℕ → ℕ → Record
any_at s at = cond (is_sealed (drop at s)) (sealed_at s at) (record_at s at)

-- the fields of a record at an offset after they were read: their numbers, zeros after them, and the rest of the
-- payload
pub record Fields (s : List ℕ) (at k n : ℕ) (p : Parsed) : Type 0 where
  pub place : at + 2 ≤ length s
  pub some : 4 ≤ n
  pub inside : p.at ≤ length s
  pub low : get_or p.values 0 0 ≤ 4294967295
  pub zeros : drop (field_count k) p.values ≡ replicate (80 - field_count k) 0
