-- The bytes of a hall's half of a loop table: docs/formats/LOOPS.md. A half is nineteen words: hall (A is 0, B is 1),
-- frames of the sound, number of changes, then start and end of its eight slots.
use Rattle.std.specs.Prelude.{ℕ, zero, suc, ◌+◌, ◌*◌, Bool, true, ◌&&◌, cond, List, [], ◌∷◌, ◌++◌, leb, eqb, length}
use Rattle.std.specs.Prelude.{get_or, take, drop, replicate, Result, Ok, Err}
use Rattle.std.proofs.lemmas.List.Edits.{sets}
use Rattle.refusals.specs.declared.Refusal.{Refusal}
use Rattle.refusals.specs.Numbers.{number}
use Rattle.byte_layout.specs.Numbers.{num, bytes}
use Rattle.byte_layout.specs.Reads.{Reading, bad, good, steps}
use Rattle.byte_layout.specs.Writes.{payload}
use Rattle.crc32.specs.Checksums.{checksum_of}
use Rattle.loop_table.specs.declared.LoopSlot.{LoopSlot}
use Rattle.loop_table.specs.Tables.{well_formed_slot}
use Rattle.saved_loops.specs.Tables.{half_rows}

-- ---- fields

abbrev pub slot_at : List ℕ → ℕ → LoopSlot
slot_at ws k = record { start = get_or ws (3 + 2 * k) 0; end = get_or ws (4 + 2 * k) 0 }

-- each of the first n slots is empty or has a loop of the sound
unfoldable pub well_formed_slots : ℕ → List ℕ → Bool
well_formed_slots zero ws = true
well_formed_slots (suc n) ws = well_formed_slots n ws && well_formed_slot (get_or ws 1 0) (slot_at ws n)

-- 24: a field that is not one of these is wrong
abbrev pub well_formed : List ℕ → Bool
well_formed ws = leb (get_or ws 0 0) 1 && well_formed_slots 8 ws

-- ---- loading

-- the names in a record, 64 bytes per slot
abbrev pub names_in : List ℕ → List ℕ
names_in bs = take 512 (drop 150 bs)

-- the last four bytes are the CRC-32 of all bytes before them
abbrev pub crc_right : List ℕ → Bool
crc_right bs = eqb (num (take 4 (drop 662 bs))) (checksum_of (take 662 bs))

-- the words of a half and a refusal, which is 0 if there is none
pub record LoadedHalf : Type 0 where
  pub words : List ℕ
  pub refusal : ℕ

-- what a load answers
abbrev pub half_of : Result (List ℕ) Refusal → LoadedHalf
half_of (Ok ws) = record { words = ws; refusal = 0 }
half_of (Err r) = record { words = replicate 19 0; refusal = number r }

-- if refused, every word is 0
abbrev pub refused_by : ℕ → LoadedHalf
refused_by k = record { words = replicate 19 0; refusal = k }

abbrev pub shown : Bool → List ℕ → LoadedHalf
shown ok ws = cond ok (record { words = ws; refusal = 0 }) (refused_by 24)

-- the head is checked byte by byte; the fields and the CRC are checked once all bytes are there
unfoldable pub judged : List ℕ → Reading → LoadedHalf
judged bs (bad k) = refused_by k
judged bs (good left vs rest) =
    cond (leb 666 (length bs)) (shown (well_formed (drop 4 vs) && crc_right bs) (drop 4 vs)) (refused_by 18)

unfoldable pub loaded : List ℕ → LoadedHalf
loaded bs = judged bs (steps half_rows (good 666 [] bs))

-- ---- storing

abbrev pub half_numbers : List ℕ → List ℕ
half_numbers ws = 167 ∷ 76 ∷ 1 ∷ 661 ∷ ws

-- all but the CRC
unfoldable pub body : List ℕ → List ℕ → List ℕ
body ws names = payload half_rows [] (half_numbers ws) ++ names

unfoldable pub encoded : List ℕ → List ℕ → List ℕ
encoded ws names = body ws names ++ bytes 4 (checksum_of (body ws names))

abbrev pub storable : List ℕ → ℕ → Bool
storable ws named = well_formed ws && eqb named 512

-- 24, then 19
abbrev pub store_refusal : List ℕ → ℕ → ℕ → ℕ
store_refusal ws named room = cond (storable ws named) (cond (leb 666 room) 0 19) 24

-- the buffer afterwards: the record at its start, or unchanged
unfoldable pub stored : List ℕ → List ℕ → List ℕ → List ℕ
stored ws names buffer =
    cond (eqb (store_refusal ws (length names) (length buffer)) 0) (sets buffer 0 (encoded ws names)) buffer
