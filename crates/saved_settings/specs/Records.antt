-- Saved settings as a record of bytes: docs/formats/SETTINGS.md, request #113.
use Rattle.std.specs.Prelude.{ℕ, ◌+◌, ◌%◌, ◌^◌, Bool, false, cond, ◌&&◌, ◌||◌, List, [], ◌∷◌, length, ◌==◌}
use Rattle.std.specs.Prelude.{nat_le, nat_lt, slice_index, Result, Ok, Err}
use Rattle.std.proofs.lemmas.List.Edits.{sets}
use Rattle.refusals.specs.declared.Refusal.{Refusal}
use Rattle.refusals.specs.Numbers.{number}
use Rattle.byte_layout.specs.Reads.{Reading, bad, good, steps}
use Rattle.byte_layout.specs.Writes.{payload}
use Rattle.byte_layout.specs.declared.Row.{Row}
use Rattle.saved_settings.specs.declared.SavedSettings.{SavedSettings}
use Rattle.saved_settings.specs.declared.Loaded as Answer
use Rattle.saved_settings.specs.declared.Version.{Version}
use Rattle.saved_settings.specs.declared.Version.TheVariants.{First, Second}
use Rattle.saved_settings.specs.Tables.{first_rows, second_rows}

-- ---- versions

abbrev pub version_number : Version → ℕ
version_number First = 1
version_number Second = 2

abbrev pub layout : Version → List Row
layout First = first_rows
layout Second = second_rows

-- ---- fields

-- none is (0, 0); a loop that is given starts below its end
abbrev pub loop_right : SavedSettings → Bool
loop_right s = cond (s.has_loop == 0) (s.loop_start == 0 && s.loop_end == 0) (s.has_loop == 1
    && nat_lt s.loop_start s.loop_end)

-- a finite rate, by its bits: the exponent's field is not all ones
abbrev pub finite_bits : ℕ → Bool
finite_bits bits = nat_lt (bits % 9223372036854775808) 9218868437227405312

-- -24 to 24, in two's complement
abbrev pub pitch_right : ℕ → Bool
pitch_right p = nat_le p 24 || nat_le 18446744073709551592 p

-- 24: a field that is not one of these is wrong
abbrev pub well_formed : SavedSettings → Bool
well_formed s = loop_right s && nat_le s.start 4294967295 && nat_le s.loop_end 4294967295 && nat_le s.reverse 1
    && finite_bits s.rate && pitch_right s.pitch

-- ---- loading

-- a byte with a sign as a word
abbrev pub signed : ℕ → ℕ
signed byte = cond (nat_lt byte 128) byte ((byte + 18446744073709551360) % 2 ^ 64)

-- both loop fields 0 for none
abbrev pub has_loop_word : ℕ → ℕ → ℕ
has_loop_word a b = cond (a == 0 && b == 0) 0 1

-- version 1 has no pitch
abbrev pub pitch_of : ℕ → ℕ → ℕ
pitch_of version byte = cond (version == 2) (signed byte) 0

-- the fields among the numbers of a record
abbrev pub saved_of : ℕ → List ℕ → SavedSettings
saved_of version vs =
    record {
      start = slice_index vs 4;
      has_loop = has_loop_word (slice_index vs 5) (slice_index vs 6);
      loop_start = slice_index vs 5;
      loop_end = slice_index vs 6;
      reverse = slice_index vs 7;
      rate = slice_index vs 8;
      pitch = pitch_of version (slice_index vs 9);
    }

abbrev pub nothing : SavedSettings
nothing = record { start = 0; has_loop = 0; loop_start = 0; loop_end = 0; reverse = 0; rate = 0; pitch = 0 }

-- the fields and their version, or a refusal, which is 0 if there is none
pub record Loaded : Type 0 where
  pub settings : SavedSettings
  pub version : ℕ
  pub refusal : ℕ

-- if refused, every field is 0
abbrev pub refused_by : ℕ → Loaded
refused_by k = record { settings = nothing; version = 0; refusal = k }

abbrev pub shown : ℕ → SavedSettings → Loaded
shown version s = cond (well_formed s) (record { settings = s; version = version; refusal = 0 }) (refused_by 24)

-- what a load answers
abbrev pub loaded_of : Result Answer.Loaded Refusal → Loaded
loaded_of (Ok l) = record { settings = l.settings; version = l.version; refusal = 0 }
loaded_of (Err r) = record { settings = nothing; version = 0; refusal = number r }

-- the fields are checked once all bytes are there
unfoldable pub judged : ℕ → Reading → Loaded
judged version (bad k) = refused_by k
judged version (good left vs rest) = shown version (saved_of version vs)

-- reader 1 knows version 1 only, any other reader also version 2
abbrev pub second : ℕ → List ℕ → Bool
second reader bs = cond (reader == 1) false (slice_index bs 2 == 2)

-- the version that a reader reads
abbrev pub version_in : ℕ → List ℕ → Version
version_in reader bs = cond (second reader bs) Second First

unfoldable pub loaded : ℕ → List ℕ → Loaded
loaded reader bs = cond (second reader bs) (judged 2 (steps second_rows (good 26 [] bs)))
    (judged 1 (steps first_rows (good 25 [] bs)))

-- ---- storing

-- version 1 has no pitch
abbrev pub storable : ℕ → SavedSettings → Bool
storable version s = well_formed s && cond (version == 1) (s.pitch == 0) (version == 2)

abbrev pub size : ℕ → ℕ
size version = cond (version == 1) 25 26

-- 24, then 19
abbrev pub store_refusal : ℕ → SavedSettings → ℕ → ℕ
store_refusal version s room = cond (storable version s) (cond (nat_le (size version) room) 0 19) 24

abbrev pub first_numbers : SavedSettings → List ℕ
first_numbers s = 94 ∷ 113 ∷ 1 ∷ 21 ∷ s.start ∷ s.loop_start ∷ s.loop_end ∷ s.reverse ∷ s.rate ∷ []

abbrev pub second_numbers : SavedSettings → List ℕ
second_numbers s = 94 ∷ 113 ∷ 2 ∷ 22 ∷ s.start ∷ s.loop_start ∷ s.loop_end ∷ s.reverse ∷ s.rate
    ∷ s.pitch % 256 ∷ []

abbrev pub numbers : Version → SavedSettings → List ℕ
numbers First s = first_numbers s
numbers Second s = second_numbers s

-- the bytes of a record
unfoldable pub encoded : ℕ → SavedSettings → List ℕ
encoded version s = cond (version == 1) (payload first_rows [] (first_numbers s))
    (payload second_rows [] (second_numbers s))

-- the buffer afterwards: the record at its start, or unchanged
unfoldable pub stored : ℕ → SavedSettings → List ℕ → List ℕ
stored version s buffer =
    cond (store_refusal version s (length buffer) == 0) (sets buffer 0 (encoded version s)) buffer
