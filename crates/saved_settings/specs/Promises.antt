-- The theorems about saved settings (request #113). A word is below 2^64, a byte below 256.
use Rattle.std.specs.Prelude.{◌≡◌, ℕ, ◌^◌, ◌<◌, ◌≤◌, true, List, ◌++◌, length, take, replicate, from_bits}
use Rattle.std.proofs.lemmas.List.Edits.{sets}
use Rattle.std.specs.Float.{binary64}
use Rattle.numbers.specs.Words.{finite}
use Rattle.byte_layout.specs.Numbers.{Bytes}
use Rattle.saved_settings.specs.declared.SavedSettings.{SavedSettings}
use Rattle.saved_settings.specs.Records.{
  Loaded,
  finite_bits,
  storable,
  size,
  store_refusal,
  encoded,
  stored,
  loaded,
  refused_by,
}

-- the fields are returned, without a refusal
abbrev pub whole : ℕ → SavedSettings → Loaded
whole version s = record { settings = s; version = version; refusal = 0 }

-- the bytes begin with the record of these fields, which may be stored
pub record Holds (version : ℕ) (s : SavedSettings) (bytes : List ℕ) : Type 0 where
  pub rest : List ℕ
  pub is : bytes ≡ encoded version s ++ rest
  pub may : storable version s ≡ true

-- ---- hypotheses

-- fields that may be stored, in version 1 and in version 2
pub record First (s : SavedSettings) : Type 0 where
  pub word : s.rate < 2 ^ 64
  pub may : storable 1 s ≡ true

pub record Second (s : SavedSettings) : Type 0 where
  pub word : s.rate < 2 ^ 64
  pub pitch_word : s.pitch < 2 ^ 64
  pub may : storable 2 s ≡ true

-- bytes that load as these fields
pub record Loads (version reader : ℕ) (s : SavedSettings) (bytes : List ℕ) : Type 0 where
  pub small : Bytes bytes
  pub shown : loaded reader bytes ≡ whole version s

-- a buffer into which `store` puts these fields
pub record Stores (version : ℕ) (s : SavedSettings) (buffer : List ℕ) : Type 0 where
  pub word : s.rate < 2 ^ 64
  pub pitch_word : s.pitch < 2 ^ 64
  pub takes : store_refusal version s (length buffer) ≡ 0

-- bytes that load as these fields, and a buffer with space for them
pub record LoadsWithRoom (reader version : ℕ) (s : SavedSettings) (bytes buffer : List ℕ) : Type 0 where
  pub small : Bytes bytes
  pub known : 0 < version
  pub shown : loaded reader bytes ≡ whole version s
  pub room : size version ≤ length buffer

-- and inputs that meet them: rate 1, the loop from 3 to 6, two semitones up in version 2
abbrev pub looping : ℕ → SavedSettings
looping pitch = record {
  start = 0;
  has_loop = 1;
  loop_start = 3;
  loop_end = 6;
  reverse = 0;
  rate = 4607182418800017408;
  pitch = pitch;
}

pub record Witnesses : Type 0 where
  pub first : First (looping 0)
  pub second : Second (looping 2)
  pub first_again : Loads 1 1 (looping 0) (encoded 1 (looping 0))
  pub second_again : Loads 2 2 (looping 2) (encoded 2 (looping 2))
  pub store_loads : Stores 2 (looping 2) (replicate 30 0)
  pub load_stores : LoadsWithRoom 2 2 (looping 2) (encoded 2 (looping 2)) (replicate 30 0)

pub record Promises : Type 0 where
  -- what is stored loads as the same fields, whatever follows it: version 1 in every reader, version 2 in its own
  pub first : (reader : ℕ) (s : SavedSettings) (rest : List ℕ) → First s
      → loaded reader (encoded 1 s ++ rest) ≡ whole 1 s
  pub second : (s : SavedSettings) (rest : List ℕ) → Second s → loaded 2 (encoded 2 s ++ rest) ≡ whole 2 s
  -- a version 1 reader refuses version 2 by its number
  pub unknown : (s : SavedSettings) (rest : List ℕ) → loaded 1 (encoded 2 s ++ rest) ≡ refused_by 23
  -- what was loaded is stored as the same bytes
  pub first_again : (reader : ℕ) (s : SavedSettings) (bytes : List ℕ) → Loads 1 reader s bytes → Holds 1 s bytes
  pub second_again : (reader : ℕ) (s : SavedSettings) (bytes : List ℕ) → Loads 2 reader s bytes → Holds 2 s bytes
  -- a rate whose bits pass is a finite number
  pub rates : (bits : ℕ) → finite_bits bits ≡ finite (from_bits binary64 bits)
  -- `load` returns what `store` wrote to the buffer
  pub store_loads : (version : ℕ) (s : SavedSettings) (buffer : List ℕ) → Stores version s buffer
      → loaded 2 (stored version s buffer) ≡ whole version s
  -- and `store` writes what `load` returned as the same bytes, if they fit
  pub load_stores : (reader version : ℕ) (s : SavedSettings) (bytes buffer : List ℕ)
      → LoadsWithRoom reader version s bytes buffer
      → stored version s buffer ≡ sets buffer 0 (take (size version) bytes)
  -- one input for each hypothesis
  pub witnesses : Witnesses
