-- The theorems about a half's bytes: store and load agree in both directions. A word is below 2^64, a byte below 256.
use Rattle.std.specs.Prelude.{ℕ, ◌^◌, ◌≤◌, ◌<◌, ◌≡◌, List, length, get_or, take, replicate}
use Rattle.std.proofs.lemmas.List.Edits.{sets}
use Rattle.byte_layout.specs.Numbers.{Bytes}
use Rattle.saved_loops.specs.Records.{LoadedHalf, names_in, loaded, encoded, store_refusal, stored}

-- the words are returned, without a refusal
abbrev pub whole : List ℕ → LoadedHalf
whole ws = record { words = ws; refusal = 0 }

-- ---- hypotheses

-- a buffer into which `store` writes these words and names
pub record Stores (ws names buffer : List ℕ) : Type 0 where
  pub nineteen : length ws ≡ 19
  pub words : (i : ℕ) → get_or ws i 0 < 2 ^ 64
  pub small : Bytes names
  pub takes : store_refusal ws (length names) (length buffer) ≡ 0

-- bytes that load as these words, and a buffer that is long enough for them
pub record Loads (ws bytes buffer : List ℕ) : Type 0 where
  pub small : Bytes bytes
  pub shows : loaded bytes ≡ whole ws
  pub room : 666 ≤ length buffer

-- ---- and inputs that meet them: hall A's empty half over no frames, without names

abbrev pub no_words : List ℕ
no_words = replicate 19 0

abbrev pub no_names : List ℕ
no_names = replicate 512 0

abbrev pub no_bytes : List ℕ
no_bytes = replicate 666 0

pub record Witnesses : Type 0 where
  pub store_loads : Stores no_words no_names no_bytes
  pub load_stores : Loads no_words (encoded no_words no_names) no_bytes

-- ---- the theorems

-- what is stored loads as the same words and names
pub record Kept (ws names bytes : List ℕ) : Type 0 where
  pub shown : loaded bytes ≡ whole ws
  pub named : names_in bytes ≡ names

pub record Promises : Type 0 where
  -- `load` returns what `store` wrote to the buffer
  pub store_loads : (ws names buffer : List ℕ) → Stores ws names buffer → Kept ws names (stored ws names buffer)
  -- and `store` writes what `load` returned as the same bytes, if they fit
  pub load_stores : (ws bytes buffer : List ℕ) → Loads ws bytes buffer
      → stored ws (names_in bytes) buffer ≡ sets buffer 0 (take 666 bytes)
  -- one input for each hypothesis
  pub witnesses : Witnesses
