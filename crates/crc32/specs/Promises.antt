-- The theorems about checksums: the check value of CRC catalogues.
use Rattle.std.specs.Prelude.{◌≡◌, [], ◌∷◌}
use Rattle.crc32.specs.Checksums.{checksum_of}

pub record Promises : Type 0 where
  -- the checksum of the nine digits "123456789" is CBF43926
  pub vector : checksum_of (49 ∷ 50 ∷ 51 ∷ 52 ∷ 53 ∷ 54 ∷ 55 ∷ 56 ∷ 57 ∷ []) ≡ 3421780262
  -- the checksum of no bytes is 0
  pub empty : checksum_of [] ≡ 0
