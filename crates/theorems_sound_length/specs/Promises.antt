-- The theorems about two sounds of equal length, one field each. The contract of `promised` is this record, so the
-- prover refuses a field that is false or has no proof.
use Rattle.theorems_sound_length.specs.Lengths.{CreationAlike, CommandsAlike, TakesAlike}
use Rattle.theorems_sound_length.specs.Lengths.{BlocksAlike, MixesAlike, HeldAlike, HeldMixesAlike}
use Rattle.theorems_sound_length.specs.Rows.{RowsAlike}
use Rattle.theorems_sound_length.specs.Archive.{CreationAlikeC, RowsAlikeC}
use Rattle.theorems_sound_length.specs.Witnesses.{Witnesses}

pub record Promises : Type 0 where
  -- one call over two sounds of equal length
  pub creation_alike : CreationAlike
  pub commands_alike : CommandsAlike
  pub takes_alike : TakesAlike
  pub blocks_alike : BlocksAlike
  pub mixes_alike : MixesAlike
  pub held_alike : HeldAlike
  pub held_mixes_alike : HeldMixesAlike
  -- sequences of calls, each call with its own sound
  pub rows_alike : RowsAlike
  -- the same for the archive's entries, on records of numbers
  pub archive_creation_alike : CreationAlikeC
  pub archive_rows_alike : RowsAlikeC
  -- one input for each hypothesis
  pub witnesses : Witnesses
