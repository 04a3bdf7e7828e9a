-- One input for each hypothesis: the examples' ten frames of +0, and ten frames of NaN. The two voices differ in their
-- windows.
use Rattle.std.specs.Prelude.{false, List, [], ◌∷◌, replicate, Float}
use Rattle.std.specs.Float.{nan}
use Rattle.numbers.specs.Words.{one}
use Rattle.sound_state.specs.declared.StaticSound.{StaticSound}
use Rattle.sound_creation.specs.Creation.{created}
use Rattle.c_state.specs.Records.{encoded}
use Rattle.theorems.specs.InTheLoop.{Call, Block, Mix, Command}
use Rattle.theorems.specs.ArchiveInTheLoop as archive
use Rattle.theorems.specs.ArchiveInTheLoop.{CallC}
use Rattle.theorems.specs.Examples.{ten, from}
use Rattle.theorems.specs.Witnesses.{voice, state, lanes, waiting, faded_c, output, mix, stop, stop_c}
use Rattle.theorems_sound_length.specs.Lengths.{SameLength, OtherSound, OtherBlock}
use Rattle.theorems_sound_length.specs.Rows.{OtherRow}
use Rattle.theorems_sound_length.specs.Archive.{OtherRowC}

abbrev pub nans : List Float
nans = replicate 20 nan

abbrev pub voice_of_nans : StaticSound
voice_of_nans = (created nans (from 0 false)).voice

-- a stop, a block, and the same block into a mix with other contents
abbrev pub calls : List Float → List Float → List Call
calls snd into = Command snd stop ∷ Block snd one lanes waiting output ∷ Mix snd one lanes waiting into 1 ∷ []

abbrev pub calls_c : List Float → List Float → List CallC
calls_c snd into =
    archive.Command snd stop_c
    ∷ archive.Block snd one lanes faded_c output
    ∷ archive.Mix snd one lanes faded_c into 1
    ∷ []

pub record Witnesses : Type 0 where
  pub creation_alike : SameLength ten nans
  pub commands_alike : OtherSound ten nans voice voice_of_nans
  pub takes_alike : OtherSound ten nans voice voice_of_nans
  pub blocks_alike : OtherBlock ten nans voice voice_of_nans output (replicate 4 nan)
  pub mixes_alike : OtherBlock ten nans voice voice_of_nans mix (replicate 6 nan)
  pub held_alike : OtherBlock ten nans voice voice_of_nans output (replicate 4 nan)
  pub held_mixes_alike : OtherBlock ten nans voice voice_of_nans mix (replicate 6 nan)
  pub rows_alike : OtherRow (calls ten mix) (calls nans (replicate 6 nan)) voice voice_of_nans
  pub archive_creation_alike : SameLength ten nans
  pub archive_rows_alike : OtherRowC (calls_c ten mix) (calls_c nans (replicate 6 nan)) state (encoded voice_of_nans)
