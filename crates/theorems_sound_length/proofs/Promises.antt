-- All theorems about two sounds of equal length, in one record. Assumes nothing.
use mathlib.Core.Path.{refl, sym, ap, ◌∙◌}
use mathlib.Core.Bool.{false}
use Rattle.sound_creation.specs.Creation.{Created}
use Rattle.c_state.specs.Records.{encoded}
use Rattle.theorems.specs.Examples.{ten, from}
use Rattle.theorems.specs.Witnesses.{voice, state}
use Rattle.theorems_sound_length.specs.Muted.{AlikeButForSamples}
use Rattle.theorems_sound_length.specs.Lengths.{OtherSound}
use Rattle.theorems_sound_length.specs.Archive.{AlikeButForSamplesC}
use Rattle.theorems_sound_length.specs.Witnesses.{nans, voice_of_nans, Witnesses}
use Rattle.theorems_sound_length.specs.Promises.{Promises}
use Rattle.theorems_sound_length.proofs.Calls.{creation_alike, commands_alike, takes_alike, blocks_alike, mixes_alike, held_alike, held_mixes_alike}
use Rattle.theorems_sound_length.proofs.Rows.{rows_alike}
use Rattle.theorems_sound_length.proofs.Archive.{encoded_muted, archive_creation_alike, archive_rows_alike}

alike : AlikeButForSamples voice voice_of_nans
alike = ap (λ (a : Created). a.voice) (creation_alike ten nans (from 0 false) refl)

alike_c : AlikeButForSamplesC state (encoded voice_of_nans)
alike_c = encoded_muted voice ∙ ap encoded alike ∙ sym (encoded_muted voice_of_nans)

other_sound_lem : OtherSound ten nans voice voice_of_nans
other_sound_lem = record { samples = refl; voices = alike }

witnesses : Witnesses
witnesses =
    record {
      creation_alike = refl;
      commands_alike = other_sound_lem;
      takes_alike = other_sound_lem;
      blocks_alike = record { sound = other_sound_lem; output = refl };
      mixes_alike = record { sound = other_sound_lem; output = refl };
      held_alike = record { sound = other_sound_lem; output = refl };
      held_mixes_alike = record { sound = other_sound_lem; output = refl };
      rows_alike = record { calls = refl; voices = alike };
      archive_creation_alike = refl;
      archive_rows_alike = record { calls = refl; states = alike_c };
    }

pub promises : Promises
promises =
    record {
      creation_alike = creation_alike;
      commands_alike = commands_alike;
      takes_alike = takes_alike;
      blocks_alike = blocks_alike;
      mixes_alike = mixes_alike;
      held_alike = held_alike;
      held_mixes_alike = held_mixes_alike;
      rows_alike = rows_alike;
      archive_creation_alike = archive_creation_alike;
      archive_rows_alike = archive_rows_alike;
      witnesses = witnesses;
    }
