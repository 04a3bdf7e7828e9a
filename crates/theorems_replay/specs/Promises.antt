-- The theorems about the replay of a whole trace, one field each.
use Rattle.theorems_replay.specs.Streams.{Streams}
use Rattle.theorems_replay.specs.Cuts.{CutRecords}
use Rattle.theorems_replay.specs.Example.{ThreeFrames}
use Rattle.theorems_replay.specs.Lengths.{LinesAlike}
use Rattle.theorems_replay.specs.Archive.{ArchiveReplays, StreamsC, CutRecordsC, ThreeFramesC, LinesAlikeC}
use Rattle.theorems_replay.specs.ArchiveV2.{AsVersion1, ArchiveReplaysV2, StepsAlike, LinesAlikeV2}
use Rattle.theorems_replay.specs.ArchiveV2.{StreamsV2, CutLanes}
use Rattle.theorems_replay.specs.Coincide.{Coincide}
use Rattle.theorems_replay.specs.Witnesses.{Witnesses}

pub record Promises : Type 0 where
  pub streams : Streams
  pub cut_records : CutRecords
  pub three_frames : ThreeFrames
  -- the samples of creations do not matter to what is printed
  pub lines_alike : LinesAlike
  -- the steps of `cableowl_replay_step` print the same, so each of these theorems holds for that entry
  pub archive_replays : ArchiveReplays
  pub archive_streams : StreamsC
  pub archive_cut_records : CutRecordsC
  pub archive_three_frames : ThreeFramesC
  pub archive_lines_alike : LinesAlikeC
  -- the steps of `cableowl_replay_step_v2`: for kinds 1 to 3 those of version 1; with two given sounds of equal length
  -- they differ only in samples
  pub archive_as_version_1 : AsVersion1
  pub archive_replays_v2 : ArchiveReplaysV2
  pub archive_steps_alike_v2 : StepsAlike
  pub archive_lines_alike_v2 : LinesAlikeV2
  pub archive_streams_v2 : StreamsV2
  pub archive_cut_lanes : CutLanes
  -- each contract of a replay says enough: any two outcomes that it allows coincide
  pub coincide : Coincide
  -- one input for each hypothesis
  pub witnesses : Witnesses
