-- The record of promises, one proof for each field. Assumes nothing.
use Rattle.theorems_replay.specs.Promises.{Promises}
use Rattle.theorems_replay.proofs.Streams.{streams}
use Rattle.theorems_replay.proofs.Cuts.{cut_records}
use Rattle.theorems_replay.proofs.Example.{three_frames}
use Rattle.theorems_replay.proofs.Lengths.{lines_alike}
use Rattle.theorems_replay.proofs.Archive.{archive_replays, archive_streams, archive_cut_records, archive_three_frames, archive_lines_alike}
use Rattle.theorems_replay.proofs.AsVersion1.{as_version_1, archive_replays_v2}
use Rattle.theorems_replay.proofs.AlikeV2.{archive_steps_alike, archive_lines_alike_v2}
use Rattle.theorems_replay.proofs.StreamsV2.{archive_streams_v2}
use Rattle.theorems_replay.proofs.CutLanes.{archive_cut_lanes}
use Rattle.theorems_replay.proofs.Coincide.{coincide}
use Rattle.theorems_replay.proofs.Witnesses.{witnesses}

pub all_kept : Promises
all_kept =
    record {
      streams = streams;
      cut_records = cut_records;
      three_frames = three_frames;
      lines_alike = lines_alike;
      archive_replays = archive_replays;
      archive_streams = archive_streams;
      archive_cut_records = archive_cut_records;
      archive_three_frames = archive_three_frames;
      archive_lines_alike = archive_lines_alike;
      archive_as_version_1 = as_version_1;
      archive_replays_v2 = archive_replays_v2;
      archive_steps_alike_v2 = archive_steps_alike;
      archive_lines_alike_v2 = archive_lines_alike_v2;
      archive_streams_v2 = archive_streams_v2;
      archive_cut_lanes = archive_cut_lanes;
      coincide = coincide;
      witnesses = witnesses;
    }
