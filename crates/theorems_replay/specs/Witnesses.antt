-- One input for each hypothesis: the three-frame example, and the voice of the theorems' witnesses.
use Rattle.std.specs.Prelude.{ℕ, List, [], ◌∷◌, ◌++◌, take, drop, replicate, Float}
use Rattle.numbers.specs.Words.{positive_zero}
use Rattle.theorems.specs.Examples.{ten}
use Rattle.theorems.specs.Witnesses.{voice}
use Rattle.c_state.specs.declared.CableowlState.{CableowlState}
use Rattle.theorems_sound_length.specs.Witnesses.{nans, voice_of_nans}
use Rattle.trace_inputs.specs.declared.LanedBlock.{LanedBlock}
use Rattle.trace_inputs.specs.Inputs.{double, signals_of}
use Rattle.trace_replay.specs.Runs.{Replay}
use Rattle.cableowl.specs.declared.replays.CableowlReplay.{CableowlReplay}
use Rattle.cableowl.specs.Replays.{blank_replay}
use Rattle.c_state.specs.Records.{encoded}
use Rattle.theorems_replay.specs.Streams.{Window}
use Rattle.theorems_replay.specs.Cuts.{Going, MayCutRecord}
use Rattle.theorems_replay.specs.Example.{bytes_of_three_frames}
use Rattle.theorems_replay.specs.Lengths.{SameButForSamples}
use Rattle.theorems_replay.specs.Archive.{Lent, BothLent, WindowC, MayCutStep}
use Rattle.theorems_replay.specs.ArchiveV2.{Unsealed, OfVersion1, Offer, OtherGiven, OtherHost, WideV2}
use Rattle.theorems_replay.specs.ArchiveV2.{MayCutLanes}

-- the example's trace with a NaN for each of its six samples, which are the 24 bytes from byte 31 on
abbrev pub three_nans : List ℕ
three_nans = take 31 bytes_of_three_frames ++ (replicate 24 255 ++ drop 55 bytes_of_three_frames)

abbrev pub evening : Replay
evening = record { voice = voice; sound = ten; blocks = 0 }

-- buffers as large as a step requires
abbrev pub lent_sound : List Float
lent_sound = replicate 128 positive_zero

abbrev pub lent_output : List Float
lent_output = replicate 2048 positive_zero

-- the voice of the theorems' witnesses, over a sound of ten frames
abbrev pub going : CableowlReplay
going = record { voice = encoded voice; samples = 20; blocks = 0; offset = 0; reader = 1; given = 0 }

-- the block record of n frames at full volume, rate 1 and 1 Hz, without signals
abbrev pub plain_block : ℕ → List ℕ
plain_block n = 165 ∷ 29 ∷ 3 ∷ 37 ∷ 0 ∷ n ∷ drop 61 bytes_of_three_frames

-- a replay of version 2 over a given sound of ten frames, and a host that has no sound
abbrev pub given : CableowlState → CableowlReplay
given v = record { voice = v; samples = 20; blocks = 0; offset = 0; reader = 2; given = 1 }

abbrev pub offering : List Float → ℕ → Offer
offering snd at = record { samples = snd; sounds = 0 }

-- the page's block of two frames, in which the fade falls from 1 to 0.5: its step, and its bytes without the checksum
abbrev pub falling : LanedBlock
falling = record { frames = 2; time_step = double 4607182418800017408; signals = signals_of 0 0 0 }

abbrev pub falling_bytes : List ℕ
falling_bytes =
    165 ∷ 29 ∷ 5 ∷ 65 ∷ 0 ∷ 2 ∷ 0 ∷ 0 ∷ 0 ∷ 0 ∷ 0 ∷ 0 ∷ 0 ∷ 240 ∷ 63 ∷ 0 ∷ 0 ∷ 0 ∷
    0 ∷ 0 ∷ 128 ∷ 63 ∷ 0 ∷ 0 ∷ 128 ∷ 63 ∷ 0 ∷ 0 ∷ 128 ∷ 63 ∷ 0 ∷ 0 ∷ 128 ∷ 63 ∷
    0 ∷ 0 ∷ 0 ∷ 0 ∷ 0 ∷ 0 ∷ 240 ∷ 63 ∷
    0 ∷ 0 ∷ 0 ∷ 63 ∷ 0 ∷ 0 ∷ 128 ∷ 63 ∷ 0 ∷ 0 ∷ 128 ∷ 63 ∷ 0 ∷ 0 ∷ 128 ∷ 63 ∷
    0 ∷ 0 ∷ 0 ∷ 0 ∷ 0 ∷ 0 ∷ 240 ∷ 63 ∷ []

pub record Witnesses : Type 0 where
  pub streams : Window 575 bytes_of_three_frames
  -- two frames at full volume, rate 1 and 1 Hz, cut after the first: 1065353216 and 4607182418800017408 are the bits
  -- of 1 as an f32 and as an f64
  pub cut_records : MayCutRecord evening 1 1 1065353216 1065353216 1065353216 1065353216 4607182418800017408
      4607182418800017408 0 0 0 × Going 0
  pub lines_alike : SameButForSamples bytes_of_three_frames three_nans
  pub archive_replays : Lent lent_sound lent_output bytes_of_three_frames
  pub archive_streams : WindowC blank_replay lent_sound lent_output 0 97 bytes_of_three_frames
  pub archive_cut_records :
      MayCutStep going lent_sound lent_output 0 (plain_block 2) (plain_block 1) (plain_block 1) 1 1
      1065353216 1065353216 1065353216 1065353216 4607182418800017408 4607182418800017408 0 0 0
      × Going 0
  pub archive_three_frames : Lent lent_sound lent_output bytes_of_three_frames
  pub archive_lines_alike : BothLent lent_sound lent_output lent_sound lent_output bytes_of_three_frames three_nans
  pub archive_as_version_1 : Unsealed bytes_of_three_frames
  pub archive_replays_v2 : OfVersion1 lent_sound lent_output bytes_of_three_frames
  pub archive_steps_alike_v2 :
      OtherGiven (given (encoded voice)) (given (encoded voice_of_nans)) lent_sound lent_sound ten nans lent_output
      lent_output
  pub archive_lines_alike_v2 : OtherHost (offering ten) (offering nans) lent_sound lent_sound lent_output lent_output
  pub archive_streams_v2 : WideV2 24598
  pub archive_cut_lanes : MayCutLanes ten voice falling falling_bytes falling_bytes (drop 24 falling_bytes)
      (replicate 4 positive_zero) 1 1
