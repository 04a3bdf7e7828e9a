-- One input for each theorem with a hypothesis, so that none is true only because no input meets its hypothesis. A
-- field has its theorem's name in Promises. Its type is the theorem's hypothesis at that input, and each condition of
-- its conclusion at one. The input is the examples' creation: ten frames at 1 Hz in the loop (3, 6), at rate 1. Its
-- blocks have two frames, one step each.
use Rattle.std.specs.Prelude.{true, false, List, [], ◌∷◌, take, replicate, Float, None}
use Rattle.numbers.specs.Words.{positive_zero, one}
use Rattle.frame.specs.declared.Frame.{Frame}
use Rattle.playback_state_manager.specs.declared.StartAnswer.TheVariants.{Waiting}
use Rattle.start_time.specs.declared.StartSignal.TheVariants.{Answer, Tick}
use Rattle.sound_lanes.specs.Lanes.{Lanes, five, rows, first_lanes}
use Rattle.sound_state.specs.declared.StaticSound.{StaticSound}
use Rattle.sound_state.specs.Voices.{slice_of}
use Rattle.playback_position.specs.declared.PlaybackPosition.TheVariants.{Samples}
use Rattle.sound_update.specs.Updates.{updates}
use Rattle.sound_creation.specs.Creation.{created}
use Rattle.static_sound.specs.Entries.{processed, processed_into}
use Rattle.cableowl.specs.Entries.{processed_c, processed_into_c}
use Rattle.sound_commands.specs.declared.LoopCommand.TheVariants as loop
use Rattle.sound_commands.specs.declared.ResumeCommand.TheVariants as resume
use Rattle.sound_commands.specs.declared.Commands.{Commands}
use Rattle.sound_block.specs.declared.Signals.{Signals}
use Rattle.c_state.specs.declared.CableowlState.{CableowlState}
use Rattle.c_state.specs.Records.{decoded, encoded}
use Rattle.c_inputs.specs.declared.CableowlPlace.{CableowlPlace}
use Rattle.c_inputs.specs.declared.CableowlCommands.{CableowlCommands}
use Rattle.c_inputs.specs.declared.CableowlSignals.{CableowlSignals}
use Rattle.sound_held.specs.declared.Held.{Held}
use Rattle.sound_held.specs.Held.{held_lanes}
use Rattle.theorems.specs.Accepted.{AcceptedBlock, AcceptedMix, Silent}
use Rattle.theorems.specs.Alike.{Awake}
use Rattle.theorems.specs.Cut.{MayCut}
use Rattle.theorems.specs.Mix.{MayCutMix}
use Rattle.theorems.specs.Schedules.{played_by, mixed_by, BothAwake, TwoWays, TwoWaysMix, AllowedCut, AllowedCutMix}
use Rattle.theorems.specs.AllowedEnd.{Sounds, SoundsMix}
use Rattle.theorems.specs.Reports.{FedVoice, AcceptedNew, Full, Short, Reporting, ReportingMix}
use Rattle.theorems.specs.Stays.{PlaysAfter}
use Rattle.theorems.specs.AnyOrder.{Forward, Backward, InLoop, Rearranged}
use Rattle.theorems.specs.InTheLoop.{Call, Block, Command, EndsStopped, Entered}
use Rattle.theorems.specs.LoopWraps.{Onward, Back, CountsOnward, CountsBack, MovesInLoop, BlockInLoop, MixInLoop}
use Rattle.theorems.specs.Budget.{SlowBlock, SlowMix, SlowStream}
use Rattle.theorems.specs.StartTicks.{IsTick, AreTicks, Due, DueMix}
use Rattle.theorems.specs.AtZero.{SmallFrames}
use Rattle.theorems.specs.Wraps.{NotEmpty}
use Rattle.theorems.specs.Examples.{looped, ten, from}
use Rattle.theorems.specs.Archive.{MayCutC, MayCutMixC}
use Rattle.theorems.specs.ArchiveSchedules.{played_by_c, mixed_by_c, BothAwakeC, TwoWaysC, TwoWaysMixC}
use Rattle.theorems.specs.ArchiveKept.{WellFormedState, IllFormedState, Unknown}
use Rattle.theorems.specs.ArchiveInTheLoop as archive
use Rattle.theorems.specs.ArchiveInTheLoop.{CallC, EndsStoppedC, EnteredC}

-- ---- the input

abbrev pub voice : StaticSound
voice = (created ten (from 0 false)).voice

-- the same voice before it has started
abbrev pub unstarted : StaticSound
unstarted =
    record {
      setup = voice.setup;
      playback_rate = one;
      started = false;
      fractional_position = positive_zero;
      moving = voice.moving;
    }

-- the same sound played in reverse, and a sound of one frame, without a loop, that ends at once
abbrev pub reversed : StaticSound
reversed = (created ten (from 2 true)).voice

abbrev pub single : List Float
single = replicate 2 positive_zero

abbrev pub ending : StaticSound
ending =
    (created single
    (record {
      sample_rate = 1;
      slice = None;
      start_position = Samples 0;
      loop_region = None;
      reverse = false;
      playback_rate = one;
      start_waits = false;
    })
    ).voice

-- two frames at full volume
abbrev pub lanes : Lanes
lanes = let ones = one ∷ one ∷ [] in five ones ones ones ones ones

-- the same numbers as held lanes
abbrev pub ones : Held
ones = record { gains = record { fade = one; volume = one; left = one; right = one }; rate = one }

-- the start is due at tick 4,294,967,295, and the current tick is 0, after the wrap
abbrev pub due : Signals
due = record { finished = false; start = Tick 4294967295 0; resume = Waiting }

abbrev pub waiting : Signals
waiting = record { finished = false; start = Answer Waiting; resume = Waiting }

-- a fade has finished
abbrev pub faded : Signals
faded = record { finished = true; start = Answer Waiting; resume = Waiting }

-- buffers for two frames, and for three
abbrev pub output : List Float
output = replicate 4 positive_zero

abbrev pub mix : List Float
mix = replicate 6 positive_zero

abbrev pub stop : Commands
stop =
    record {
      playback_rate = None;
      loop_region = loop.Keep;
      pause = false;
      resume = resume.Keep;
      stop = true;
      seek_by = None;
      seek_to = None;
    }

-- a stop, and a block in which its fade has finished
abbrev pub stopping : List Call
stopping = Command ten stop ∷ Block ten one lanes faded output ∷ []

-- for the C entries: the voice as a record, one with an unknown state, and the signals
abbrev pub state : CableowlState
state = encoded voice

abbrev pub state_of7 : CableowlState
state_of7 =
    record {
      sample_rate = 1;
      state = 7;
      reverse = 0;
      started = 1;
      playing = 1;
      has_slice = 0;
      has_loop = 0;
      count = 4;
      num_frames = 10;
      slice_start = 0;
      slice_end = 0;
      position = 0;
      loop_start = 0;
      loop_end = 0;
      playback_rate = one;
      fraction = positive_zero;
      window = [];
      forward_wraps = 0;
      backward_wraps = 0;
    }

abbrev pub due_c : CableowlSignals
due_c = record { finished = 0; start = 3; resume = 0; due = 4294967295; now = 0 }

abbrev pub no_position : CableowlPlace
no_position = record { seconds = positive_zero; samples = 0; kind = 0 }

-- the same stop, and the same block
abbrev pub stop_c : CableowlCommands
stop_c =
    record {
      has_rate = 0;
      loop_command = 0;
      pause = 0;
      resume = 0;
      stop = 1;
      has_seek_by = 0;
      has_seek_to = 0;
      rate = one;
      seek_by = positive_zero;
      seek_to = positive_zero;
      loop_region = record { start = no_position; end = no_position };
    }

abbrev pub faded_c : CableowlSignals
faded_c = record { finished = 1; start = 0; resume = 0; due = 0; now = 0 }

abbrev pub stopping_c : List CallC
stopping_c = archive.Command ten stop_c ∷ archive.Block ten one lanes faded_c output ∷ []

abbrev pub full : Frame
full = record { left = one; right = one }

-- ---- the hypotheses that they meet

pub record Witnesses : Type 0 where
  pub cut_blocks : MayCut ten voice one lanes due output 1
      × Awake (processed ten voice one (first_lanes 1 lanes) due (take 2 output)).answer.voice
  pub cut_mixes : MayCutMix ten voice one lanes due mix 1 1
      × Awake (processed_into ten voice one (first_lanes 1 lanes) due mix 1).answer.voice
  pub any_sizes : TwoWays ten one lanes due voice 1 (1 ∷ []) output 2 [] output
      × BothAwake (played_by ten one 1 (1 ∷ []) lanes due voice output) (played_by ten one 2 [] lanes due voice output)
  pub any_sizes_mix : TwoWaysMix ten one lanes due voice 1 (1 ∷ []) 2 [] mix 1
      × BothAwake (mixed_by ten one 1 (1 ∷ []) lanes due voice mix 1) (mixed_by ten one 2 [] lanes due voice mix 1)
  pub all_accepted : AllowedCut ten one lanes voice 1 (1 ∷ []) output
  pub all_accepted_mix : AllowedCutMix ten one lanes voice 1 (1 ∷ []) mix 1
  pub archive_cut_blocks : MayCutC ten state one lanes due_c output 1
      × Awake (decoded (processed_c ten state one (first_lanes 1 lanes) due_c (take 2 output)).answer.state)
  pub archive_cut_mixes : MayCutMixC ten state one lanes due_c mix 1 1
      × Awake (decoded (processed_into_c ten state one (first_lanes 1 lanes) due_c mix 1).answer.state)
  pub archive_any_sizes : TwoWaysC ten one lanes due_c state 1 (1 ∷ []) output 2 [] output
      × BothAwakeC (played_by_c ten one 1 (1 ∷ []) lanes due_c state output)
      (played_by_c ten one 2 [] lanes due_c state output)
  pub archive_any_sizes_mix : TwoWaysMixC ten one lanes due_c state 1 (1 ∷ []) 2 [] mix 1
      × BothAwakeC (mixed_by_c ten one 1 (1 ∷ []) lanes due_c state mix 1)
      (mixed_by_c ten one 2 [] lanes due_c state mix 1)
  pub archive_all_accepted : AllowedCut ten one lanes (decoded state) 1 (1 ∷ []) output
  pub archive_all_accepted_mix : AllowedCutMix ten one lanes (decoded state) 1 (1 ∷ []) mix 1
  pub archive_read_back : WellFormedState state
  pub archive_unlawful_refused : IllFormedState state_of7
  pub archive_tags_refused : Unknown 1 2 × Unknown 2 3
  pub block_ends : Sounds ten voice one lanes due output 1
  pub mix_ends : SoundsMix ten voice one lanes due mix 1 1
  pub held_blocks : MayCut ten voice one (held_lanes ones 2) due output 1
      × Awake (processed ten voice one (first_lanes 1 (held_lanes ones 2)) due (take 2 output)).answer.voice
      × MayCutMix ten voice one (held_lanes ones 2) due mix 1 1 × AcceptedBlock ten voice one
      (held_lanes ones 2) due output
      × AcceptedMix ten voice one (held_lanes ones 2) due mix 1
      × SlowBlock 1 ten voice one (held_lanes ones 2) due output
      × SlowMix 1 ten voice one (held_lanes ones 2) due mix 1 × Silent waiting unstarted
  pub steps_made : AcceptedBlock ten voice one lanes due output
  pub mix_steps_made : AcceptedMix ten voice one lanes due mix 1
  pub block_budget : SlowBlock 1 ten voice one lanes due output × Silent waiting unstarted
  pub mix_budget : SlowMix 1 ten voice one lanes due mix 1 × Silent waiting unstarted
  pub stream_budget : SlowStream 1 ten one lanes due voice 1 (1 ∷ []) output
  pub creation_feeds : AcceptedNew ten (from 0 false)
  pub commands_feed : FedVoice ten voice
  pub blocks_feed : FedVoice ten voice
  pub mixes_feed : FedVoice ten voice
  pub blocks_tell : Reporting ten voice one lanes due output
      × Full (processed ten voice one lanes due output).answer.lowest_count (rows lanes) 1
      × Short (processed single ending one lanes waiting output).answer.lowest_count
  pub mixes_tell : ReportingMix ten voice one lanes due mix 1
      × Full (processed_into ten voice one lanes due mix 1).answer.lowest_count (rows lanes) 1
      × Short (processed_into single ending one lanes waiting mix 1).answer.lowest_count
  pub silence_tells : Silent waiting unstarted
  pub seek_starts_nothing : PlaysAfter 10 (looped 4) 8
  pub any_order : InLoop 10 3 6 (looped 4)
  pub there_and_back : InLoop 10 3 6 (looped 4)
  pub permutations : Rearranged 10 3 6 (Forward ∷ Backward ∷ []) (Backward ∷ Forward ∷ []) (looped 4)
  pub in_the_loop : Entered 3 6 stopping voice × EndsStopped stopping voice
  pub archive_in_the_loop : EnteredC 3 6 stopping_c state × EndsStoppedC stopping_c state
  pub updates_fit : MovesInLoop (slice_of voice) 3 6 voice.moving
      × CountsOnward (slice_of voice).backwards (updates 4 ten (slice_of voice) voice.moving)
      × CountsBack (slice_of reversed).backwards (updates 4 ten (slice_of reversed) reversed.moving)
      × Onward (slice_of voice).backwards × Back (slice_of reversed).backwards
  pub blocks_fit : BlockInLoop ten voice one lanes due output 3 6
      × CountsOnward (slice_of voice).backwards (processed ten voice one lanes due output).answer.voice.moving
      × CountsBack (slice_of reversed).backwards
      (processed ten reversed one lanes due output).answer.voice.moving × Onward (slice_of voice).backwards
      × Back (slice_of reversed).backwards
  pub mixes_fit : MixInLoop ten voice one lanes due mix 1 3 6
      × CountsOnward (slice_of voice).backwards
      (processed_into ten voice one lanes due mix 1).answer.voice.moving
      × CountsBack (slice_of reversed).backwards
      (processed_into ten reversed one lanes due mix 1).answer.voice.moving × Onward (slice_of voice).backwards
      × Back (slice_of reversed).backwards
  pub half_reached : IsTick 4294967295
  pub moved_together : AreTicks 4294967295 0
  pub tick_starts : Due ten unstarted one lanes due output 4294967295 0
  pub mix_tick_starts : DueMix ten unstarted one lanes due mix 1 4294967295 0
  pub reads_b : SmallFrames full full full full
  pub rust_agrees : NotEmpty (looped 5)
