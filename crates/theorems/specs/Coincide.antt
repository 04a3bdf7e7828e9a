-- Whether a promise says enough (docs/assurance/RULES.md): any two outcomes that one contract allows for one input
-- coincide. There is a line for each public function, over its contract itself: `Post` is everything that the function
-- ensures about its input, its result and the final contents of the borrowed buffers. The functions that replay a trace
-- are above this crate: crates/theorems_replay/specs/Coincide.antt has their lines.
use Rattle.std.specs.Prelude.{◌≡◌, List, Float, length}
use Rattle.std.specs.Borrow.{Bor}
use Rattle.byte_layout.specs.Reads.{view}
use base.Logic.{SProp, emp}
use prog.Memory.{Memory}
use prog.Routine.{Routine}
use types.Logic.{Logic}
use contract.Monad.{Fun}
use contract.Lifetimes.{Lfts}
use denote.Triple.Entry.{Args, Res}
use denote.Triple.Clauses.{Ended, Clauses, AtExit}
use borrow.Fn.Claims.{AllOf}
use borrow.Fn.World.{w₀}
use borrow.Fn.Read.{ReadAt, r_last, r_fact, no_know}
use Rattle.numbers.specs.contracts.narrow as NumbersNarrow
use Rattle.numbers.specs.contracts.advance_by as NumbersAdvanceBy
use Rattle.numbers.specs.contracts.round_half_away as NumbersRoundHalfAway
use Rattle.numbers.specs.contracts.cut as NumbersCut
use Rattle.numbers.specs.contracts.magnitude as NumbersMagnitude
use Rattle.numbers.specs.contracts.is_finite as NumbersIsFinite
use Rattle.numbers.specs.contracts.is_negative as NumbersIsNegative
use Rattle.numbers.specs.contracts.is_proper as NumbersIsProper
use Rattle.numbers.specs.contracts.is_finite_clear as NumbersIsFiniteClear
use Rattle.numbers.specs.contracts.is_positive_zero as NumbersIsPositiveZero
use Rattle.frame.specs.contracts.interpolate_frame as FrameInterpolateFrame
use Rattle.refusals.specs.contracts.U32FromRefusal.from as U32FromRefusal
use Rattle.refusals.specs.contracts.U64FromRefusal.from as U64FromRefusal
use Rattle.playback_position.specs.contracts.PlaybackPosition.into_samples as PlaybackPositionIntoSamples
use Rattle.playback_position.specs.contracts.PlaybackPosition.is_finite_position as PlaybackPositionIsFinitePosition
use Rattle.playback_position.specs.contracts.EndPosition.into_samples as EndPositionIntoSamples
use Rattle.playback_position.specs.contracts.EndPosition.is_finite_end as EndPositionIsFiniteEnd
use Rattle.playback_position.specs.contracts.is_within as PlaybackPositionIsWithin
use Rattle.playback_position.specs.contracts.Region.into_frames as PlaybackPositionRegionIntoFrames
use Rattle.playback_position.specs.contracts.Region.is_well_formed as PlaybackPositionRegionIsWellFormed
use Rattle.transport.specs.contracts.Transport.new as TransportNew
use Rattle.transport.specs.contracts.Transport.set_loop_region as TransportSetLoopRegion
use Rattle.transport.specs.contracts.Transport.increment_position as TransportIncrementPosition
use Rattle.transport.specs.contracts.Transport.decrement_position as TransportDecrementPosition
use Rattle.transport.specs.contracts.Transport.wraps as TransportWraps
use Rattle.transport.specs.contracts.Transport.seek_to as TransportSeekTo
use Rattle.resampler.specs.contracts.Resampler.new as ResamplerNew
use Rattle.resampler.specs.contracts.Resampler.push_frame as ResamplerPushFrame
use Rattle.resampler.specs.contracts.Resampler.get as ResamplerGet
use Rattle.resampler.specs.contracts.Resampler.current_frame_index as ResamplerCurrentFrameIndex
use Rattle.resampler.specs.contracts.Resampler.empty as ResamplerEmpty
use Rattle.playback_state_manager.specs.contracts.U32FromPlaybackState.from as U32FromPlaybackState
use Rattle.playback_state_manager.specs.contracts.PlaybackStateTryFromU32.try_from as PlaybackStateTryFromU32
use Rattle.playback_state_manager.specs.contracts.PlaybackState.is_advancing as PlaybackStateIsAdvancing
use Rattle.playback_state_manager.specs.contracts.PlaybackState.pause as PlaybackStatePause
use Rattle.playback_state_manager.specs.contracts.PlaybackState.resume as PlaybackStateResume
use Rattle.playback_state_manager.specs.contracts.PlaybackState.stop as PlaybackStateStop
use Rattle.playback_state_manager.specs.contracts.PlaybackState.mark_as_stopped as PlaybackStateMarkAsStopped
use Rattle.playback_state_manager.specs.contracts.PlaybackState.update as PlaybackStateUpdate
use Rattle.start_time.specs.contracts.StartSignal.answer as StartTimeStartSignalAnswer
use Rattle.sound_lanes.specs.contracts.Lanes.are_sized as LanesAreSized
use Rattle.sound_lanes.specs.contracts.Lanes.gains as LanesGains
use Rattle.sound_lanes.specs.contracts.Gains.scale as GainsScale
use Rattle.sound_lanes.specs.contracts.is_time_step as SoundLanesIsTimeStep
use Rattle.sound_lanes.specs.contracts.Lanes.judge as LanesJudge
use Rattle.sound_state.specs.contracts.Setup.num_frames as SoundStateSetupNumFrames
use Rattle.sound_state.specs.contracts.Setup.start as SoundStateSetupStart
use Rattle.sound_state.specs.contracts.StaticSound.slice as SoundStateStaticSoundSlice
use Rattle.sound_state.specs.contracts.StaticSound.is_well_formed as SoundStateStaticSoundIsWellFormed
use Rattle.sound_update.specs.contracts.Moving.push_frame_to_resampler as SoundUpdateMovingPushFrameToResampler
use Rattle.sound_update.specs.contracts.Moving.update_position as SoundUpdateMovingUpdatePosition
use Rattle.sound_update.specs.contracts.Moving.update_positions as SoundUpdateMovingUpdatePositions
use Rattle.sound_update.specs.contracts.frame_in as SoundUpdateFrameIn
use Rattle.sound_track.specs.contracts.track_of as SoundTrackTrackOf
use Rattle.sound_track.specs.contracts.ForwardDirection.next as ForwardNext
use Rattle.sound_track.specs.contracts.ForwardDirection.after_steps as ForwardAfterSteps
use Rattle.sound_track.specs.contracts.ForwardDirection.straight_on as ForwardStraightOn
use Rattle.sound_track.specs.contracts.ForwardDirection.is_straight as ForwardIsStraight
use Rattle.sound_track.specs.contracts.ForwardDirection.has_room as ForwardHasRoom
use Rattle.sound_track.specs.contracts.BackwardDirection.next as BackwardNext
use Rattle.sound_track.specs.contracts.BackwardDirection.after_steps as BackwardAfterSteps
use Rattle.sound_track.specs.contracts.BackwardDirection.straight_on as BackwardStraightOn
use Rattle.sound_track.specs.contracts.BackwardDirection.is_straight as BackwardIsStraight
use Rattle.sound_track.specs.contracts.BackwardDirection.has_room as BackwardHasRoom
use Rattle.sound_track.specs.contracts.Track.wraps_after as TrackWrapsAfter
use Rattle.sound_track.specs.contracts.Track.frame_at as TrackFrameAt
use Rattle.sound_track.specs.contracts.Track.contiguous_at as TrackContiguousAt
use Rattle.sound_track.specs.contracts.Track.is_contiguous as TrackIsContiguous
use Rattle.sound_creation.specs.contracts.blank as SoundCreationBlank
use Rattle.sound_creation.specs.contracts.new as SoundCreationNew
use Rattle.sound_commands.specs.contracts.on_start_processing as SoundCommandsOnStartProcessing
use Rattle.sound_slow_path.specs.contracts.play as SoundSlowPathPlay
use Rattle.sound_slow_path.specs.contracts.play_spread as SoundSlowPathPlaySpread
use Rattle.sound_fast_reading.specs.contracts.advance_of as SoundFastReadingAdvanceOf
use Rattle.sound_fast_reading.specs.contracts.stepped_by as SoundFastReadingSteppedBy
use Rattle.sound_fast_reading.specs.contracts.moved as SoundFastReadingMoved
use Rattle.sound_fast_reading.specs.contracts.store as SoundFastReadingStore
use Rattle.sound_fast_reading.specs.contracts.Way.begin as WayBegin
use Rattle.sound_fast_reading.specs.contracts.OneRateRates.count as OneRateCount
use Rattle.sound_fast_reading.specs.contracts.OneRateRates.rate as OneRateRate
use Rattle.sound_fast_reading.specs.contracts.RefSliceF64Rates.count as RefSliceF64Count
use Rattle.sound_fast_reading.specs.contracts.RefSliceF64Rates.rate as RefSliceF64Rate
use Rattle.sound_gains.specs.contracts.by_frame as SoundGainsByFrame
use Rattle.sound_gains.specs.contracts.once as SoundGainsOnce
use Rattle.sound_fast_path.specs.contracts.play as SoundFastPathPlay
use Rattle.sound_fast_path.specs.contracts.BlockLanes.frames as BlockLanesFrames
use Rattle.sound_held.specs.contracts.play as SoundHeldPlay
use Rattle.sound_block.specs.contracts.block as SoundBlockBlock
use Rattle.sound_constant.specs.contracts.first_of as SoundConstantFirstOf
use Rattle.static_sound.specs.contracts.process as StaticSoundProcess
use Rattle.static_sound.specs.contracts.process_into as StaticSoundProcessInto
use Rattle.static_sound.specs.contracts.process_held as StaticSoundProcessHeld
use Rattle.static_sound.specs.contracts.process_held_into as StaticSoundProcessHeldInto
use Rattle.static_sound.specs.contracts.stretch as StaticSoundStretch
use Rattle.loop_table.specs.contracts.LoopTable.new as LoopTableLoopTableNew
use Rattle.loop_table.specs.contracts.LoopTable.write as LoopTableLoopTableWrite
use Rattle.loop_table.specs.contracts.LoopTable.clear as LoopTableLoopTableClear
use Rattle.loop_table.specs.contracts.LoopTable.read as LoopTableLoopTableRead
use Rattle.loop_table.specs.contracts.LoopTable.is_well_formed as LoopTableLoopTableIsWellFormed
use Rattle.loop_table.specs.contracts.LoopSlot.is_well_formed as LoopTableLoopSlotIsWellFormed
use Rattle.loop_copies.specs.contracts.LoopCopy.new as LoopCopiesLoopCopyNew
use Rattle.loop_copies.specs.contracts.LoopCopy.write as LoopCopiesLoopCopyWrite
use Rattle.loop_copies.specs.contracts.LoopCopy.clear as LoopCopiesLoopCopyClear
use Rattle.loop_copies.specs.contracts.LoopCopy.merge as LoopCopiesLoopCopyMerge
use Rattle.take_loop.specs.contracts.take as TakeLoopTake
use Rattle.decibels.specs.contracts.as_amplitude as DecibelsAsAmplitude
use Rattle.decibels.specs.contracts.fade_ramp as DecibelsFadeRamp
use Rattle.semitones.specs.contracts.raised as SemitonesRaised
use Rattle.crc32.specs.contracts.checksum as Crc32Checksum
use Rattle.byte_layout.specs.contracts.number as ByteLayoutNumber
use Rattle.byte_layout.specs.contracts.put_number as ByteLayoutPutNumber
use Rattle.byte_layout.specs.contracts.begin as ByteLayoutBegin
use Rattle.byte_layout.specs.contracts.read_rows as ByteLayoutReadRows
use Rattle.byte_layout.specs.contracts.put_rows as ByteLayoutPutRows
use Rattle.byte_layout.specs.contracts.rows_fit as ByteLayoutRowsFit
use Rattle.byte_layout.specs.contracts.rows_length as ByteLayoutRowsLength
use Rattle.byte_layout.specs.contracts.copy as ByteLayoutCopy
use Rattle.saved_settings.specs.contracts.load as SavedSettingsLoad
use Rattle.saved_settings.specs.contracts.store as SavedSettingsStore
use Rattle.trace_sealed.specs.contracts.read as TraceSealedRead
use Rattle.trace_sealed.specs.contracts.write as TraceSealedWrite
use Rattle.saved_loops.specs.contracts.load as SavedLoopsLoad
use Rattle.saved_loops.specs.contracts.store as SavedLoopsStore
use Rattle.trace_records.specs.contracts.read as TraceRecordsRead
use Rattle.trace_records.specs.contracts.write as TraceRecordsWrite
use Rattle.trace_records.specs.contracts.is_in_steps as IsInSteps
use Rattle.trace_records.specs.contracts.put_head as PutHead
use Rattle.trace_salvage.specs.contracts.salvage as TraceSalvageSalvage
use Rattle.trace_salvage.specs.contracts.salvage_by as TraceSalvageSalvageBy
use Rattle.c_state.specs.contracts.StaticSoundFromCableowlState.from as StaticSoundFromCableowlState
use Rattle.c_state.specs.contracts.RecentFrameFromCableowlEntry.from as RecentFrameFromCableowlEntry
use Rattle.c_state.specs.contracts.CableowlEntryFromRecentFrame.from as CableowlEntryFromRecentFrame
use Rattle.c_state.specs.contracts.encode as CStateEncode
use Rattle.c_inputs.specs.contracts.SettingsFromCableowlSettings.from as SettingsFromC
use Rattle.c_inputs.specs.contracts.PlaybackPositionFromCableowlPlace.from as PlaybackPositionFromC
use Rattle.c_inputs.specs.contracts.EndPositionFromCableowlPlace.from as EndPositionFromC
use Rattle.c_inputs.specs.contracts.CommandsFromCableowlCommands.from as CommandsFromC
use Rattle.c_inputs.specs.contracts.SignalsFromCableowlSignals.from as SignalsFromC
use Rattle.cableowl.specs.contracts.cableowl_version as CableowlVersion
use Rattle.cableowl.specs.contracts.cableowl_new as CableowlNew
use Rattle.cableowl.specs.contracts.cableowl_on_start_processing as CableowlOnStartProcessing
use Rattle.cableowl.specs.contracts.cableowl_process as CableowlProcess
use Rattle.cableowl.specs.contracts.cableowl_process_into as CableowlProcessInto
use Rattle.cableowl.specs.contracts.cableowl_process_held as CableowlProcessHeld
use Rattle.cableowl.specs.contracts.cableowl_process_held_into as CableowlProcessHeldInto
use Rattle.cableowl.specs.contracts.cableowl_stretch as CableowlStretch
use Rattle.cableowl.specs.contracts.cableowl_amplitude as CableowlAmplitude
use Rattle.cableowl.specs.contracts.cableowl_fade_ramp as CableowlFadeRamp
use Rattle.cableowl.specs.contracts.cableowl_loop_table as CableowlLoopTable
use Rattle.cableowl.specs.contracts.cableowl_write_loop as CableowlWriteLoop
use Rattle.cableowl.specs.contracts.cableowl_clear_loop as CableowlClearLoop
use Rattle.cableowl.specs.contracts.cableowl_read_loop as CableowlReadLoop
use Rattle.cableowl.specs.contracts.cableowl_take_loop as CableowlTakeLoop
use Rattle.cableowl.specs.contracts.cableowl_loop_copy as CableowlLoopCopy
use Rattle.cableowl.specs.contracts.cableowl_write_copy as CableowlWriteCopy
use Rattle.cableowl.specs.contracts.cableowl_clear_copy as CableowlClearCopy
use Rattle.cableowl.specs.contracts.cableowl_merge_copies as CableowlMergeCopies
use Rattle.cableowl.specs.contracts.cableowl_store_settings as CableowlStoreSettings
use Rattle.cableowl.specs.contracts.cableowl_load_settings as CableowlLoadSettings
use Rattle.cableowl.specs.contracts.cableowl_settings_of as CableowlSettingsOf
use Rattle.cableowl.specs.contracts.cableowl_store_half as CableowlStoreHalf
use Rattle.cableowl.specs.contracts.cableowl_load_half as CableowlLoadHalf
use Rattle.cableowl.specs.contracts.cableowl_read_record as CableowlReadRecord
use Rattle.cableowl.specs.contracts.cableowl_write_record as CableowlWriteRecord
use Rattle.cableowl.specs.contracts.cableowl_read_record_v2 as CableowlReadRecordV2
use Rattle.cableowl.specs.contracts.cableowl_write_record_v2 as CableowlWriteRecordV2
use Rattle.cableowl.specs.contracts.cableowl_salvage as CableowlSalvage
use Rattle.cableowl.specs.contracts.cableowl_salvage_v2 as CableowlSalvageV2
use Rattle.cableowl.specs.contracts.cableowl_replay as CableowlReplay
use Rattle.cableowl.specs.contracts.cableowl_replay_step as CableowlReplayStep
use Rattle.cableowl.specs.contracts.cableowl_replay_v2 as CableowlReplayV2
use Rattle.cableowl.specs.contracts.cableowl_replay_step_v2 as CableowlReplayStepV2

-- what a contract allows: for lifetimes k and every input, a result and the final contents of what was borrowed
abbrev pub Allows : (K : Type 0) (A R S : K → Type 0) → Type 1
Allows K A R S = (k : K) → A k → R k → S k → Type 0

-- a contract c, and what its `ensures` says as plain facts: `f` reads the clauses of c itself
module _ (T : Ended) (c : Logic w₀.𝓤 → (Memory → SProp w₀.𝓤) → (Routine → Fun w₀.𝓤) → Clauses w₀.𝓤 T) where
  abbrev pub Reading : Type 2
  Reading = (k : Lfts T.signature.lifetimes) (a : Args T.signature k) → (g : (c w₀.𝓛 w₀.𝓜.mem w₀.𝓡.returns k a).ghost)
      × ((r : Res T.signature k) (s : AtExit T k) → ReadAt w₀ (λ w. emp w.𝓤) no_know
      ((c w₀.𝓛 w₀.𝓜.mem w₀.𝓡.returns k a).ensures g r s))

  abbrev pub Post : Reading → Allows (Lfts T.signature.lifetimes) (Args T.signature) (Res T.signature) (AtExit T)
  Post f k a r s = AllOf ((f k a).1 r s).owes

module _ {K : Type 0} {A R S : K → Type 0} where
  -- its results coincide
  abbrev pub Decides : Allows K A R S → Type 0
  Decides P = (k : K) (a : A k) (x y : R k) (s t : S k) → P k a x s → P k a y t → x ≡ y

  -- and so does what it writes: a whole buffer or number, or the part of a buffer that the result says is in use
  abbrev pub DecidesWith : {B : Type 0} (left : (k : K) → R k → S k → B) → Allows K A R S → Type 0
  DecidesWith left P = (k : K) (a : A k) (x y : R k) (s t : S k) → P k a x s → P k a y t → (x ≡ y)
      × (left k x s ≡ left k y t)

  -- or what its callers see of the result coincides
  abbrev pub DecidesAs : {B : Type 0} (seen : (k : K) → A k → R k → B) → Allows K A R S → Type 0
  DecidesAs seen P = (k : K) (a : A k) (x y : R k) (s t : S k) → P k a x s → P k a y t → seen k a x ≡ seen k a y

-- a part of a borrowed slice: its samples and its offset coincide
abbrev pub DecidesPart : {K : Type 0} {A S : K → Type 0} → Allows K A (λ (k : K). Bor (List Float)) S → Type 0
DecidesPart {K} {A} {S} P =
    (k : K) (a : A k) (x y : Bor (List Float)) (s t : S k) → P k a x s → P k a y t → (x.now ≡ y.now)
    × (x.ref_ptr ≡ y.ref_ptr)

pub record Coincide : Type 0 where
  -- numbers
  pub numbers_narrow : Decides (Post NumbersNarrow.ended NumbersNarrow.clauses (λ k a. (tt, λ r s. r_last _)))
  pub numbers_advance_by : Decides (Post NumbersAdvanceBy.ended NumbersAdvanceBy.clauses (λ k a. (tt, λ r s. r_last _)))
  pub numbers_round_half_away :
      Decides (Post NumbersRoundHalfAway.ended NumbersRoundHalfAway.clauses (λ k a. (tt, λ r s. r_last _)))
  pub numbers_cut : Decides (Post NumbersCut.ended NumbersCut.clauses (λ k a. (tt, λ r s. r_last _)))
  pub numbers_magnitude : Decides (Post NumbersMagnitude.ended NumbersMagnitude.clauses (λ k a. (tt, λ r s. r_last _)))
  pub numbers_is_finite : Decides (Post NumbersIsFinite.ended NumbersIsFinite.clauses (λ k a. (tt, λ r s. r_last _)))
  pub numbers_is_negative :
      Decides (Post NumbersIsNegative.ended NumbersIsNegative.clauses (λ k a. (tt, λ r s. r_last _)))
  pub numbers_is_proper : Decides (Post NumbersIsProper.ended NumbersIsProper.clauses (λ k a. (tt, λ r s. r_last _)))
  pub numbers_is_finite_clear :
      Decides (Post NumbersIsFiniteClear.ended NumbersIsFiniteClear.clauses (λ k a. (tt, λ r s. r_last _)))
  pub numbers_is_positive_zero :
      Decides (Post NumbersIsPositiveZero.ended NumbersIsPositiveZero.clauses (λ k a. (tt, λ r s. r_last _)))
  -- frame
  pub frame_interpolate_frame :
      Decides (Post FrameInterpolateFrame.ended FrameInterpolateFrame.clauses (λ k a. (tt, λ r s. r_last _)))
  -- refusals
  pub refusals_u32_from :
      Decides (Post U32FromRefusal.ended U32FromRefusal.clauses (λ k a. (tt, λ r s. r_last _)))
  pub refusals_u64_from :
      Decides (Post U64FromRefusal.ended U64FromRefusal.clauses (λ k a. (tt, λ r s. r_last _)))
  -- playback_position
  pub playback_position_playbackposition_into_samples :
      Decides (Post PlaybackPositionIntoSamples.ended PlaybackPositionIntoSamples.clauses
      (λ k a. (tt, λ r s. r_last _)))
  pub playback_position_playbackposition_is_finite_position :
      Decides (Post PlaybackPositionIsFinitePosition.ended PlaybackPositionIsFinitePosition.clauses
      (λ k a. (tt, λ r s. r_last _)))
  pub playback_position_endposition_into_samples :
      Decides (Post EndPositionIntoSamples.ended EndPositionIntoSamples.clauses
      (λ k a. (tt, λ r s. r_last _)))
  pub playback_position_endposition_is_finite_end :
      Decides (Post EndPositionIsFiniteEnd.ended EndPositionIsFiniteEnd.clauses
      (λ k a. (tt, λ r s. r_last _)))
  pub playback_position_is_within :
      Decides (Post PlaybackPositionIsWithin.ended PlaybackPositionIsWithin.clauses
      (λ k a. (tt, λ r s. r_last _)))
  pub playback_position_region_into_frames :
      Decides (Post PlaybackPositionRegionIntoFrames.ended PlaybackPositionRegionIntoFrames.clauses
      (λ k a. (tt, λ r s. r_last _)))
  pub playback_position_region_is_well_formed :
      Decides (Post PlaybackPositionRegionIsWellFormed.ended PlaybackPositionRegionIsWellFormed.clauses
      (λ k a. (tt, λ r s. r_last _)))
  -- transport
  pub transport_transport_new :
      Decides (Post TransportNew.ended TransportNew.clauses (λ k a. (tt, λ r s. r_last _)))
  pub transport_transport_set_loop_region :
      Decides (Post TransportSetLoopRegion.ended TransportSetLoopRegion.clauses
      (λ k a. (tt, λ r s. r_last _)))
  pub transport_transport_increment_position :
      Decides (Post TransportIncrementPosition.ended TransportIncrementPosition.clauses
      (λ k a. (tt, λ r s. r_last _)))
  pub transport_transport_decrement_position :
      Decides (Post TransportDecrementPosition.ended TransportDecrementPosition.clauses
      (λ k a. (tt, λ r s. r_last _)))
  pub transport_transport_wraps :
      Decides (Post TransportWraps.ended TransportWraps.clauses (λ k a. (tt, λ r s. r_last _)))
  pub transport_transport_seek_to :
      Decides (Post TransportSeekTo.ended TransportSeekTo.clauses (λ k a. (tt, λ r s. r_last _)))
  -- resampler
  pub resampler_resampler_new :
      Decides (Post ResamplerNew.ended ResamplerNew.clauses (λ k a. (tt, λ r s. r_last _)))
  pub resampler_resampler_push_frame :
      Decides (Post ResamplerPushFrame.ended ResamplerPushFrame.clauses
      (λ k a. (tt, λ r s. r_last _)))
  pub resampler_resampler_get :
      Decides (Post ResamplerGet.ended ResamplerGet.clauses (λ k a. (tt, λ r s. r_last _)))
  pub resampler_resampler_current_frame_index :
      Decides (Post ResamplerCurrentFrameIndex.ended ResamplerCurrentFrameIndex.clauses
      (λ k a. (tt, λ r s. r_last _)))
  pub resampler_resampler_empty :
      Decides (Post ResamplerEmpty.ended ResamplerEmpty.clauses (λ k a. (tt, λ r s. r_last _)))
  -- playback_state_manager
  pub playback_state_manager_u32_from :
      Decides (Post U32FromPlaybackState.ended U32FromPlaybackState.clauses
      (λ k a. (tt, λ r s. r_last _)))
  pub playback_state_manager_playbackstate_try_from :
      Decides (Post PlaybackStateTryFromU32.ended PlaybackStateTryFromU32.clauses (λ k a. (tt, λ r s. r_last _)))
  pub playback_state_manager_playbackstate_is_advancing :
      Decides (Post PlaybackStateIsAdvancing.ended PlaybackStateIsAdvancing.clauses
      (λ k a. (tt, λ r s. r_last _)))
  pub playback_state_manager_playbackstate_pause :
      Decides (Post PlaybackStatePause.ended PlaybackStatePause.clauses
      (λ k a. (tt, λ r s. r_last _)))
  pub playback_state_manager_playbackstate_resume :
      Decides (Post PlaybackStateResume.ended PlaybackStateResume.clauses
      (λ k a. (tt, λ r s. r_last _)))
  pub playback_state_manager_playbackstate_stop :
      Decides (Post PlaybackStateStop.ended PlaybackStateStop.clauses
      (λ k a. (tt, λ r s. r_last _)))
  pub playback_state_manager_playbackstate_mark_as_stopped :
      Decides (Post PlaybackStateMarkAsStopped.ended PlaybackStateMarkAsStopped.clauses
      (λ k a. (tt, λ r s. r_last _)))
  pub playback_state_manager_playbackstate_update :
      Decides (Post PlaybackStateUpdate.ended PlaybackStateUpdate.clauses
      (λ k a. (tt, λ r s. r_last _)))
  -- start_time
  pub start_time_startsignal_answer :
      Decides (Post StartTimeStartSignalAnswer.ended StartTimeStartSignalAnswer.clauses (λ k a. (tt, λ r s. r_last _)))
  -- sound_lanes
  pub sound_lanes_lanes_are_sized :
      Decides (Post LanesAreSized.ended LanesAreSized.clauses (λ k a. (tt, λ r s. r_last _)))
  pub sound_lanes_lanes_gains :
      Decides (Post LanesGains.ended LanesGains.clauses (λ k a. (tt, λ r s. r_last _)))
  pub sound_lanes_gains_scale :
      Decides (Post GainsScale.ended GainsScale.clauses (λ k a. (tt, λ r s. r_last _)))
  pub sound_lanes_is_time_step :
      Decides (Post SoundLanesIsTimeStep.ended SoundLanesIsTimeStep.clauses (λ k a. (tt, λ r s. r_last _)))
  pub sound_lanes_lanes_judge : Decides (Post LanesJudge.ended LanesJudge.clauses (λ k a. (tt, λ r s. r_last _)))
  -- sound_state
  pub sound_state_setup_num_frames :
      Decides (Post SoundStateSetupNumFrames.ended SoundStateSetupNumFrames.clauses (λ k a. (tt, λ r s. r_last _)))
  pub sound_state_setup_start :
      Decides (Post SoundStateSetupStart.ended SoundStateSetupStart.clauses (λ k a. (tt, λ r s. r_last _)))
  pub sound_state_staticsound_slice :
      Decides (Post SoundStateStaticSoundSlice.ended SoundStateStaticSoundSlice.clauses (λ k a. (tt, λ r s. r_last _)))
  pub sound_state_staticsound_is_well_formed :
      Decides (Post SoundStateStaticSoundIsWellFormed.ended SoundStateStaticSoundIsWellFormed.clauses
      (λ k a. (tt, λ r s. r_last _)))
  -- sound_update
  pub sound_update_moving_push_frame_to_resampler :
      Decides (Post SoundUpdateMovingPushFrameToResampler.ended SoundUpdateMovingPushFrameToResampler.clauses
      (λ k a. (tt, λ r s. r_last _)))
  pub sound_update_moving_update_position :
      Decides (Post SoundUpdateMovingUpdatePosition.ended SoundUpdateMovingUpdatePosition.clauses
      (λ k a. (tt, λ r s. r_last _)))
  pub sound_update_moving_update_positions :
      Decides (Post SoundUpdateMovingUpdatePositions.ended SoundUpdateMovingUpdatePositions.clauses
      (λ k a. (tt, λ r s. r_last _)))
  pub sound_update_frame_in :
      Decides (Post SoundUpdateFrameIn.ended SoundUpdateFrameIn.clauses (λ k a. (tt, λ r s. r_last _)))
  -- sound_track
  pub sound_track_track_of :
      Decides (Post SoundTrackTrackOf.ended SoundTrackTrackOf.clauses (λ k a. (tt, λ r s. r_last _)))
  pub sound_track_forward_next :
      Decides (Post ForwardNext.ended ForwardNext.clauses (λ k a. (tt, λ r s. r_fact _ _ (r_last _))))
  pub sound_track_forward_after_steps :
      Decides (Post ForwardAfterSteps.ended ForwardAfterSteps.clauses (λ k a. (tt, λ r s. r_fact _ _ (r_last _))))
  pub sound_track_forward_straight_on :
      Decides (Post ForwardStraightOn.ended ForwardStraightOn.clauses (λ k a. (tt, λ r s. r_fact _ _ (r_last _))))
  pub sound_track_forward_is_straight :
      Decides (Post ForwardIsStraight.ended ForwardIsStraight.clauses (λ k a. (tt, λ r s. r_last _)))
  pub sound_track_forward_has_room :
      Decides (Post ForwardHasRoom.ended ForwardHasRoom.clauses (λ k a. (tt, λ r s. r_last _)))
  pub sound_track_backward_next :
      Decides (Post BackwardNext.ended BackwardNext.clauses (λ k a. (tt, λ r s. r_fact _ _ (r_last _))))
  pub sound_track_backward_after_steps :
      Decides (Post BackwardAfterSteps.ended BackwardAfterSteps.clauses
      (λ k a. (tt, λ r s. r_fact _ _ (r_last _))))
  pub sound_track_backward_straight_on :
      Decides (Post BackwardStraightOn.ended BackwardStraightOn.clauses (λ k a. (tt, λ r s. r_fact _ _ (r_last _))))
  pub sound_track_backward_is_straight :
      Decides (Post BackwardIsStraight.ended BackwardIsStraight.clauses (λ k a. (tt, λ r s. r_last _)))
  pub sound_track_backward_has_room :
      Decides (Post BackwardHasRoom.ended BackwardHasRoom.clauses (λ k a. (tt, λ r s. r_last _)))
  pub sound_track_track_wraps_after :
      Decides (Post TrackWrapsAfter.ended TrackWrapsAfter.clauses (λ k a. (tt, λ r s. r_last _)))
  pub sound_track_track_frame_at :
      Decides (Post TrackFrameAt.ended TrackFrameAt.clauses (λ k a. (tt, λ r s. r_last _)))
  pub sound_track_track_contiguous_at :
      Decides (Post TrackContiguousAt.ended TrackContiguousAt.clauses (λ k a. (tt, λ r s. r_last _)))
  pub sound_track_track_is_contiguous :
      Decides (Post TrackIsContiguous.ended TrackIsContiguous.clauses
      (λ k a. (tt, λ r s. r_fact _ _ (r_last _))))
  -- sound_creation
  pub sound_creation_blank :
      Decides (Post SoundCreationBlank.ended SoundCreationBlank.clauses (λ k a. (tt, λ r s. r_last _)))
  pub sound_creation_new : Decides (Post SoundCreationNew.ended SoundCreationNew.clauses (λ k a. (tt, λ r s. r_last _)))
  -- sound_commands
  pub sound_commands_on_start_processing :
      Decides (Post SoundCommandsOnStartProcessing.ended SoundCommandsOnStartProcessing.clauses
      (λ k a. (tt, λ r s. r_last _)))
  -- sound_slow_path, sound_fast_path, sound_held and sound_block
  pub sound_slow_path_play :
      DecidesWith (λ k r s. s.1.1.1.1.0.now) (Post SoundSlowPathPlay.ended SoundSlowPathPlay.clauses
      (λ k a. (tt, λ r s. r_last _)))
  pub sound_slow_path_play_spread : DecidesWith (λ k r s. s.1.1.1.1.0.now)
      (Post SoundSlowPathPlaySpread.ended SoundSlowPathPlaySpread.clauses (λ k a. (tt, λ r s. r_last _)))
  pub sound_fast_reading_advance_of :
      Decides (Post SoundFastReadingAdvanceOf.ended SoundFastReadingAdvanceOf.clauses (λ k a. (tt, λ r s. r_last _)))
  pub sound_fast_reading_stepped_by :
      Decides (Post SoundFastReadingSteppedBy.ended SoundFastReadingSteppedBy.clauses (λ k a. (tt, λ r s. r_last _)))
  pub sound_fast_reading_moved :
      Decides (Post SoundFastReadingMoved.ended SoundFastReadingMoved.clauses (λ k a. (tt, λ r s. r_last _)))
  pub sound_fast_reading_store :
      DecidesWith (λ k r s. s.0.now) (Post SoundFastReadingStore.ended SoundFastReadingStore.clauses
      (λ k a. (tt, λ r s. r_last _)))
  pub sound_fast_reading_way_begin :
      Decides (Post WayBegin.ended WayBegin.clauses (λ k a. (tt, λ r s. r_last _)))
  pub sound_fast_reading_onerate_count :
      Decides (Post OneRateCount.ended OneRateCount.clauses (λ k a. (tt, λ r s. r_last _)))
  pub sound_fast_reading_onerate_rate :
      Decides (Post OneRateRate.ended OneRateRate.clauses (λ k a. (tt, λ r s. r_last _)))
  pub sound_fast_reading_refslicef64_count :
      Decides (Post RefSliceF64Count.ended RefSliceF64Count.clauses (λ k a. (tt, λ r s. r_last _)))
  pub sound_fast_reading_refslicef64_rate :
      Decides (Post RefSliceF64Rate.ended RefSliceF64Rate.clauses (λ k a. (tt, λ r s. r_last _)))
  pub sound_gains_by_frame :
      DecidesWith (λ k r s. s.1.1.0.now) (Post SoundGainsByFrame.ended SoundGainsByFrame.clauses
      (λ k a. (tt, λ r s. r_last _)))
  pub sound_gains_once :
      DecidesWith (λ k r s. s.1.1.0.now) (Post SoundGainsOnce.ended SoundGainsOnce.clauses
      (λ k a. (tt, λ r s. r_last _)))
  pub sound_fast_path_play :
      DecidesWith (λ k r s. s.1.1.1.1.0.now) (Post SoundFastPathPlay.ended SoundFastPathPlay.clauses
      (λ k a. (tt, λ r s. r_last _)))
  pub sound_fast_path_blocklanes_frames :
      Decides (Post BlockLanesFrames.ended BlockLanesFrames.clauses (λ k a. (tt, λ r s. r_last _)))
  pub sound_held_play :
      DecidesWith (λ k r s. s.1.1.1.1.0.now) (Post SoundHeldPlay.ended SoundHeldPlay.clauses
      (λ k a. (tt, λ r s. r_last _)))
  pub sound_block_block :
      DecidesWith (λ k r s. s.1.1.1.1.1.0.now) (Post SoundBlockBlock.ended SoundBlockBlock.clauses
      (λ k a. (tt, λ r s. r_last _)))
  pub sound_constant_first_of :
      Decides (Post SoundConstantFirstOf.ended SoundConstantFirstOf.clauses (λ k a. (tt, λ r s. r_last _)))
  -- static_sound
  pub static_sound_process : DecidesWith
      (λ k r s. s.1.1.1.1.1.0.now) (Post StaticSoundProcess.ended StaticSoundProcess.clauses
      (λ k a. (tt, λ r s. r_last _)))
  pub static_sound_process_into : DecidesWith
      (λ k r s. s.1.1.1.1.1.0.now) (Post StaticSoundProcessInto.ended StaticSoundProcessInto.clauses
      (λ k a. (tt, λ r s. r_last _)))
  pub static_sound_process_held :
      DecidesWith (λ k r s. s.1.1.1.1.1.0.now) (Post StaticSoundProcessHeld.ended StaticSoundProcessHeld.clauses
      (λ k a. (tt, λ r s. r_last _)))
  pub static_sound_process_held_into : DecidesWith
      (λ k r s. s.1.1.1.1.1.0.now) (Post StaticSoundProcessHeldInto.ended StaticSoundProcessHeldInto.clauses
      (λ k a. (tt, λ r s. r_last _)))
  pub static_sound_stretch :
      DecidesPart (Post StaticSoundStretch.ended StaticSoundStretch.clauses (λ k a. (tt, λ r s. r_fact _ _ (r_last _))))
  -- loop_table, loop_copies and take_loop
  pub loop_table_looptable_new :
      Decides (Post LoopTableLoopTableNew.ended LoopTableLoopTableNew.clauses (λ k a. (tt, λ r s. r_last _)))
  pub loop_table_looptable_write :
      Decides (Post LoopTableLoopTableWrite.ended LoopTableLoopTableWrite.clauses (λ k a. (tt, λ r s. r_last _)))
  pub loop_table_looptable_clear :
      Decides (Post LoopTableLoopTableClear.ended LoopTableLoopTableClear.clauses (λ k a. (tt, λ r s. r_last _)))
  pub loop_table_looptable_read :
      Decides (Post LoopTableLoopTableRead.ended LoopTableLoopTableRead.clauses (λ k a. (tt, λ r s. r_last _)))
  pub loop_table_looptable_is_well_formed :
      Decides (Post LoopTableLoopTableIsWellFormed.ended LoopTableLoopTableIsWellFormed.clauses
      (λ k a. (tt, λ r s. r_last _)))
  pub loop_table_loopslot_is_well_formed :
      Decides (Post LoopTableLoopSlotIsWellFormed.ended LoopTableLoopSlotIsWellFormed.clauses
      (λ k a. (tt, λ r s. r_last _)))
  pub loop_copies_loopcopy_new :
      Decides (Post LoopCopiesLoopCopyNew.ended LoopCopiesLoopCopyNew.clauses (λ k a. (tt, λ r s. r_last _)))
  pub loop_copies_loopcopy_write :
      Decides (Post LoopCopiesLoopCopyWrite.ended LoopCopiesLoopCopyWrite.clauses (λ k a. (tt, λ r s. r_last _)))
  pub loop_copies_loopcopy_clear :
      Decides (Post LoopCopiesLoopCopyClear.ended LoopCopiesLoopCopyClear.clauses (λ k a. (tt, λ r s. r_last _)))
  pub loop_copies_loopcopy_merge :
      Decides (Post LoopCopiesLoopCopyMerge.ended LoopCopiesLoopCopyMerge.clauses (λ k a. (tt, λ r s. r_last _)))
  pub take_loop_take : Decides (Post TakeLoopTake.ended TakeLoopTake.clauses (λ k a. (tt, λ r s. r_last _)))
  -- decibels and semitones
  pub decibels_as_amplitude :
      Decides (Post DecibelsAsAmplitude.ended DecibelsAsAmplitude.clauses (λ k a. (tt, λ r s. r_last _)))
  pub decibels_fade_ramp :
      DecidesWith (λ k r s. s.1.1.1.0.now) (Post DecibelsFadeRamp.ended DecibelsFadeRamp.clauses
      (λ k a. (tt, λ r s. r_last _)))
  pub semitones_raised : Decides (Post SemitonesRaised.ended SemitonesRaised.clauses (λ k a. (tt, λ r s. r_last _)))
  -- crc32
  pub crc32_checksum : Decides (Post Crc32Checksum.ended Crc32Checksum.clauses (λ k a. (tt, λ r s. r_last _)))
  -- byte_layout
  pub byte_layout_number : Decides (Post ByteLayoutNumber.ended ByteLayoutNumber.clauses (λ k a. (tt, λ r s. r_last _)))
  pub byte_layout_put_number :
      DecidesWith (λ k r s. s.0.now) (Post ByteLayoutPutNumber.ended ByteLayoutPutNumber.clauses
      (λ k a. (tt, λ r s. r_last _)))
  pub byte_layout_begin : Decides (Post ByteLayoutBegin.ended ByteLayoutBegin.clauses (λ k a. (tt, λ r s. r_last _)))
  pub byte_layout_read_rows : DecidesAs
      (λ k a r. view a.0.now (length a.1.1.0.now) r) (Post ByteLayoutReadRows.ended ByteLayoutReadRows.clauses
      (λ k a. (tt, λ r s. r_last _)))
  pub byte_layout_put_rows :
      DecidesWith (λ k r s. s.0.now) (Post ByteLayoutPutRows.ended ByteLayoutPutRows.clauses
      (λ k a. (tt, λ r s. r_last _)))
  pub byte_layout_rows_fit :
      Decides (Post ByteLayoutRowsFit.ended ByteLayoutRowsFit.clauses (λ k a. (tt, λ r s. r_last _)))
  pub byte_layout_rows_length :
      Decides (Post ByteLayoutRowsLength.ended ByteLayoutRowsLength.clauses (λ k a. (tt, λ r s. r_last _)))
  pub byte_layout_copy :
      DecidesWith (λ k r s. s.1.1.1.0.now) (Post ByteLayoutCopy.ended ByteLayoutCopy.clauses
      (λ k a. (tt, λ r s. r_last _)))
  -- saved_settings
  pub saved_settings_load :
      Decides (Post SavedSettingsLoad.ended SavedSettingsLoad.clauses (λ k a. (tt, λ r s. r_last _)))
  pub saved_settings_store :
      DecidesWith (λ k r s. s.1.1.0.now) (Post SavedSettingsStore.ended SavedSettingsStore.clauses
      (λ k a. (tt, λ r s. r_last _)))
  -- trace_sealed
  pub trace_sealed_read : Decides (Post TraceSealedRead.ended TraceSealedRead.clauses (λ k a. (tt, λ r s. r_last _)))
  pub trace_sealed_write :
      DecidesWith (λ k r s. s.0.now) (Post TraceSealedWrite.ended TraceSealedWrite.clauses
      (λ k a. (tt, λ r s. r_last _)))
  -- saved_loops
  pub saved_loops_load : Decides (Post SavedLoopsLoad.ended SavedLoopsLoad.clauses (λ k a. (tt, λ r s. r_last _)))
  pub saved_loops_store :
      DecidesWith (λ k r s. s.1.1.0.now) (Post SavedLoopsStore.ended SavedLoopsStore.clauses
      (λ k a. (tt, λ r s. r_last _)))
  -- trace_records and trace_salvage
  pub trace_records_read : Decides (Post TraceRecordsRead.ended TraceRecordsRead.clauses (λ k a. (tt, λ r s. r_last _)))
  pub trace_records_write :
      DecidesWith (λ k r s. s.0.now) (Post TraceRecordsWrite.ended TraceRecordsWrite.clauses
      (λ k a. (tt, λ r s. r_last _)))
  pub trace_records_is_in_steps :
      Decides (Post IsInSteps.ended IsInSteps.clauses (λ k a. (tt, λ r s. r_last _)))
  pub trace_records_put_head :
      DecidesWith (λ k r s. s.0.now) (Post PutHead.ended PutHead.clauses
      (λ k a. (tt, λ r s. r_last _)))
  pub trace_salvage_salvage :
      DecidesWith (λ k r s. s.1.0.now) (Post TraceSalvageSalvage.ended TraceSalvageSalvage.clauses
      (λ k a. (tt, λ r s. r_last _)))
  pub trace_salvage_salvage_by :
      DecidesWith (λ k r s. s.1.1.0.now) (Post TraceSalvageSalvageBy.ended TraceSalvageSalvageBy.clauses
      (λ k a. (tt, λ r s. r_last _)))
  -- c_state and c_inputs
  pub c_state_staticsound_from : Decides (Post StaticSoundFromCableowlState.ended StaticSoundFromCableowlState.clauses
      (λ k a. (tt, λ r s. r_last _)))
  pub c_state_recentframe_from :
      Decides (Post RecentFrameFromCableowlEntry.ended RecentFrameFromCableowlEntry.clauses
      (λ k a. (tt, λ r s. r_last _)))
  pub c_state_cableowlentry_from :
      Decides (Post CableowlEntryFromRecentFrame.ended CableowlEntryFromRecentFrame.clauses
      (λ k a. (tt, λ r s. r_last _)))
  pub c_state_encode : Decides (Post CStateEncode.ended CStateEncode.clauses (λ k a. (tt, λ r s. r_last _)))
  pub c_inputs_settings_from :
      Decides (Post SettingsFromC.ended SettingsFromC.clauses (λ k a. (tt, λ r s. r_last _)))
  pub c_inputs_playbackposition_from :
      Decides (Post PlaybackPositionFromC.ended PlaybackPositionFromC.clauses (λ k a. (tt, λ r s. r_last _)))
  pub c_inputs_endposition_from :
      Decides (Post EndPositionFromC.ended EndPositionFromC.clauses (λ k a. (tt, λ r s. r_last _)))
  pub c_inputs_commands_from :
      Decides (Post CommandsFromC.ended CommandsFromC.clauses (λ k a. (tt, λ r s. r_last _)))
  pub c_inputs_signals_from :
      Decides (Post SignalsFromC.ended SignalsFromC.clauses (λ k a. (tt, λ r s. r_last _)))
  -- cableowl
  pub cableowl_cableowl_version :
      Decides (Post CableowlVersion.ended CableowlVersion.clauses (λ k a. (tt, λ r s. r_last _)))
  pub cableowl_cableowl_new :
      Decides (Post CableowlNew.ended CableowlNew.clauses (λ k a. (tt, λ r s. r_last _)))
  pub cableowl_cableowl_on_start_processing :
      Decides (Post CableowlOnStartProcessing.ended CableowlOnStartProcessing.clauses
      (λ k a. (tt, λ r s. r_last _)))
  pub cableowl_cableowl_process : DecidesWith
      (λ k r s. s.1.1.1.1.1.1.1.1.1.0.now) (Post CableowlProcess.ended CableowlProcess.clauses
      (λ k a. (tt, λ r s. r_last _)))
  pub cableowl_cableowl_process_into : DecidesWith
      (λ k r s. s.1.1.1.1.1.1.1.1.1.0.now) (Post CableowlProcessInto.ended CableowlProcessInto.clauses
      (λ k a. (tt, λ r s. r_last _)))
  pub cableowl_cableowl_process_held : DecidesWith
      (λ k r s. s.1.1.1.1.1.1.1.1.1.0.now) (Post CableowlProcessHeld.ended CableowlProcessHeld.clauses
      (λ k a. (tt, λ r s. r_last _)))
  pub cableowl_cableowl_process_held_into : DecidesWith
      (λ k r s. s.1.1.1.1.1.1.1.1.1.0.now) (Post CableowlProcessHeldInto.ended CableowlProcessHeldInto.clauses
      (λ k a. (tt, λ r s. r_last _)))
  pub cableowl_cableowl_stretch :
      Decides (Post CableowlStretch.ended CableowlStretch.clauses (λ k a. (tt, λ r s. r_last _)))
  pub cableowl_cableowl_amplitude :
      DecidesWith (λ k r s. s.1.0.now) (Post CableowlAmplitude.ended CableowlAmplitude.clauses
      (λ k a. (tt, λ r s. r_last _)))
  pub cableowl_cableowl_fade_ramp :
      DecidesWith (λ k r s. s.1.1.1.0.now) (Post CableowlFadeRamp.ended CableowlFadeRamp.clauses
      (λ k a. (tt, λ r s. r_last _)))
  pub cableowl_cableowl_loop_table :
      Decides (Post CableowlLoopTable.ended CableowlLoopTable.clauses (λ k a. (tt, λ r s. r_last _)))
  pub cableowl_cableowl_write_loop :
      Decides (Post CableowlWriteLoop.ended CableowlWriteLoop.clauses (λ k a. (tt, λ r s. r_last _)))
  pub cableowl_cableowl_clear_loop :
      Decides (Post CableowlClearLoop.ended CableowlClearLoop.clauses (λ k a. (tt, λ r s. r_last _)))
  pub cableowl_cableowl_read_loop :
      Decides (Post CableowlReadLoop.ended CableowlReadLoop.clauses (λ k a. (tt, λ r s. r_last _)))
  pub cableowl_cableowl_take_loop :
      Decides (Post CableowlTakeLoop.ended CableowlTakeLoop.clauses (λ k a. (tt, λ r s. r_last _)))
  pub cableowl_cableowl_loop_copy :
      Decides (Post CableowlLoopCopy.ended CableowlLoopCopy.clauses (λ k a. (tt, λ r s. r_last _)))
  pub cableowl_cableowl_write_copy :
      Decides (Post CableowlWriteCopy.ended CableowlWriteCopy.clauses (λ k a. (tt, λ r s. r_last _)))
  pub cableowl_cableowl_clear_copy :
      Decides (Post CableowlClearCopy.ended CableowlClearCopy.clauses (λ k a. (tt, λ r s. r_last _)))
  pub cableowl_cableowl_merge_copies :
      Decides (Post CableowlMergeCopies.ended CableowlMergeCopies.clauses
      (λ k a. (tt, λ r s. r_last _)))
  pub cableowl_cableowl_store_settings : DecidesWith
      (λ k r s. s.1.0.now) (Post CableowlStoreSettings.ended CableowlStoreSettings.clauses
      (λ k a. (tt, λ r s. r_last _)))
  pub cableowl_cableowl_load_settings : DecidesWith
      (λ k r s. s.1.1.0.now) (Post CableowlLoadSettings.ended CableowlLoadSettings.clauses
      (λ k a. (tt, λ r s. r_last _)))
  pub cableowl_cableowl_settings_of :
      Decides (Post CableowlSettingsOf.ended CableowlSettingsOf.clauses (λ k a. (tt, λ r s. r_last _)))
  pub cableowl_cableowl_store_half :
      DecidesWith (λ k r s. s.1.1.0.now) (Post CableowlStoreHalf.ended CableowlStoreHalf.clauses
      (λ k a. (tt, λ r s. r_last _)))
  pub cableowl_cableowl_load_half :
      DecidesWith (λ k r s. s.1.0.now) (Post CableowlLoadHalf.ended CableowlLoadHalf.clauses
      (λ k a. (tt, λ r s. r_last _)))
  pub cableowl_cableowl_read_record :
      Decides (Post CableowlReadRecord.ended CableowlReadRecord.clauses (λ k a. (tt, λ r s. r_last _)))
  pub cableowl_cableowl_write_record :
      DecidesWith (λ k r s. s.0.now) (Post CableowlWriteRecord.ended CableowlWriteRecord.clauses
      (λ k a. (tt, λ r s. r_last _)))
  pub cableowl_cableowl_read_record_v2 :
      Decides (Post CableowlReadRecordV2.ended CableowlReadRecordV2.clauses
      (λ k a. (tt, λ r s. r_last _)))
  pub cableowl_cableowl_write_record_v2 :
      DecidesWith (λ k r s. s.0.now) (Post CableowlWriteRecordV2.ended CableowlWriteRecordV2.clauses
      (λ k a. (tt, λ r s. r_last _)))
  pub cableowl_cableowl_salvage :
      DecidesWith (λ k r s. s.1.0.now) (Post CableowlSalvage.ended CableowlSalvage.clauses
      (λ k a. (tt, λ r s. r_last _)))
  pub cableowl_cableowl_salvage_v2 :
      DecidesWith (λ k r s. s.1.0.now) (Post CableowlSalvageV2.ended CableowlSalvageV2.clauses
      (λ k a. (tt, λ r s. r_last _)))
  pub cableowl_cableowl_replay :
      Decides (Post CableowlReplay.ended CableowlReplay.clauses (λ k a. (tt, λ r s. r_last _)))
  pub cableowl_cableowl_replay_step : DecidesWith {B = List Float
      × List Float} (λ k r s. (s.1.1.1.0.now, s.1.1.1.1.0.now))
      (Post CableowlReplayStep.ended CableowlReplayStep.clauses
      (λ k a. (tt, λ r s. r_last _)))
  pub cableowl_cableowl_replay_v2 :
      Decides (Post CableowlReplayV2.ended CableowlReplayV2.clauses (λ k a. (tt, λ r s. r_last _)))
  pub cableowl_cableowl_replay_step_v2 : DecidesWith {B = List Float × List Float}
      (λ k r s. (s.1.1.1.0.now, s.1.1.1.1.1.1.0.now)) (Post CableowlReplayStepV2.ended CableowlReplayStepV2.clauses
      (λ k a. (tt, λ r s. r_last _)))
