-- The list of theorems, one field each; the file of a field's type states it. The contract of `promised` is this
-- record, so the prover refuses a field that is false or has no proof.
use Rattle.theorems.specs.Cut.{CutBlocks}
use Rattle.theorems.specs.Mix.{CutMixes}
use Rattle.theorems.specs.Schedules.{AnySizes, AnySizesMix, AllAccepted, AllAcceptedMix}
use Rattle.theorems.specs.Kept.{CreationKeeps, BlankIsNot, CommandsKeep, BlocksKeep, MixesKeep}
use Rattle.theorems.specs.AllowedEnd.{UpdateEnds, BlockEnds, MixEnds}
use Rattle.theorems.specs.Steps.{StepsMade, MixStepsMade}
use Rattle.theorems.specs.Reports.{
  CreationFeeds,
  CommandsFeed,
  BlocksFeed,
  MixesFeed,
  BlocksTell,
  MixesTell,
  SilenceTells,
}
use Rattle.theorems.specs.Stays.{SeekStartsNothing, StoppedStays}
use Rattle.theorems.specs.AnyOrder.{AnyOrder, ThereAndBack, Permutations}
use Rattle.theorems.specs.InTheLoop.{InTheLoop}
use Rattle.theorems.specs.LoopWraps.{UpdatesFit, BlocksFit, MixesFit}
use Rattle.theorems.specs.Budget.{BlockBudget, MixBudget, StreamBudget, TwoSteps}
use Rattle.theorems.specs.Held.{HeldBlocks}
use Rattle.theorems.specs.StartTicks.{HalfReached, MovedTogether, TickStarts, MixTickStarts}
use Rattle.theorems.specs.AtZero.{ReadsB}
use Rattle.theorems.specs.Wraps.{RustAgrees}
use Rattle.theorems.specs.Examples.{ExamplesHold}
use Rattle.theorems.specs.Archive.{CutBlocksC, CutMixesC}
use Rattle.theorems.specs.ArchiveSchedules.{AnySizesC, AnySizesMixC, AllAcceptedC, AllAcceptedMixC}
use Rattle.theorems.specs.ArchiveKept.{ArchiveKeeps, ReadBack, IllFormedRefused, TagsRefused, PartIsStretch}
use Rattle.theorems.specs.ArchiveInTheLoop.{InTheLoopC}
use Rattle.theorems.specs.Coincide.{Coincide}
use Rattle.theorems.specs.Witnesses.{Witnesses}

pub record Promises : Type 0 where
  -- splitting a block does not change it
  pub cut_blocks : CutBlocks
  pub cut_mixes : CutMixes
  -- and neither does splitting a stream of blocks of any sizes, each of which is accepted
  pub any_sizes : AnySizes
  pub any_sizes_mix : AnySizesMix
  pub all_accepted : AllAccepted
  pub all_accepted_mix : AllAcceptedMix
  -- the same for the C entries, on C records
  pub archive_cut_blocks : CutBlocksC
  pub archive_cut_mixes : CutMixesC
  pub archive_any_sizes : AnySizesC
  pub archive_any_sizes_mix : AnySizesMixC
  pub archive_all_accepted : AllAcceptedC
  pub archive_all_accepted_mix : AllAcceptedMixC
  pub archive_keeps : ArchiveKeeps
  pub archive_read_back : ReadBack
  pub archive_unlawful_refused : IllFormedRefused
  pub archive_tags_refused : TagsRefused
  pub archive_part_is_stretch : PartIsStretch
  -- an accepted call returns a well formed state, a refused one what it was given
  pub creation_keeps : CreationKeeps
  pub blank_is_not : BlankIsNot
  pub commands_keep : CommandsKeep
  pub blocks_keep : BlocksKeep
  pub mixes_keep : MixesKeep
  -- a voice stops inside a block only at its end, and then every sample is +0
  pub update_ends : UpdateEnds
  pub block_ends : BlockEnds
  pub mix_ends : MixEnds
  -- the reported steps are the updates made
  pub steps_made : StepsMade
  pub mix_steps_made : MixStepsMade
  -- their largest number, and an input that reaches it
  pub block_budget : BlockBudget
  pub mix_budget : MixBudget
  pub stream_budget : StreamBudget
  pub two_steps : TwoSteps
  -- the same for blocks with held lanes
  pub held_blocks : HeldBlocks
  -- what the lowest count means, for a voice that comes from creation by calls with its sound
  pub creation_feeds : CreationFeeds
  pub commands_feed : CommandsFeed
  pub blocks_feed : BlocksFeed
  pub mixes_feed : MixesFeed
  pub blocks_tell : BlocksTell
  pub mixes_tell : MixesTell
  pub silence_tells : SilenceTells
  -- an ended transport stays ended, and a Stopped voice stays Stopped
  pub seek_starts_nothing : SeekStartsNothing
  pub stopped_stays : StoppedStays
  -- steps in any order, and any sequence of calls without a loop command, stay inside the loop
  pub any_order : AnyOrder
  pub there_and_back : ThereAndBack
  pub permutations : Permutations
  pub in_the_loop : InTheLoop
  pub archive_in_the_loop : InTheLoopC
  -- what the counts of wraps mean inside a loop: how positions, steps and wraps fit together
  pub updates_fit : UpdatesFit
  pub blocks_fit : BlocksFit
  pub mixes_fit : MixesFit
  -- ticks that wrap: half of them are reached, and a block starts a voice whose due tick is reached
  pub half_reached : HalfReached
  pub moved_together : MovedTogether
  pub tick_starts : TickStarts
  pub mix_tick_starts : MixTickStarts
  -- at fraction 0 the frame read is b
  pub reads_b : ReadsB
  -- kira's wraps and ours agree
  pub rust_agrees : RustAgrees
  -- the rules' examples marked [P]
  pub examples_hold : ExamplesHold
  -- each contract says enough: any two outcomes that it allows coincide
  pub coincide : Coincide
  -- one input for each hypothesis
  pub witnesses : Witnesses
