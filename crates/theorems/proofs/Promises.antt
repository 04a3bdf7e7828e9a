-- Every field of the record of promises, by its law.
use Rattle.transport.proofs.Rust.{forward_is_rust, backward_is_rust, seek_is_rust}
use Rattle.transport.proofs.WellFormed.{seek_starts_nothing}
use Rattle.playback_state_manager.proofs.Stays.{pausing_stopped, resuming_stopped, stopping_stopped, settled_stopped}
use Rattle.cableowl.proofs.Kept.{created_kept, created_blank, commanded_kept, commanded_given, processed_kept, processed_given, into_kept, into_given}
use Rattle.c_state.proofs.Inverse.{decoded_encoded, encoded_decoded}
use Rattle.cableowl.proofs.Unknown.{commanded_1, processed_1, into_1, part_1}
use Rattle.c_inputs.proofs.Unknown.{place_unknown, end_unknown, start_unknown, ending_unknown, optional_unknown, loop_unknown, rate_unknown, seek_unknown}
use Rattle.cableowl.proofs.Parts.{stretch_part}
use Rattle.theorems.specs.ArchiveKept.{ArchiveKeeps, TagsRefused}
use Rattle.theorems.specs.Promises.{Promises}
use Rattle.theorems.proofs.Cut.{cut_blocks}
use Rattle.theorems.proofs.Mix.{cut_mixes}
use Rattle.theorems.proofs.Schedules.{any_sizes}
use Rattle.theorems.proofs.MixSchedules.{any_sizes_mix, all_accepted_mix}
use Rattle.theorems.proofs.Plain.{mix_steps_made, mix_ends}
use Rattle.theorems.proofs.Streams.{all_accepted}
use Rattle.theorems.proofs.Kept.{creation_keeps, blank_is_not, commands_keep, blocks_keep, mixes_keep}
use Rattle.theorems.proofs.AllowedEnd.{update_ends, block_ends}
use Rattle.theorems.proofs.Steps.{steps_made}
use Rattle.theorems.proofs.Reports.{creation_feeds, commands_feed, blocks_feed, mixes_feed, blocks_tell, mixes_tell, silence_tells}
use Rattle.theorems.proofs.AnyOrder.{any_order, there_and_back, permutations}
use Rattle.theorems.proofs.InTheLoop.{in_the_loop}
use Rattle.theorems.proofs.LoopWraps.{updates_fit, blocks_fit, mixes_fit}
use Rattle.theorems.proofs.Held.{held_blocks}
use Rattle.theorems.proofs.Budget.{block_budget, mix_budget, stream_budget, two_steps}
use Rattle.theorems.proofs.StartTicks.{half_reached, moved_together, tick_starts, mix_tick_starts}
use Rattle.theorems.proofs.Archive.{archive_cut_blocks, archive_cut_mixes}
use Rattle.theorems.proofs.ArchiveSchedules.{archive_any_sizes, archive_any_sizes_mix, archive_all_accepted, archive_all_accepted_mix}
use Rattle.theorems.proofs.ArchiveInTheLoop.{archive_in_the_loop}
use Rattle.theorems.proofs.Coincide.{coincide}
use Rattle.theorems.proofs.Witnesses.{witnesses}
use Rattle.theorems.proofs.AtZero.{reads_b}
use Rattle.theorems.proofs.Examples.{examples_hold}

archive_keeps : ArchiveKeeps
archive_keeps =
    record {
      creation = λ snd s. (created_kept snd s, created_blank snd s);
      commands = λ snd c k. (commanded_kept snd c k, commanded_given snd c k);
      block = λ snd c dt b g out. (processed_kept snd c dt b g out, processed_given snd c dt b g out);
      mix = λ snd c dt b g mix from. (into_kept snd c dt b g mix from, into_given snd c dt b g mix from);
    }

tags_refused : TagsRefused
tags_refused =
    record {
      place = place_unknown;
      end = end_unknown;
      start = start_unknown;
      ending = ending_unknown;
      optional = optional_unknown;
      loop = loop_unknown;
      rate = rate_unknown;
      seek = seek_unknown;
    }

pub promises : Promises
promises =
    record {
      cut_blocks = cut_blocks;
      cut_mixes = cut_mixes;
      any_sizes = any_sizes;
      any_sizes_mix = any_sizes_mix;
      all_accepted = all_accepted;
      all_accepted_mix = all_accepted_mix;
      archive_cut_blocks = archive_cut_blocks;
      archive_cut_mixes = archive_cut_mixes;
      archive_any_sizes = archive_any_sizes;
      archive_any_sizes_mix = archive_any_sizes_mix;
      archive_all_accepted = archive_all_accepted;
      archive_all_accepted_mix = archive_all_accepted_mix;
      archive_keeps = archive_keeps;
      archive_read_back = record { voice = decoded_encoded; numbers = encoded_decoded };
      archive_unlawful_refused = record { commands = commanded_1; block = processed_1; mix = into_1; stretch = part_1 };
      archive_tags_refused = tags_refused;
      archive_part_is_stretch = stretch_part;
      creation_keeps = creation_keeps;
      blank_is_not = blank_is_not;
      commands_keep = commands_keep;
      blocks_keep = blocks_keep;
      mixes_keep = mixes_keep;
      update_ends = update_ends;
      block_ends = block_ends;
      mix_ends = mix_ends;
      steps_made = steps_made;
      mix_steps_made = mix_steps_made;
      block_budget = block_budget;
      mix_budget = mix_budget;
      stream_budget = stream_budget;
      two_steps = two_steps;
      held_blocks = held_blocks;
      creation_feeds = creation_feeds;
      commands_feed = commands_feed;
      blocks_feed = blocks_feed;
      mixes_feed = mixes_feed;
      blocks_tell = blocks_tell;
      mixes_tell = mixes_tell;
      silence_tells = silence_tells;
      seek_starts_nothing = seek_starts_nothing;
      stopped_stays = record { pause = pausing_stopped; resume = resuming_stopped; stop = stopping_stopped; signals = settled_stopped };
      any_order = any_order;
      there_and_back = there_and_back;
      permutations = permutations;
      in_the_loop = in_the_loop;
      archive_in_the_loop = archive_in_the_loop;
      updates_fit = updates_fit;
      blocks_fit = blocks_fit;
      mixes_fit = mixes_fit;
      half_reached = half_reached;
      moved_together = moved_together;
      tick_starts = tick_starts;
      mix_tick_starts = mix_tick_starts;
      reads_b = reads_b;
      rust_agrees = record { forward = forward_is_rust; backward = backward_is_rust; seek = seek_is_rust };
      examples_hold = examples_hold;
      coincide = coincide;
      witnesses = witnesses;
    }
