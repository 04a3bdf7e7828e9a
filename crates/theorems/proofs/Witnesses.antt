-- Each hypothesis at its input, by computing. Assumes nothing.
use mathlib.Core.Path.{◌≡◌, refl, sym, ap, ◌∙◌, subst}
use Prim.Native.Nat.{ℕ, ◌<◌}
use native.Mathlib.Omega.{arith}
use mathlib.Core.Bool.{Bool, true, false, not}
use mathlib.Core.List.{[], ◌∷◌}
use lib.Dec.{T, leb, leb→le}
use lib.ListN.{take}
use lib.Ieee.{add, sub, mul, div, lt, le, of_int, fits}
use Rattle.numbers.specs.Frames.{rounded, cut_off}
use Rattle.numbers.specs.Words.{one, magnitude, narrowed, whole, taken, part, advance}
use Rattle.playback_position.specs.Positions.{position_in_frames, end_in_frames, region_in_frames, well_formed_region}
use Rattle.transport.specs.Moves.{forward, backward, seek}
use Rattle.transport.specs.WellFormed.{Inside}
use Rattle.resampler.specs.Windows.{push, reading}
use Rattle.frame.specs.Frames.{cubic, interpolated}
use Rattle.sound_update.specs.Updates.{pushed, stepped, updated, updates}
use Rattle.sound_state.specs.declared.StaticSound.{StaticSound}
use Rattle.sound_state.specs.Voices.{length_of_slice, slice_of}
use Rattle.sound_lanes.specs.Lanes.{rows, first_lanes}
use Rattle.sound_state.specs.WellFormed.{well_formed_for, well_formed}
use Rattle.sound_creation.specs.Creation.{refused_new, made, created}
use Rattle.sound_commands.specs.Commands.{refused_set, commanded, target_by, target_to, obeyed, before_seeks}
use Rattle.sound_slow_path.specs.Plays.{frame_with_gains, lower, plays, total, after_frame}
use Rattle.sound_block.specs.Blocks.{begun, live, block, zeros}
use Rattle.static_sound.specs.Entries.{refused_block, processed, processed_into}
use Rattle.c_state.specs.Records.{well_formed_state, state_of, decoded, encoded}
use Rattle.c_state.proofs.Inverse.{decoded_encoded}
use Rattle.cableowl.specs.Entries.{after, processed_c, processed_into_c}
use Rattle.theorems.specs.Accepted.{AcceptedBlock, AcceptedMix}
use Rattle.theorems.specs.Alike.{Awake}
use Rattle.theorems.specs.Schedules.{played_by, mixed_by, BothAwake, Stream, AllowedCut, AllowedCutMix, Way}
use Rattle.theorems.specs.Reports.{FedVoice, AcceptedNew, Full, Short}
use Rattle.theorems.specs.AnyOrder.{Forward, Backward, InLoop, swapped}
use Rattle.theorems.specs.InTheLoop.{after_all, some_accepted, reloops, EndsStopped}
use Rattle.theorems.specs.ArchiveInTheLoop.{some_accepted_c, reloops_c, EndsStoppedC}
use Rattle.theorems.specs.Stays.{PlaysAfter}
use Rattle.theorems.specs.Budget.{Slow}
use Rattle.theorems.specs.AtZero.{SmallFrame}
use Rattle.theorems.specs.ArchiveKept.{WellFormedState, IllFormedState}
use Rattle.theorems.specs.ArchiveSchedules.{played_by_c, mixed_by_c, BothAwakeC}
use Rattle.theorems.specs.LoopWraps.{Onward, Back, CountsOnward, CountsBack}
use Rattle.theorems.specs.Examples.{looped, ten, from}
use Rattle.theorems.specs.Witnesses.{voice, unstarted, reversed, single, ending, lanes, due, waiting, output, mix, stopping, state, state_of7, due_c, stopping_c, full, Witnesses}
use Rattle.theorems.proofs.Streams.{all_accepted}
use Rattle.theorems.proofs.MixSchedules.{all_accepted_mix}
use Rattle.theorems.proofs.ArchiveSchedules.{archive_all_accepted, archive_all_accepted_mix}
use Rattle.theorems.proofs.ArchiveInTheLoop.{row_meant, some_meant, reloops_meant}
use Rattle.theorems.proofs.Reports.{creation_feeds}

accepted_new : AcceptedNew ten (from 0 false)
unfolding created made refused_new position_in_frames end_in_frames region_in_frames well_formed_region rounded of_int mul
accepted_new = refl

fed : FedVoice ten voice
fed = creation_feeds ten (from 0 false) accepted_new

accepted : AcceptedBlock ten voice one lanes due output
unfolding processed refused_block well_formed_for well_formed created made refused_new position_in_frames end_in_frames region_in_frames well_formed_region rounded magnitude advance mul lt le of_int
accepted = refl

accepted_mix : AcceptedMix ten voice one lanes due mix 1
unfolding processed_into refused_block well_formed_for well_formed created made refused_new position_in_frames end_in_frames region_in_frames well_formed_region rounded magnitude advance mul lt le of_int
accepted_mix = refl

-- the same for a voice that has not started
accepted_unstarted : AcceptedBlock ten unstarted one lanes due output
unfolding processed refused_block well_formed_for well_formed created made refused_new position_in_frames end_in_frames region_in_frames well_formed_region rounded magnitude advance mul lt le of_int
accepted_unstarted = refl

accepted_mix_unstarted : AcceptedMix ten unstarted one lanes due mix 1
unfolding processed_into refused_block well_formed_for well_formed created made refused_new position_in_frames end_in_frames region_in_frames well_formed_region rounded magnitude advance mul lt le of_int
accepted_mix_unstarted = refl

accepted_c : (processed_c ten state one lanes due_c output).answer.refusal ≡ 0
unfolding processed_c decoded encoded well_formed_state state_of processed refused_block well_formed_for well_formed created made refused_new position_in_frames end_in_frames region_in_frames well_formed_region rounded magnitude advance mul lt le of_int
accepted_c = refl

accepted_mix_c : (processed_into_c ten state one lanes due_c mix 1).answer.refusal ≡ 0
unfolding processed_into_c decoded encoded well_formed_state state_of processed_into refused_block well_formed_for well_formed created made refused_new position_in_frames end_in_frames region_in_frames well_formed_region rounded magnitude advance mul lt le of_int
accepted_mix_c = refl

stream : Stream ten one lanes voice
unfolding well_formed_for well_formed created made refused_new position_in_frames end_in_frames region_in_frames well_formed_region rounded magnitude advance mul lt le of_int
stream = record { well_formed_for = tt; fade = refl; volume = refl; left = refl; right = refl; is_time_step = tt; laned = tt; near = tt }

decoded_state : decoded state ≡ voice
decoded_state = decoded_encoded voice

slow : Slow 1 voice one lanes
unfolding created made refused_new position_in_frames end_in_frames region_in_frames well_formed_region rounded magnitude advance mul lt le of_int
slow = tt

live_now : live (begun due voice) ≡ true
unfolding begun created made refused_new position_in_frames end_in_frames region_in_frames well_formed_region rounded mul lt of_int
live_now = refl

silent : live (begun waiting unstarted) ≡ false
unfolding begun
silent = refl

inside : Inside 3 6 voice.moving.transport
unfolding created made refused_new position_in_frames end_in_frames region_in_frames well_formed_region rounded mul lt of_int forward
inside = record { loop = refl; going = refl; from = omega arith; to = omega arith }

in_loop : InLoop 10 3 6 (looped 4)
in_loop = record { fits = omega arith; inside = record { loop = refl; going = refl; from = omega arith; to = omega arith } }

frames : length_of_slice voice.setup ≡ 10
unfolding created made refused_new position_in_frames end_in_frames region_in_frames well_formed_region rounded mul lt of_int
frames = refl

voice_well_formed : T (well_formed voice)
unfolding well_formed created made refused_new position_in_frames end_in_frames region_in_frames well_formed_region rounded mul lt of_int
voice_well_formed = tt

no_loop_command : T (not (some_accepted reloops stopping voice))
unfolding some_accepted processed refused_block well_formed_for well_formed block begun zeros plays total after_frame frame_with_gains lower updates updated stepped pushed created made refused_new position_in_frames end_in_frames region_in_frames well_formed_region rounded cut_off magnitude narrowed whole taken part advance forward backward push reading cubic interpolated refused_set commanded target_by target_to obeyed before_seeks add sub mul div lt le of_int
no_loop_command = tt

allowed_cut : AllowedCut ten one lanes voice 1 (1 ∷ []) output
allowed_cut = record { stream = stream; holds = refl; all_of_it = refl; few = tt }

allowed_cut_mix : AllowedCutMix ten one lanes voice 1 (1 ∷ []) mix 1
allowed_cut_mix = record { stream = stream; holds = tt; all_of_it = refl; few = tt }

whole_cut : AllowedCut ten one lanes voice 2 [] output
whole_cut = record { stream = stream; holds = refl; all_of_it = refl; few = tt }

whole_cut_mix : AllowedCutMix ten one lanes voice 2 [] mix 1
whole_cut_mix = record { stream = stream; holds = tt; all_of_it = refl; few = tt }

allowed_cut_c : AllowedCut ten one lanes (decoded state) 1 (1 ∷ []) output
allowed_cut_c = subst (λ (v : StaticSound). AllowedCut ten one lanes v 1 (1 ∷ []) output) (sym decoded_state) allowed_cut

allowed_cut_mix_c : AllowedCutMix ten one lanes (decoded state) 1 (1 ∷ []) mix 1
allowed_cut_mix_c = subst (λ (v : StaticSound). AllowedCutMix ten one lanes v 1 (1 ∷ []) mix 1) (sym decoded_state) allowed_cut_mix

way : Way ten one lanes due voice 1 (1 ∷ []) output
way = record { all_of_it = refl; accepted = all_accepted ten one lanes due voice 1 (1 ∷ []) output allowed_cut }

-- ---- conditions in conclusions

awake_first : Awake (processed ten voice one (first_lanes 1 lanes) due (take 2 output)).answer.voice
unfolding processed refused_block well_formed_for well_formed block begun zeros plays total after_frame frame_with_gains lower updates updated stepped pushed created made refused_new position_in_frames end_in_frames region_in_frames well_formed_region rounded cut_off magnitude narrowed whole taken part advance forward backward push reading cubic interpolated add sub mul lt le of_int
awake_first = tt

awake_first_mix : Awake (processed_into ten voice one (first_lanes 1 lanes) due mix 1).answer.voice
unfolding processed_into refused_block well_formed_for well_formed block begun zeros plays total after_frame frame_with_gains lower updates updated stepped pushed created made refused_new position_in_frames end_in_frames region_in_frames well_formed_region rounded cut_off magnitude narrowed whole taken part advance forward backward push reading cubic interpolated add sub mul lt le of_int
awake_first_mix = tt

awake_first_c : Awake (decoded (processed_c ten state one (first_lanes 1 lanes) due_c (take 2 output)).answer.state)
unfolding processed_c after decoded encoded well_formed_state state_of processed refused_block well_formed_for well_formed block begun zeros plays total after_frame frame_with_gains lower updates updated stepped pushed created made refused_new position_in_frames end_in_frames region_in_frames well_formed_region rounded cut_off magnitude narrowed whole taken part advance forward backward push reading cubic interpolated add sub mul lt le of_int
awake_first_c = tt

awake_first_mix_c : Awake (decoded (processed_into_c ten state one (first_lanes 1 lanes) due_c mix 1).answer.state)
unfolding processed_into_c after decoded encoded well_formed_state state_of processed_into refused_block well_formed_for well_formed block begun zeros plays total after_frame frame_with_gains lower updates updated stepped pushed created made refused_new position_in_frames end_in_frames region_in_frames well_formed_region rounded cut_off magnitude narrowed whole taken part advance forward backward push reading cubic interpolated add sub mul lt le of_int
awake_first_mix_c = tt

awake_ways : BothAwake (played_by ten one 1 (1 ∷ []) lanes due voice output) (played_by ten one 2 [] lanes due voice output)
unfolding played_by processed refused_block well_formed_for well_formed block begun zeros plays total after_frame frame_with_gains lower updates updated stepped pushed created made refused_new position_in_frames end_in_frames region_in_frames well_formed_region rounded cut_off magnitude narrowed whole taken part advance forward backward push reading cubic interpolated add sub mul lt le of_int
awake_ways = (tt, tt)

awake_ways_mix : BothAwake (mixed_by ten one 1 (1 ∷ []) lanes due voice mix 1) (mixed_by ten one 2 [] lanes due voice mix 1)
unfolding mixed_by processed_into refused_block well_formed_for well_formed block begun zeros plays total after_frame frame_with_gains lower updates updated stepped pushed created made refused_new position_in_frames end_in_frames region_in_frames well_formed_region rounded cut_off magnitude narrowed whole taken part advance forward backward push reading cubic interpolated add sub mul lt le of_int
awake_ways_mix = (tt, tt)

awake_ways_c : BothAwakeC (played_by_c ten one 1 (1 ∷ []) lanes due_c state output) (played_by_c ten one 2 [] lanes due_c state output)
unfolding played_by_c processed_c after decoded encoded well_formed_state state_of processed refused_block well_formed_for well_formed block begun zeros plays total after_frame frame_with_gains lower updates updated stepped pushed created made refused_new position_in_frames end_in_frames region_in_frames well_formed_region rounded cut_off magnitude narrowed whole taken part advance forward backward push reading cubic interpolated add sub mul lt le of_int
awake_ways_c = (tt, tt)

awake_ways_mix_c : BothAwakeC (mixed_by_c ten one 1 (1 ∷ []) lanes due_c state mix 1) (mixed_by_c ten one 2 [] lanes due_c state mix 1)
unfolding mixed_by_c processed_into_c after decoded encoded well_formed_state state_of processed_into refused_block well_formed_for well_formed block begun zeros plays total after_frame frame_with_gains lower updates updated stepped pushed created made refused_new position_in_frames end_in_frames region_in_frames well_formed_region rounded cut_off magnitude narrowed whole taken part advance forward backward push reading cubic interpolated add sub mul lt le of_int
awake_ways_mix_c = (tt, tt)

full_count : Full (processed ten voice one lanes due output).answer.lowest_count (rows lanes) 1
unfolding processed refused_block well_formed_for well_formed block begun zeros plays total after_frame frame_with_gains lower updates updated stepped pushed created made refused_new position_in_frames end_in_frames region_in_frames well_formed_region rounded cut_off magnitude narrowed whole taken part advance forward backward push reading cubic interpolated add sub mul lt le of_int
full_count = (refl, omega arith)

full_count_mix : Full (processed_into ten voice one lanes due mix 1).answer.lowest_count (rows lanes) 1
unfolding processed_into refused_block well_formed_for well_formed block begun zeros plays total after_frame frame_with_gains lower updates updated stepped pushed created made refused_new position_in_frames end_in_frames region_in_frames well_formed_region rounded cut_off magnitude narrowed whole taken part advance forward backward push reading cubic interpolated add sub mul lt le of_int
full_count_mix = (refl, omega arith)

few : (n : ℕ) → n ≡ 1 → n < 4
few n e = omega arith

short_count : Short (processed single ending one lanes waiting output).answer.lowest_count
unfolding processed refused_block well_formed_for well_formed block begun zeros plays total after_frame frame_with_gains lower updates updated stepped pushed created made refused_new position_in_frames end_in_frames region_in_frames well_formed_region rounded cut_off magnitude narrowed whole taken part advance forward backward push reading cubic interpolated add sub mul lt le of_int
short_count = few _ refl

short_count_mix : Short (processed_into single ending one lanes waiting mix 1).answer.lowest_count
unfolding processed_into refused_block well_formed_for well_formed block begun zeros plays total after_frame frame_with_gains lower updates updated stepped pushed created made refused_new position_in_frames end_in_frames region_in_frames well_formed_region rounded cut_off magnitude narrowed whole taken part advance forward backward push reading cubic interpolated add sub mul lt le of_int
short_count_mix = few _ refl

stopped : EndsStopped stopping voice
unfolding after_all processed refused_block well_formed_for well_formed block begun zeros plays total after_frame frame_with_gains lower updates updated stepped pushed created made refused_new position_in_frames end_in_frames region_in_frames well_formed_region rounded cut_off magnitude narrowed whole taken part advance forward backward push reading cubic interpolated add sub mul lt le of_int refused_set commanded target_by target_to obeyed before_seeks
stopped = refl

onward : Onward (slice_of voice).backwards
unfolding created made refused_new position_in_frames end_in_frames region_in_frames well_formed_region rounded mul lt of_int
onward = refl

back : Back (slice_of reversed).backwards
unfolding created made refused_new position_in_frames end_in_frames region_in_frames well_formed_region rounded mul lt of_int
back = refl

-- a count that is at most 2 is below its limit
low : (n : ℕ) → T (leb n 2) → n < 4294967295
low n h = let l = leb→le n 2 h in omega arith

counts : CountsOnward (slice_of voice).backwards (updates 4 ten (slice_of voice) voice.moving)
unfolding block begun zeros plays total after_frame frame_with_gains lower updates updated stepped pushed created made refused_new position_in_frames end_in_frames region_in_frames well_formed_region rounded cut_off magnitude narrowed whole taken part advance forward backward push reading cubic interpolated add sub mul lt le of_int
counts = (refl, low _ tt)

counts_back : CountsBack (slice_of reversed).backwards (updates 4 ten (slice_of reversed) reversed.moving)
unfolding block begun zeros plays total after_frame frame_with_gains lower updates updated stepped pushed created made refused_new position_in_frames end_in_frames region_in_frames well_formed_region rounded cut_off magnitude narrowed whole taken part advance forward backward push reading cubic interpolated add sub mul lt le of_int
counts_back = (refl, low _ tt)

counts_block : CountsOnward (slice_of voice).backwards (processed ten voice one lanes due output).answer.voice.moving
unfolding processed refused_block well_formed_for well_formed block begun zeros plays total after_frame frame_with_gains lower updates updated stepped pushed created made refused_new position_in_frames end_in_frames region_in_frames well_formed_region rounded cut_off magnitude narrowed whole taken part advance forward backward push reading cubic interpolated add sub mul lt le of_int
counts_block = (refl, low _ tt)

counts_back_block : CountsBack (slice_of reversed).backwards (processed ten reversed one lanes due output).answer.voice.moving
unfolding processed refused_block well_formed_for well_formed block begun zeros plays total after_frame frame_with_gains lower updates updated stepped pushed created made refused_new position_in_frames end_in_frames region_in_frames well_formed_region rounded cut_off magnitude narrowed whole taken part advance forward backward push reading cubic interpolated add sub mul lt le of_int
counts_back_block = (refl, low _ tt)

counts_mix : CountsOnward (slice_of voice).backwards (processed_into ten voice one lanes due mix 1).answer.voice.moving
unfolding processed_into refused_block well_formed_for well_formed block begun zeros plays total after_frame frame_with_gains lower updates updated stepped pushed created made refused_new position_in_frames end_in_frames region_in_frames well_formed_region rounded cut_off magnitude narrowed whole taken part advance forward backward push reading cubic interpolated add sub mul lt le of_int
counts_mix = (refl, low _ tt)

counts_back_mix : CountsBack (slice_of reversed).backwards (processed_into ten reversed one lanes due mix 1).answer.voice.moving
unfolding processed_into refused_block well_formed_for well_formed block begun zeros plays total after_frame frame_with_gains lower updates updated stepped pushed created made refused_new position_in_frames end_in_frames region_in_frames well_formed_region rounded cut_off magnitude narrowed whole taken part advance forward backward push reading cubic interpolated add sub mul lt le of_int
counts_back_mix = (refl, low _ tt)

small : SmallFrame full
unfolding le magnitude fits
small = ((tt, tt), (tt, tt))

ill_formed : IllFormedState state_of7
unfolding well_formed_state
ill_formed = refl

well_formed_state_lem : WellFormedState state
unfolding well_formed_state encoded created made refused_new position_in_frames end_in_frames region_in_frames well_formed_region rounded mul lt of_int
well_formed_state_lem = tt

seek_plays : PlaysAfter 10 (looped 4) 8
unfolding seek
seek_plays = refl

-- the archive's row of calls means the other
voice_well_formed_c : T (well_formed (decoded state))
voice_well_formed_c = subst (λ (v : StaticSound). T (well_formed v)) (sym decoded_state) voice_well_formed

inside_c : Inside 3 6 (decoded state).moving.transport
inside_c = subst (λ (v : StaticSound). Inside 3 6 v.moving.transport) (sym decoded_state) inside

no_loop_command_c : T (not (some_accepted_c reloops_c stopping_c state))
no_loop_command_c =
    subst (λ (b : Bool). T (not b)) (sym (some_meant reloops_c reloops reloops_meant stopping_c state))
    (subst (λ (v : StaticSound). T (not (some_accepted reloops stopping v))) (sym decoded_state) no_loop_command)

stopped_c : EndsStoppedC stopping_c state
stopped_c =
    ap (λ (v : StaticSound). v.moving.state) (row_meant stopping_c state)
    ∙ subst (λ (v : StaticSound). EndsStopped stopping v) (sym decoded_state) stopped

pub witnesses : Witnesses
witnesses =
    record {
      cut_blocks = (record { accepted = accepted; inside = omega arith }, awake_first);
      cut_mixes = (record { accepted = accepted_mix; inside = omega arith }, awake_first_mix);
      any_sizes = ((way, record { all_of_it = refl; accepted = all_accepted ten one lanes due voice 2 [] output whole_cut }), awake_ways);
      any_sizes_mix = (
        (
          record { all_of_it = refl; accepted = all_accepted_mix ten one lanes due voice 1 (1 ∷ []) mix 1 allowed_cut_mix },
          record { all_of_it = refl; accepted = all_accepted_mix ten one lanes due voice 2 [] mix 1 whole_cut_mix },
        ),
        awake_ways_mix,
      );
      all_accepted = allowed_cut;
      all_accepted_mix = allowed_cut_mix;
      archive_cut_blocks = (record { accepted = accepted_c; inside = omega arith }, awake_first_c);
      archive_cut_mixes = (record { accepted = accepted_mix_c; inside = omega arith }, awake_first_mix_c);
      archive_any_sizes = (
        (
          record { all_of_it = refl; accepted = archive_all_accepted ten one lanes due_c state 1 (1 ∷ []) output allowed_cut_c },
          record {
            all_of_it = refl;
            accepted = archive_all_accepted ten one lanes due_c state 2 [] output (subst (λ (v : StaticSound). AllowedCut ten one lanes v 2 [] output) (sym decoded_state) whole_cut);
          },
        ),
        awake_ways_c,
      );
      archive_any_sizes_mix = (
        (
          record { all_of_it = refl; accepted = archive_all_accepted_mix ten one lanes due_c state 1 (1 ∷ []) mix 1 allowed_cut_mix_c },
          record {
            all_of_it = refl;
            accepted = archive_all_accepted_mix ten one lanes due_c state 2 [] mix 1 (subst (λ (v : StaticSound). AllowedCutMix ten one lanes v 2 [] mix 1) (sym decoded_state) whole_cut_mix);
          },
        ),
        awake_ways_mix_c,
      );
      archive_all_accepted = allowed_cut_c;
      archive_all_accepted_mix = allowed_cut_mix_c;
      archive_read_back = well_formed_state_lem;
      archive_unlawful_refused = ill_formed;
      archive_tags_refused = (omega arith, omega arith);
      block_ends = record { accepted = accepted; live = live_now; inside = omega arith };
      mix_ends = record { accepted = accepted_mix; live = live_now; inside = omega arith };
      held_blocks = (record { accepted = accepted; inside = omega arith }, awake_first, record { accepted = accepted_mix; inside = omega arith }, accepted, accepted_mix, record { accepted = accepted; small = omega arith; slow = slow }, record { accepted = accepted_mix; small = omega arith; slow = slow }, silent);
      steps_made = accepted;
      mix_steps_made = accepted_mix;
      block_budget = (record { accepted = accepted; small = omega arith; slow = slow }, silent);
      mix_budget = (record { accepted = accepted_mix; small = omega arith; slow = slow }, silent);
      stream_budget = record { way = way; small = omega arith; slow = slow };
      creation_feeds = accepted_new;
      commands_feed = fed;
      blocks_feed = fed;
      mixes_feed = fed;
      blocks_tell = (record { fed = fed; accepted = accepted; live = live_now }, full_count, short_count);
      mixes_tell = (record { fed = fed; accepted = accepted_mix; live = live_now }, full_count_mix, short_count_mix);
      silence_tells = silent;
      seek_starts_nothing = seek_plays;
      any_order = in_loop;
      there_and_back = in_loop;
      permutations = record { loop = in_loop; permuted = swapped Forward Backward [] };
      in_the_loop = (record { well_formed = voice_well_formed; inside = inside; no_loop_command = no_loop_command }, stopped);
      archive_in_the_loop = (record { well_formed = voice_well_formed_c; inside = inside_c; no_loop_command = no_loop_command_c }, stopped_c);
      updates_fit = (record { fits = omega (arith, frames); inside = inside }, counts, counts_back, onward, back);
      blocks_fit = (record { accepted = accepted; inside = inside }, counts_block, counts_back_block, onward, back);
      mixes_fit = (record { accepted = accepted_mix; inside = inside }, counts_mix, counts_back_mix, onward, back);
      half_reached = omega arith;
      moved_together = (omega arith, omega arith);
      tick_starts = record { accepted = accepted_unstarted; tick = refl };
      mix_tick_starts = record { accepted = accepted_mix_unstarted; tick = refl };
      reads_b = (small, small, small, small);
      rust_agrees = tt;
    }
