-- Any two outcomes that a contract allows coincide: each contract names its outcome, so both are the named one. An answer is known by the refusal's number and by what an accepted call returns. Assumes nothing.
use Rattle.std.specs.Prelude.{ℕ, ◌≤◌, ◌<◌, List, [], ◌∷◌, get_or, Float, Result, Ok, Err, ⊤, MatchResult}
use mathlib.Core.Path.{◌≡◌, refl, sym, ap, ◌∙◌}
use Rattle.refusals.specs.declared.Refusal.{Refusal}
use Rattle.refusals.specs.Numbers.{number, number_of}
use Rattle.refusals.proofs.Numbers.{number_injective, number_not_0, answers_same}
use Rattle.playback_state_manager.specs.declared.PlaybackState.{PlaybackState}
use Rattle.playback_state_manager.specs.declared.PlaybackState.TheVariants.{Playing, Pausing, Paused, WaitingToResume}
use Rattle.playback_state_manager.specs.declared.PlaybackState.TheVariants.{Resuming, Stopping, Stopped}
use Rattle.playback_state_manager.specs.declared.UnknownState.{UnknownState}
use Rattle.playback_state_manager.specs.States as states
use native.Mathlib.Omega.{arith}
use Rattle.sound_state.specs.declared.StaticSound.{StaticSound}
use Rattle.sound_slow_path.specs.declared.Processed.{Processed}
use Rattle.sound_slow_path.specs.Plays.{Outcome, BlockAnswer, accepted}
use Rattle.static_sound.specs.Entries.{block_answer}
use Rattle.sound_creation.specs.Creation.{Created, created_of}
use Rattle.sound_commands.specs.declared.Commanded.{Commanded}
use Rattle.sound_commands.specs.Commands.{CommandsAnswer, commands_answer}
use Rattle.loop_table.specs.Tables.{LoopChanged, LoopFound, changed_of, found_of}
use Rattle.loop_copies.specs.Copies.{CopyChanged, copy_changed_of}
use Rattle.saved_settings.specs.declared.Loaded as settings
use Rattle.saved_settings.specs.Records as saved_settings
use Rattle.saved_loops.specs.Records.{LoadedHalf, half_of}
use Rattle.trace_records.specs.declared.Record as record_answer
use Rattle.trace_records.specs.Records as trace_record
use Rattle.trace_records.specs.Writes as writes
use Rattle.trace_salvage.specs.declared.Saved as salvage_answer
use Rattle.trace_salvage.specs.Salvage as salvages
use Rattle.cableowl.specs.declared.traces.Sent.{Sent}
use Rattle.cableowl.specs.declared.traces.Saved.{Saved}
use Rattle.cableowl.specs.Traces.{sent_of, saved_of}
use Rattle.cableowl.specs.Entries.{OutcomeC}
use Rattle.cableowl.specs.Replays.{StepC}
use Rattle.theorems.specs.Coincide.{Coincide}

same : {A : Type 0} {x y z : A} → x ≡ z → y ≡ z → x ≡ y
same p q = p ∙ sym q

-- two answers without a value are the same if they have the same number
accepted_same : {x y : Result ⊤ Refusal} → number_of x ≡ number_of y → x ≡ y
accepted_same {x} {y} e = answers_same x y e (λ a b p q. refl)

-- two answers are the same if a record that has the number, and what an accepted call returns, is the same
by_parts : {A B : Type 0} (f : Result A Refusal → B) (refusal : B → ℕ) (value : B → A)
    → ((a : A) → refusal (f (Ok a)) ≡ 0) → ((r : Refusal) → refusal (f (Err r)) ≡ number r)
    → ((a : A) → value (f (Ok a)) ≡ a) → (x y : Result A Refusal) → f x ≡ f y → x ≡ y
by_parts f refusal value ok err is (Ok a) (Ok b) e = ap Ok (sym (is a) ∙ ap value e ∙ is b)
by_parts f refusal value ok err is (Ok a) (Err r) e = absurd (number_not_0 r (sym (err r) ∙ ap refusal (sym e) ∙ ok a))
by_parts f refusal value ok err is (Err r) (Ok b) e = absurd (number_not_0 r (sym (err r) ∙ ap refusal e ∙ ok b))
by_parts f refusal value ok err is (Err r) (Err q) e = ap Err (number_injective r q (sym (err r) ∙ ap refusal e ∙ err q))

-- a playback state is known by its number, which is at most 6
abbrev state_named : ℕ → PlaybackState
state_named n =
    get_or (Playing ∷ Pausing ∷ Paused ∷ WaitingToResume ∷ Resuming ∷ Stopping ∷ Stopped ∷ []) n Stopped

state_is : (s : PlaybackState) → state_named (states.number s) ≡ s
state_is Playing = refl
state_is Pausing = refl
state_is Paused = refl
state_is WaitingToResume = refl
state_is Resuming = refl
state_is Stopping = refl
state_is Stopped = refl

state_low : (s : PlaybackState) → states.number s ≤ 6
state_low Playing = omega arith
state_low Pausing = omega arith
state_low Paused = omega arith
state_low WaitingToResume = omega arith
state_low Resuming = omega arith
state_low Stopping = omega arith
state_low Stopped = omega arith

state : (n : ℕ) (x y : Result PlaybackState UnknownState) → MatchResult x (λ s. states.number s ≡ n) (λ e. 6 < n)
    → MatchResult y (λ s. states.number s ≡ n) (λ e. 6 < n) → x ≡ y
state n (Ok a) (Ok b) p q = ap Ok (sym (state_is a) ∙ ap state_named (p ∙ sym q) ∙ state_is b)
state n (Ok a) (Err e) p q = absurd (omega (arith, state_low a, p, q))
state n (Err e) (Ok b) p q = absurd (omega (arith, state_low b, p, q))
state n (Err e) (Err f) p q = refl

created : {x y : Result StaticSound Refusal} → created_of x ≡ created_of y → x ≡ y
created {x} {y} e = by_parts created_of (λ (c : Created). c.refusal) (λ (c : Created). c.voice) (λ a. refl) (λ r. refl) (λ a. refl) x y e

commanded : (v : StaticSound) {x y : Result Commanded Refusal} → commands_answer v x ≡ commands_answer v y → x ≡ y
commanded v {x} {y} e =
    by_parts (commands_answer v) (λ (c : CommandsAnswer). c.refusal) (λ (c : CommandsAnswer). record { voice = c.voice; position = c.position })
    (λ a. refl) (λ r. refl) (λ a. refl) x y e

-- the answers and the samples of one outcome
parts : {x y : Processed} {v w : List Float}
    → ◌≡◌ {A = Outcome} (record { answer = accepted x; samples = v }) (record { answer = accepted y; samples = w }) → (x ≡ y) × (v ≡ w)
parts e = (
  ap (λ (o : Outcome). record { voice = o.answer.voice; steps = o.answer.steps; lowest_count = o.answer.lowest_count }) e,
  ap (λ (o : Outcome). o.samples) e,
)

answers : (u : StaticSound) {x y : Result Processed Refusal} {v w : List Float}
    → ◌≡◌ {A = Outcome} (record { answer = block_answer u x; samples = v }) (record { answer = block_answer u y; samples = w })
    → (x ≡ y) × (v ≡ w)
answers u {x} {y} e = (
  by_parts (block_answer u) (λ (b : BlockAnswer). b.refusal)
      (λ (b : BlockAnswer). record { voice = b.voice; steps = b.steps; lowest_count = b.lowest_count })
      (λ a. refl) (λ r. refl) (λ a. refl) x y (ap (λ (o : Outcome). o.answer) e),
  ap (λ (o : Outcome). o.samples) e,
)

parts_c : {o p : OutcomeC} → o ≡ p → (o.answer ≡ p.answer) × (o.samples ≡ p.samples)
parts_c e = (ap (λ (o : OutcomeC). o.answer) e, ap (λ (o : OutcomeC). o.samples) e)

-- a result and what is written, each by its own equation
both : {A B : Type 0} {x y u : A} {v w z : B} → (x ≡ u) × (v ≡ z) → (y ≡ u) × (w ≡ z) → (x ≡ y) × (v ≡ w)
both p q = (same p.0 q.0, same p.1 q.1)

-- an answer by its number alone and what is written
both_accepted : {B : Type 0} {x y : Result ⊤ Refusal} {u : ℕ} {v w z : B} → (number_of x ≡ u) × (v ≡ z) → (number_of y ≡ u) × (w ≡ z)
    → (x ≡ y) × (v ≡ w)
both_accepted p q = (accepted_same (same p.0 q.0), same p.1 q.1)

-- a record written, and a salvage, with the buffer after each
wrote : (at : ℕ) {x y : Result ℕ Refusal} {v w : List ℕ} → writes.sent_of (writes.sent at x) v ≡ writes.sent_of (writes.sent at y) w
    → (x ≡ y) × (v ≡ w)
wrote at {x} {y} e = (
  by_parts (writes.sent at) (λ (s : writes.Sent). s.refusal) (λ (s : writes.Sent). s.next) (λ a. refl) (λ r. refl) (λ a. refl) x y
      (ap (λ (o : writes.Written). record { refusal = o.number; next = o.next }) e),
  ap (λ (o : writes.Written). o.buffer) e,
)

salvaged : {x y : Result salvage_answer.Saved Refusal} {v w : List ℕ}
    → salvages.saved_of (salvages.saved x) v ≡ salvages.saved_of (salvages.saved y) w → (x ≡ y) × (v ≡ w)
salvaged {x} {y} e = (
  by_parts salvages.saved (λ (s : salvages.Saved). s.refusal)
      (λ (s : salvages.Saved). record { records = s.records; skipped = s.skipped; first = s.first })
      (λ a. refl) (λ r. refl) (λ a. refl) x y
      (ap (λ (o : salvages.Salvaged). record { refusal = o.number; records = o.count; skipped = o.skip; first = o.place }) e),
  ap (λ (o : salvages.Salvaged). o.output) e,
)

read : (at : ℕ) {x y : Result record_answer.Record Refusal} → trace_record.record_read at x ≡ trace_record.record_read at y → x ≡ y
read at {x} {y} e =
    by_parts (trace_record.record_read at) (λ (r : trace_record.Record). r.refusal)
    (λ (r : trace_record.Record). record { kind = r.kind; next = r.next; values = r.values }) (λ a. refl) (λ r. refl) (λ a. refl) x y e

sent : {x y : Sent} {v w : List ℕ} → sent_of x v ≡ sent_of y w → (x ≡ y) × (v ≡ w)
sent e = (ap (λ (o : writes.Written). record { refusal = o.number; next = o.next }) e, ap (λ (o : writes.Written). o.buffer) e)

saved : {x y : Saved} {v w : List ℕ} → saved_of x v ≡ saved_of y w → (x ≡ y) × (v ≡ w)
saved e = (ap (λ (o : salvages.Salvaged). record { refusal = o.number; records = o.count; skipped = o.skip; first = o.place }) e, ap (λ (o : salvages.Salvaged). o.output) e)

-- a step of a replay, with the sound and the output after it
abbrev Buffers : Type 0
Buffers = List Float × List Float

abbrev buffers : StepC → Buffers
buffers o = (o.sound, o.samples)

stepped : {o p : StepC} → o ≡ p → (o.answer ≡ p.answer) × (buffers o ≡ buffers p)
stepped e = (ap (λ (o : StepC). o.answer) e, ap buffers e)

pub coincide : Coincide
coincide =
    record {
      numbers_narrow = λ k a x y s t p q. same p q;
      numbers_advance_by = λ k a x y s t p q. same p q;
      numbers_round_half_away = λ k a x y s t p q. same p q;
      numbers_cut = λ k a x y s t p q. same p q;
      numbers_magnitude = λ k a x y s t p q. same p q;
      numbers_is_finite = λ k a x y s t p q. same p q;
      numbers_is_negative = λ k a x y s t p q. same p q;
      numbers_is_proper = λ k a x y s t p q. same p q;
      numbers_is_finite_clear = λ k a x y s t p q. same p q;
      numbers_is_positive_zero = λ k a x y s t p q. same p q;
      frame_interpolate_frame = λ k a x y s t p q. same p q;
      refusals_u32_from = λ k a x y s t p q. same p q;
      refusals_u64_from = λ k a x y s t p q. same p q;
      playback_position_playbackposition_into_samples = λ k a x y s t p q. same p q;
      playback_position_playbackposition_is_finite_position = λ k a x y s t p q. same p q;
      playback_position_endposition_into_samples = λ k a x y s t p q. same p q;
      playback_position_endposition_is_finite_end = λ k a x y s t p q. same p q;
      playback_position_is_within = λ k a x y s t p q. same p q;
      playback_position_region_into_frames = λ k a x y s t p q. same p q;
      playback_position_region_is_well_formed = λ k a x y s t p q. same p q;
      transport_transport_new = λ k a x y s t p q. same p q;
      transport_transport_set_loop_region = λ k a x y s t p q. same p q;
      transport_transport_increment_position = λ k a x y s t p q. same p q;
      transport_transport_decrement_position = λ k a x y s t p q. same p q;
      transport_transport_wraps = λ k a x y s t p q. same p q;
      transport_transport_seek_to = λ k a x y s t p q. same p q;
      resampler_resampler_new = λ k a x y s t p q. same p q;
      resampler_resampler_push_frame = λ k a x y s t p q. same p q;
      resampler_resampler_get = λ k a x y s t p q. same p q;
      resampler_resampler_current_frame_index = λ k a x y s t p q. same p q;
      resampler_resampler_empty = λ k a x y s t p q. same p q;
      playback_state_manager_u32_from = λ k a x y s t p q. same p q;
      playback_state_manager_playbackstate_try_from = λ k a x y s t p q. state _ x y p q;
      playback_state_manager_playbackstate_is_advancing = λ k a x y s t p q. same p q;
      playback_state_manager_playbackstate_pause = λ k a x y s t p q. same p q;
      playback_state_manager_playbackstate_resume = λ k a x y s t p q. same p q;
      playback_state_manager_playbackstate_stop = λ k a x y s t p q. same p q;
      playback_state_manager_playbackstate_mark_as_stopped = λ k a x y s t p q. same p q;
      playback_state_manager_playbackstate_update = λ k a x y s t p q. same p q;
      start_time_startsignal_answer = λ k a x y s t p q. same p q;
      sound_lanes_lanes_are_sized = λ k a x y s t p q. same p q;
      sound_lanes_lanes_gains = λ k a x y s t p q. same p q;
      sound_lanes_gains_scale = λ k a x y s t p q. same p q;
      sound_lanes_is_time_step = λ k a x y s t p q. same p q;
      sound_lanes_lanes_judge = λ k a x y s t p q. accepted_same (same p q);
      sound_state_setup_num_frames = λ k a x y s t p q. same p q;
      sound_state_setup_start = λ k a x y s t p q. same p q;
      sound_state_staticsound_slice = λ k a x y s t p q. same p q;
      sound_state_staticsound_is_well_formed = λ k a x y s t p q. same p q;
      sound_update_moving_push_frame_to_resampler = λ k a x y s t p q. same p q;
      sound_update_moving_update_position = λ k a x y s t p q. same p q;
      sound_update_moving_update_positions = λ k a x y s t p q. same p q;
      sound_update_frame_in = λ k a x y s t p q. same p q;
      sound_track_track_of = λ k a x y s t p q. same p q;
      sound_track_forward_next = λ k a x y s t p q. same p.0 q.0;
      sound_track_forward_after_steps = λ k a x y s t p q. same p.0 q.0;
      sound_track_forward_straight_on = λ k a x y s t p q. same p.0 q.0;
      sound_track_forward_is_straight = λ k a x y s t p q. same p q;
      sound_track_forward_has_room = λ k a x y s t p q. same p q;
      sound_track_backward_next = λ k a x y s t p q. same p.0 q.0;
      sound_track_backward_after_steps = λ k a x y s t p q. same p.0 q.0;
      sound_track_backward_straight_on = λ k a x y s t p q. same p.0 q.0;
      sound_track_backward_is_straight = λ k a x y s t p q. same p q;
      sound_track_backward_has_room = λ k a x y s t p q. same p q;
      sound_track_track_wraps_after = λ k a x y s t p q. same p q;
      sound_track_track_frame_at = λ k a x y s t p q. same p q;
      sound_track_track_contiguous_at = λ k a x y s t p q. same p q;
      sound_track_track_is_contiguous = λ k a x y s t p q. same p.0 q.0;
      sound_creation_blank = λ k a x y s t p q. same p q;
      sound_creation_new = λ k a x y s t p q. created (same p q);
      sound_commands_on_start_processing = λ k a x y s t p q. commanded _ (same p q);
      sound_slow_path_play = λ k a x y s t p q. parts (same p q);
      sound_slow_path_play_spread = λ k a x y s t p q. parts (same p q);
      sound_fast_reading_advance_of = λ k a x y s t p q. same p q;
      sound_fast_reading_stepped_by = λ k a x y s t p q. same p.is q.is;
      sound_fast_reading_moved = λ k a x y s t p q. same p.is q.is;
      sound_fast_reading_store = λ k a x y s t p q. (refl, same p q);
      sound_fast_reading_way_begin = λ k a x y s t p q. same p q;
      sound_fast_reading_onerate_count = λ k a x y s t p q. same p q;
      sound_fast_reading_onerate_rate = λ k a x y s t p q. same p q;
      sound_fast_reading_refslicef64_count = λ k a x y s t p q. same p q;
      sound_fast_reading_refslicef64_rate = λ k a x y s t p q. same p q;
      sound_gains_by_frame = λ k a x y s t p q. (refl, same p q);
      sound_gains_once = λ k a x y s t p q. (refl, same p q);
      sound_fast_path_play = λ k a x y s t p q. parts (same p q);
      sound_fast_path_blocklanes_frames = λ k a x y s t p q. same p q;
      sound_held_play = λ k a x y s t p q. parts (same p q);
      sound_block_block = λ k a x y s t p q. parts (same p q);
      sound_constant_first_of = λ k a x y s t p q. same p q;
      static_sound_process = λ k a x y s t p q. answers _ (same p q);
      static_sound_process_into = λ k a x y s t p q. answers _ (same p q);
      static_sound_process_held = λ k a x y s t p q. answers _ (same p q);
      static_sound_process_held_into = λ k a x y s t p q. answers _ (same p q);
      static_sound_stretch = λ k a x y s t p q. (same p.0 q.0, same p.1 q.1);
      loop_table_looptable_new = λ k a x y s t p q. same p q;
      loop_table_looptable_write = λ k a x y s t p q. by_parts (changed_of _) (λ (c : LoopChanged). c.refusal) (λ (c : LoopChanged). c.table) (λ u. refl) (λ r. refl) (λ u. refl) x y (same p q);
      loop_table_looptable_clear = λ k a x y s t p q. by_parts (changed_of _) (λ (c : LoopChanged). c.refusal) (λ (c : LoopChanged). c.table) (λ u. refl) (λ r. refl) (λ u. refl) x y (same p q);
      loop_table_looptable_read = λ k a x y s t p q. by_parts found_of (λ (c : LoopFound). c.refusal) (λ (c : LoopFound). c.slot) (λ u. refl) (λ r. refl) (λ u. refl) x y (same p q);
      loop_table_looptable_is_well_formed = λ k a x y s t p q. same p q;
      loop_table_loopslot_is_well_formed = λ k a x y s t p q. same p q;
      loop_copies_loopcopy_new = λ k a x y s t p q. same p q;
      loop_copies_loopcopy_write = λ k a x y s t p q. by_parts (copy_changed_of _) (λ (c : CopyChanged). c.refusal) (λ (c : CopyChanged). c.copy) (λ u. refl) (λ r. refl) (λ u. refl) x y (same p q);
      loop_copies_loopcopy_clear = λ k a x y s t p q. by_parts (copy_changed_of _) (λ (c : CopyChanged). c.refusal) (λ (c : CopyChanged). c.copy) (λ u. refl) (λ r. refl) (λ u. refl) x y (same p q);
      loop_copies_loopcopy_merge = λ k a x y s t p q. by_parts (copy_changed_of _) (λ (c : CopyChanged). c.refusal) (λ (c : CopyChanged). c.copy) (λ u. refl) (λ r. refl) (λ u. refl) x y (same p q);
      take_loop_take = λ k a x y s t p q. commanded _ (same p q);
      decibels_as_amplitude = λ k a x y s t p q. same p q;
      decibels_fade_ramp = λ k a x y s t p q. both_accepted p q;
      semitones_raised = λ k a x y s t p q. same p q;
      crc32_checksum = λ k a x y s t p q. same p q;
      byte_layout_number = λ k a x y s t p q. same p q;
      byte_layout_put_number = λ k a x y s t p q. (refl, same p q);
      byte_layout_begin = λ k a x y s t p q. same p q;
      byte_layout_read_rows = λ k a x y s t p q. same p.0 q.0;
      byte_layout_put_rows = λ k a x y s t p q. (same p.1 q.1, same p.0 q.0);
      byte_layout_rows_fit = λ k a x y s t p q. same p q;
      byte_layout_rows_length = λ k a x y s t p q. same p q;
      byte_layout_copy = λ k a x y s t p q. (refl, same p q);
      saved_settings_load = λ k a x y s t p q. by_parts saved_settings.loaded_of (λ (c : saved_settings.Loaded). c.refusal) (λ (c : saved_settings.Loaded). record { settings = c.settings; version = c.version }) (λ u. refl) (λ r. refl) (λ u. refl) x y (same p q);
      saved_settings_store = λ k a x y s t p q. both_accepted p q;
      trace_sealed_read = λ k a x y s t p q. read _ (same p q);
      trace_sealed_write = λ k a x y s t p q. wrote _ (same p q);
      saved_loops_load = λ k a x y s t p q. by_parts half_of (λ (c : LoadedHalf). c.refusal) (λ (c : LoadedHalf). c.words) (λ u. refl) (λ r. refl) (λ u. refl) x y (same p q);
      saved_loops_store = λ k a x y s t p q. both_accepted p q;
      trace_records_read = λ k a x y s t p q. read _ (same p q);
      trace_records_write = λ k a x y s t p q. wrote _ (same p q);
      trace_records_is_in_steps = λ k a x y s t p q. same p q;
      trace_records_put_head = λ k a x y s t p q. (same p.1 q.1, same p.0 q.0);
      trace_salvage_salvage = λ k a x y s t p q. salvaged (same p q);
      trace_salvage_salvage_by = λ k a x y s t p q. salvaged (same p q);
      c_state_staticsound_from = λ k a x y s t p q. same p q;
      c_state_recentframe_from = λ k a x y s t p q. same p q;
      c_state_cableowlentry_from = λ k a x y s t p q. same p q;
      c_state_encode = λ k a x y s t p q. same p q;
      c_inputs_settings_from = λ k a x y s t p q. same p q;
      c_inputs_playbackposition_from = λ k a x y s t p q. same p q;
      c_inputs_endposition_from = λ k a x y s t p q. same p q;
      c_inputs_commands_from = λ k a x y s t p q. same p q;
      c_inputs_signals_from = λ k a x y s t p q. same p q;
      cableowl_cableowl_version = λ k a x y s t p q. same p q;
      cableowl_cableowl_new = λ k a x y s t p q. same p q;
      cableowl_cableowl_on_start_processing = λ k a x y s t p q. same p q;
      cableowl_cableowl_process = λ k a x y s t p q. parts_c (same p q);
      cableowl_cableowl_process_into = λ k a x y s t p q. parts_c (same p q);
      cableowl_cableowl_process_held = λ k a x y s t p q. parts_c (same p q);
      cableowl_cableowl_process_held_into = λ k a x y s t p q. parts_c (same p q);
      cableowl_cableowl_stretch = λ k a x y s t p q. same p q;
      cableowl_cableowl_amplitude = λ k a x y s t p q. both p q;
      cableowl_cableowl_fade_ramp = λ k a x y s t p q. both p q;
      cableowl_cableowl_loop_table = λ k a x y s t p q. same p q;
      cableowl_cableowl_loop_copy = λ k a x y s t p q. same p q;
      cableowl_cableowl_write_copy = λ k a x y s t p q. same p q;
      cableowl_cableowl_clear_copy = λ k a x y s t p q. same p q;
      cableowl_cableowl_merge_copies = λ k a x y s t p q. same p q;
      cableowl_cableowl_write_loop = λ k a x y s t p q. same p q;
      cableowl_cableowl_clear_loop = λ k a x y s t p q. same p q;
      cableowl_cableowl_read_loop = λ k a x y s t p q. same p q;
      cableowl_cableowl_take_loop = λ k a x y s t p q. same p q;
      cableowl_cableowl_store_settings = λ k a x y s t p q. both p q;
      cableowl_cableowl_load_settings = λ k a x y s t p q. both p q;
      cableowl_cableowl_settings_of = λ k a x y s t p q. same p q;
      cableowl_cableowl_store_half = λ k a x y s t p q. both p q;
      cableowl_cableowl_load_half = λ k a x y s t p q. both p q;
      cableowl_cableowl_read_record = λ k a x y s t p q. same p q;
      cableowl_cableowl_write_record = λ k a x y s t p q. sent (same p q);
      cableowl_cableowl_read_record_v2 = λ k a x y s t p q. same p q;
      cableowl_cableowl_write_record_v2 = λ k a x y s t p q. sent (same p q);
      cableowl_cableowl_salvage = λ k a x y s t p q. saved (same p q);
      cableowl_cableowl_salvage_v2 = λ k a x y s t p q. saved (same p q);
      cableowl_cableowl_replay = λ k a x y s t p q. same p q;
      cableowl_cableowl_replay_step = λ k a x y s t p q. stepped (same p q);
      cableowl_cableowl_replay_v2 = λ k a x y s t p q. same p q;
      cableowl_cableowl_replay_step_v2 = λ k a x y s t p q. stepped (same p q);
    }
