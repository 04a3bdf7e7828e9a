-- The archive's calls over two sounds of equal length: a muted record represents the muted voice, before and after each call. Assumes nothing.
use mathlib.Core.Path.{◌≡◌, refl, sym, ap, ap₂, ◌∙◌}
use Prim.Native.Nat.{ℕ, zero, suc}
use mathlib.Core.Bool.{Bool, true, false, cond}
use mathlib.Core.List.{List, [], ◌∷◌, map}
use lib.Dec.{eqb}
use Rattle.resampler.specs.declared.RecentFrame.{RecentFrame}
use Rattle.sound_state.specs.declared.StaticSound.{StaticSound}
use Rattle.sound_state.specs.Voices.{moved}
use Rattle.sound_creation.specs.Creation.{Created, blank_sound, created}
use Rattle.sound_commands.specs.Commands.{CommandsAnswer, commanded}
use Rattle.sound_slow_path.specs.Plays.{BlockAnswer}
use Rattle.static_sound.specs.Entries.{processed, processed_into}
use Rattle.take_loop.specs.Taking.{taken}
use Rattle.c_state.specs.declared.CableowlEntry.{CableowlEntry}
use Rattle.c_state.specs.declared.CableowlState.{CableowlState}
use Rattle.c_state.specs.Records.{recent_of, entry_of, well_formed_state, stated, decoded, encoded}
use Rattle.c_inputs.specs.Inputs.{settings_of, commands_of, signals_of}
use Rattle.cableowl.specs.declared.CableowlCommanded.{CableowlCommanded}
use Rattle.cableowl.specs.declared.CableowlProcessed.{CableowlProcessed}
use Rattle.cableowl.specs.Entries.{after, answered, created_c, commanded_c, processed_c, processed_into_c, part_c}
use Rattle.cableowl.specs.Loops.{taken_c}
use Rattle.theorems.specs.ArchiveInTheLoop.{CallC, Block, Mix, Command, Take, Stretch, after_c, after_all_c}
use Rattle.theorems_sound_length.specs.Muted.{on_first, muted_entry, muted, muted_commanded, muted_processed, silence}
use Rattle.theorems_sound_length.specs.Archive.{muted_entry_c, with_window, muted_state, muted_commanded_c, muted_processed_c, CreationAlikeC, OfBlock, OfCommands, OfStretch, answer_c, answers_c, muted_call_c, RowsAlikeC}
use Rattle.theorems_sound_length.proofs.Windows.{entered}
use Rattle.theorems_sound_length.proofs.Calls.{creation_alike, commands_alike, takes_alike, blocks_alike, mixes_alike}
use Rattle.theorems_sound_length.proofs.Rows.{over_silence, block_over_silence, stretch_begins, stretch_long}

-- ---- a muted record represents the muted voice

map_first : {A B : Type 0} (h : A → B) (f : A → A) (g : B → B) → ((x : A) → h (f x) ≡ g (h x)) → (t : ℕ) (xs : List A) → map h (on_first f t xs) ≡ on_first g t (map h xs)
map_first h f g e zero xs = refl
map_first h f g e (suc t) [] = refl
map_first h f g e (suc t) (x ∷ xs) = ap₂ ◌∷◌ (e x) (map_first h f g e t xs)

decoded_muted : (c : CableowlState) → decoded (muted_state c) ≡ muted (decoded c)
unfolding decoded well_formed_state
decoded_muted c = go (well_formed_state c)
  where
    go : (b : Bool) → cond b (stated (muted_state c)) blank_sound ≡ muted (cond b (stated c) blank_sound)
    go true = ap (λ (rs : List RecentFrame). moved (stated c) c.fraction (entered (stated c).moving rs)) (map_first recent_of muted_entry_c muted_entry (λ (x : CableowlEntry). refl) c.count c.window)
    go false = refl

pub encoded_muted : (v : StaticSound) → muted_state (encoded v) ≡ encoded (muted v)
unfolding encoded
encoded_muted v =
    ap (with_window (encoded v))
    (sym (map_first entry_of muted_entry muted_entry_c (λ (x : RecentFrame). refl) v.moving.resampler.time_until_empty v.moving.resampler.frames))

pub after_muted : (k : ℕ) (v : StaticSound) (c : CableowlState) → muted_state (after k v c) ≡ after k (muted v) (muted_state c)
unfolding after
after_muted k v c = go (eqb k 0)
  where
    go : (b : Bool) → muted_state (cond b (encoded v) c) ≡ cond b (encoded (muted v)) (muted_state c)
    go true = encoded_muted v
    go false = refl

pub means_alike : (c d : CableowlState) → muted_state c ≡ muted_state d → muted (decoded c) ≡ muted (decoded d)
means_alike c d e = sym (decoded_muted c) ∙ ap decoded e ∙ decoded_muted d

-- ---- answers

abbrev ordered : CommandsAnswer → CableowlState → CableowlCommanded
ordered r c = record { state = after r.refusal r.voice c; position = r.position; refusal = r.refusal }

answered_alike : (p q : BlockAnswer) (c d : CableowlState) → muted_processed p ≡ muted_processed q → muted_state c ≡ muted_state d
    → muted_processed_c (answered p c) ≡ muted_processed_c (answered q d)
answered_alike p q c d e f =
    ap (λ (s : CableowlState). record { state = s; steps = p.steps; refusal = p.refusal; lowest_count = p.lowest_count }) (after_muted p.refusal p.voice c)
    ∙ ap₂ answered e f
    ∙ ap (λ (s : CableowlState). record { state = s; steps = q.steps; refusal = q.refusal; lowest_count = q.lowest_count }) (sym (after_muted q.refusal q.voice d))

ordered_alike : (p q : CommandsAnswer) (c d : CableowlState) → muted_commanded p ≡ muted_commanded q → muted_state c ≡ muted_state d
    → muted_commanded_c (ordered p c) ≡ muted_commanded_c (ordered q d)
ordered_alike p q c d e f =
    ap (λ (s : CableowlState). record { state = s; position = p.position; refusal = p.refusal }) (after_muted p.refusal p.voice c)
    ∙ ap₂ ordered e f
    ∙ ap (λ (s : CableowlState). record { state = s; position = q.position; refusal = q.refusal }) (sym (after_muted q.refusal q.voice d))

pub archive_creation_alike : CreationAlikeC
unfolding created_c
archive_creation_alike snd other s e =
    let a = created snd (settings_of s) in
    let b = created other (settings_of s) in
    ap (λ (c : CableowlState). record { state = c; refusal = a.refusal }) (encoded_muted a.voice)
    ∙ ap (λ (r : Created). record { state = encoded r.voice; refusal = r.refusal }) (creation_alike snd other (settings_of s) e)
    ∙ ap (λ (c : CableowlState). record { state = c; refusal = b.refusal }) (sym (encoded_muted b.voice))

-- ---- sequences of calls

call_alike : (d : CallC) (c e : CableowlState) → muted_state c ≡ muted_state e → (answer_c d c ≡ answer_c (muted_call_c d) e) × (muted_state (after_c d c) ≡ muted_state (after_c (muted_call_c d) e))
unfolding processed_c processed_into_c commanded_c taken_c part_c
call_alike (Block snd dt b g out) c e f =
    let v = decoded c in
    let w = decoded e in
    let a = blocks_alike snd (silence snd) v w dt b (signals_of g) out (silence out) (block_over_silence snd v w out (means_alike c e f)) in
    let p = answered_alike (processed snd v dt b (signals_of g) out).answer (processed (silence snd) w dt b (signals_of g) (silence out)).answer c e a f in
    (ap OfBlock p, ap (λ (r : CableowlProcessed). r.state) p)
call_alike (Mix snd dt b g mix from) c e f =
    let v = decoded c in
    let w = decoded e in
    let a = mixes_alike snd (silence snd) v w dt b (signals_of g) mix (silence mix) from (block_over_silence snd v w mix (means_alike c e f)) in
    let p = answered_alike (processed_into snd v dt b (signals_of g) mix from).answer (processed_into (silence snd) w dt b (signals_of g) (silence mix) from).answer c e a f in
    (ap OfBlock p, ap (λ (r : CableowlProcessed). r.state) p)
call_alike (Command snd k) c e f =
    let v = decoded c in
    let w = decoded e in
    let a = commands_alike snd (silence snd) v w (commands_of k) (over_silence snd v w (means_alike c e f)) in
    let p = ordered_alike (commanded snd v (commands_of k)) (commanded (silence snd) w (commands_of k)) c e a f in
    (ap OfCommands p, ap (λ (r : CableowlCommanded). r.state) p)
call_alike (Take snd t k) c e f =
    let v = decoded c in
    let w = decoded e in
    let a = takes_alike snd (silence snd) v w t k (over_silence snd v w (means_alike c e f)) in
    let p = ordered_alike (taken snd t k v) (taken (silence snd) t k w) c e a f in
    (ap OfCommands p, ap (λ (r : CableowlCommanded). r.state) p)
call_alike (Stretch snd) c e f =
    let m = means_alike c e f in (
      ap₂ (λ (x y : ℕ). OfStretch (record { offset = x; length = y })) (stretch_begins snd (decoded c) (decoded e) m) (stretch_long snd (decoded c) (decoded e) m),
      f,
    )

row_alike : (ds : List CallC) (c e : CableowlState) → muted_state c ≡ muted_state e
    → (answers_c ds c ≡ answers_c (map muted_call_c ds) e) × (muted_state (after_all_c ds c) ≡ muted_state (after_all_c (map muted_call_c ds) e))
unfolding answers_c after_all_c
row_alike [] c e f = (refl, f)
row_alike (d ∷ ds) c e f =
    let h = call_alike d c e f in
    let r = row_alike ds (after_c d c) (after_c (muted_call_c d) e) h.1 in
    (ap₂ ◌∷◌ h.0 r.0, r.1)

pub archive_rows_alike : RowsAlikeC
archive_rows_alike ds es c e h =
    let a = row_alike ds c c refl in
    let b = row_alike es e c (sym h.states) in
    record {
      same_answers = a.0 ∙ ap (λ (l : List CallC). answers_c l c) h.calls ∙ sym b.0;
      states = a.1 ∙ ap (λ (l : List CallC). muted_state (after_all_c l c)) h.calls ∙ sym b.1;
    }
