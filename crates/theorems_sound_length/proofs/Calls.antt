-- Each call over two sounds of equal length. A refusal depends on the sound's length and the muted voice; what an accepted call returns besides samples depends on the muted voice.
-- Assumes nothing.
use Rattle.std.specs.Prelude.{Option, Some, None}
use mathlib.Core.Path.{◌≡◌, refl, sym, ap, ap₂, ◌∙◌}
use Prim.Native.Nat.{ℕ, ◌+◌, ◌*◌, ◌/◌, ◌%◌}
use mathlib.Core.Bool.{Bool, true, false, ◌&&◌, cond}
use mathlib.Core.List.{List, []}
use lib.Dec.{leb, eqb}
use lib.IntN.{pos}
use lib.ListN.{length}
use lib.Ieee.{Float, binary64, div, of_int}
use Rattle.numbers.specs.Words.{positive_zero}
use Rattle.numbers.specs.Frames.{cut_off}
use Rattle.numbers.specs.Lists.{all}
use Rattle.playback_state_manager.specs.States.{advancing}
use Rattle.transport.specs.Moves.{seek}
use Rattle.resampler.specs.declared.Resampler.{Resampler}
use Rattle.sound_lanes.specs.Lanes.{Lane, Lanes, rows, sized, is_time_step, laned, near}
use Rattle.sound_state.specs.declared.StaticSound.{StaticSound}
use Rattle.sound_state.specs.Voices.{length_of_slice, slice_of, moved}
use Rattle.sound_state.specs.Refusals.{unless}
use Rattle.sound_creation.specs.declared.Settings.{Settings}
use Rattle.sound_creation.specs.Creation.{Created, setup_of, transport_of, opened, filled, refused_new, made, blank_sound, created}
use Rattle.sound_commands.specs.declared.Commands.{Commands}
use Rattle.sound_commands.specs.declared.LoopCommand.{LoopCommand}
use Rattle.sound_commands.specs.declared.LoopCommand.TheVariants as loop
use Rattle.sound_commands.specs.Commands.{CommandsAnswer, or_else, ordered, looped, loopable, rateable, target_by, target_to, seekable, refused_set, before_seeks, jumped, refilled, sought, sought_by, sought_to, obeyed, reported, commanded}
use Rattle.sound_held.specs.Held.{held_lanes}
use Rattle.sound_block.specs.declared.Signals.{Signals}
use Rattle.sound_block.specs.Blocks.{block}
use Rattle.sound_slow_path.specs.Plays.{BlockAnswer, Played, accepted_with}
use Rattle.static_sound.specs.Entries.{refused_block, refused_with, holds, room, mixed, processed, processed_into}
use Rattle.loop_table.specs.Tables.{LoopFound, found}
use Rattle.take_loop.specs.Taking.{loop_command_of, taken}
use Rattle.theorems_sound_length.specs.Muted.{muted_window, muted, muted_commanded, muted_processed}
use Rattle.theorems_sound_length.specs.Lengths.{CreationAlike, CommandsAlike, TakesAlike, BlocksAlike, MixesAlike, HeldAlike, HeldMixesAlike}
use Rattle.theorems_sound_length.proofs.Windows.{muted_well_formed_for, muted_heard, muted_twice, pushed_muted, updates_muted}
use Rattle.theorems_sound_length.proofs.Plays.{Rest, rest_of, block_muted}

-- ---- blocks

block_alike : (snd other : List Float) (dt : Float) (ls : List Lane) (g : Signals) (v w : StaticSound)
    → muted v ≡ muted w → rest_of (block snd dt ls g v) ≡ rest_of (block other dt ls g w)
block_alike snd other dt ls g v w e =
    block_muted snd [] dt ls g v ∙ ap (λ (u : StaticSound). rest_of (block [] dt ls g u)) e ∙ sym (block_muted other [] dt ls g w)

refused_muted : (len : ℕ) (v : StaticSound) (dt : Float) (b : Lanes) (placed : Bool) → refused_block len (muted v) dt b placed ≡ refused_block len v dt b placed
unfolding refused_block
refused_muted len v dt b placed =
    ap
    (λ (o : Bool).
    unless o 1 (unless (sized b && placed) 9 (unless (is_time_step dt) 10 (unless (all laned (rows b)) 11 (unless (all (near v.setup.sample_rate dt) (rows b)) 12 0)))))
    (muted_well_formed_for len v)

refused_alike : (len more : ℕ) (v w : StaticSound) (dt : Float) (b : Lanes) (placed put : Bool)
    → len ≡ more → muted v ≡ muted w → placed ≡ put → refused_block len v dt b placed ≡ refused_block more w dt b put
refused_alike len more v w dt b placed put l e p =
    sym (refused_muted len v dt b placed)
    ∙ ap (λ (u : StaticSound). refused_block len u dt b placed) e
    ∙ refused_muted len w dt b placed
    ∙ ap₂ (λ (n : ℕ) (o : Bool). refused_block n w dt b o) l p

-- the result of a block with the refusal k, from what is given besides samples
abbrev answer_of : ℕ → Rest → StaticSound → BlockAnswer
answer_of k r u =
    cond (eqb k 0)
    (record { refusal = 0; voice = r.voice; steps = r.steps; lowest_count = r.lowest_count })
    (record { refusal = k; voice = u; steps = 0; lowest_count = 4 })

block_answer : (k : ℕ) (p : Played) (v : StaticSound) (out given : List Float)
    → muted_processed (cond (eqb k 0) (accepted_with p out) (refused_with k v given)).answer ≡ answer_of k (rest_of p) (muted v)
block_answer k p v out given = go (eqb k 0)
  where
    go : (b : Bool) → muted_processed (cond b (accepted_with p out) (refused_with k v given)).answer
        ≡ cond b (record { refusal = 0; voice = muted p.voice; steps = p.steps; lowest_count = p.lowest_count }) (record { refusal = k; voice = muted v; steps = 0; lowest_count = 4 })
    go true = refl
    go false = refl

answers_alike : (k l : ℕ) (p q : Played) (v w : StaticSound) (out given into other : List Float)
    → k ≡ l → rest_of p ≡ rest_of q → muted v ≡ muted w
    → muted_processed (cond (eqb k 0) (accepted_with p out) (refused_with k v given)).answer
    ≡ muted_processed (cond (eqb l 0) (accepted_with q into) (refused_with l w other)).answer
answers_alike k l p q v w out given into other e r u =
    block_answer k p v out given
    ∙ ap (λ (n : ℕ). answer_of n (rest_of p) (muted v)) e
    ∙ ap₂ (answer_of l) r u
    ∙ sym (block_answer l q w into other)

pub blocks_alike : BlocksAlike
unfolding processed
blocks_alike snd other v w dt b g out into h =
    let e = h.sound.voices in
    let p = block snd dt (rows b) g v in
    let q = block other dt (rows b) g w in
    answers_alike (refused_block (length snd) v dt b (holds b out)) (refused_block (length other) w dt b (holds b into)) p q v w p.samples out q.samples into
    (refused_alike (length snd) (length other) v w dt b (holds b out) (holds b into) h.sound.samples e (ap (λ (n : ℕ). eqb n (2 * length b.rate)) h.output))
    (block_alike snd other dt (rows b) g v w e)
    e

pub mixes_alike : MixesAlike
unfolding processed_into
mixes_alike snd other v w dt b g mix into from h =
    let e = h.sound.voices in
    let n = length b.rate in
    let p = block snd dt (rows b) g v in
    let q = block other dt (rows b) g w in
    answers_alike (refused_block (length snd) v dt b (room from n mix)) (refused_block (length other) w dt b (room from n into)) p q v w
    (mixed from n mix p.samples) mix (mixed from n into q.samples) into
    (refused_alike (length snd) (length other) v w dt b (room from n mix) (room from n into) h.sound.samples e
    (ap (λ (m : ℕ). eqb (m % 2) 0 && leb (from + n) (m / 2)) h.output))
    (block_alike snd other dt (rows b) g v w e)
    e

pub held_alike : HeldAlike
held_alike snd other v w dt x g out into h =
    blocks_alike snd other v w dt (held_lanes x (length out / 2)) g out into h
    ∙ ap (λ (n : ℕ). muted_processed (processed other w dt (held_lanes x (n / 2)) g into).answer) h.output

pub held_mixes_alike : HeldMixesAlike
held_mixes_alike snd other v w dt x g mix into from n h = mixes_alike snd other v w dt (held_lanes x n) g mix into from h

-- ---- command sets

loopable_muted : (v : StaticSound) (l : LoopCommand) → loopable (muted v) l ≡ loopable v l
loopable_muted v loop.Keep = refl
loopable_muted v loop.Clear = refl
loopable_muted v (loop.Set r) = refl

looped_muted : (v : StaticSound) (l : LoopCommand) → looped v l ≡ looped (muted v) l
looped_muted v loop.Keep = refl
looped_muted v loop.Clear = refl
looped_muted v (loop.Set r) = refl

set_muted : (len : ℕ) (v : StaticSound) (c : Commands) → refused_set len (muted v) c ≡ refused_set len v c
unfolding refused_set target_by target_to
set_muted len v c =
    ap₂
    (λ (o l : Bool).
    unless o 1
    (unless l 6
    (unless (rateable c.playback_rate) 7
    (unless (seekable (target_by v) c.seek_by && seekable (target_to v) c.seek_to) 8 0))))
    (muted_well_formed_for len v)
    (loopable_muted v c.loop_region)

reported_muted : (v : StaticSound) → reported (muted v) ≡ reported v
unfolding reported
reported_muted v = ap (λ (n : ℕ). div binary64 (of_int binary64 (pos n)) (of_int binary64 (pos v.setup.sample_rate))) (muted_heard v.moving.resampler)

sought_muted : (snd other : List Float) (v : StaticSound) (q : ℕ) → muted (sought snd v q) ≡ muted (sought other (muted v) q)
unfolding sought
sought_muted snd other v q = go (advancing v.moving.state)
  where
    f : Float
    f = v.fractional_position

    go : (b : Bool) → muted (moved v f (cond b (refilled snd (slice_of v) (jumped v q)) (jumped v q)))
        ≡ muted (moved (muted v) f (cond b (refilled other (slice_of v) (jumped (muted v) q)) (jumped (muted v) q)))
    go true =
        ap
        (λ (r : Resampler).
        moved v f (record { state = v.moving.state; transport = seek (length_of_slice v.setup) v.moving.transport q; resampler = r; wraps = v.moving.wraps }))
        (pushed_muted snd other (slice_of v) (jumped v q))
    go false = sym (muted_twice (moved v f (jumped v q)))

by_muted : (snd other : List Float) (v : StaticSound) (a : Option Float) → muted (sought_by snd v a) ≡ muted (sought_by other (muted v) a)
unfolding target_by
by_muted snd other v None = sym (muted_twice v)
by_muted snd other v (Some x) = sought_muted snd other v (cut_off (target_by v x))

to_muted : (snd other : List Float) (v : StaticSound) (a : Option Float) → muted (sought_to snd v a) ≡ muted (sought_to other (muted v) a)
unfolding target_to
to_muted snd other v None = sym (muted_twice v)
to_muted snd other v (Some x) = sought_muted snd other v (cut_off (target_to v x))

told_muted : (c : Commands) (v : StaticSound) → muted (before_seeks c v) ≡ before_seeks c (muted v)
unfolding before_seeks
told_muted c v =
    ap
    (λ (r : Option (ℕ × ℕ)).
    record {
      setup = v.setup;
      playback_rate = or_else c.playback_rate v.playback_rate;
      started = v.started;
      fractional_position = v.fractional_position;
      moving = record {
        state = ordered c v.moving.state;
        transport = record { position = v.moving.transport.position; loop_region = r; playing = v.moving.transport.playing };
        resampler = muted_window v.moving.resampler;
        wraps = v.moving.wraps;
      };
    })
    (looped_muted v c.loop_region)

obeyed_muted : (snd other : List Float) (c : Commands) (v : StaticSound) → muted (obeyed snd c v) ≡ muted (obeyed other c (muted v))
unfolding obeyed
obeyed_muted snd other c v =
    let u = before_seeks c v in
    let w = before_seeks c (muted v) in
    let by = c.seek_by in
    let to = c.seek_to in
    to_muted snd other (sought_by snd u by) to
    ∙ ap (λ (x : StaticSound). muted (sought_to other x to)) (by_muted snd other u by ∙ ap (λ (x : StaticSound). muted (sought_by other x by)) (told_muted c v))
    ∙ sym (to_muted other other (sought_by other w by) to)

-- the result of a command set with the refusal k
abbrev set_answer : ℕ → StaticSound → Float → StaticSound → CommandsAnswer
set_answer k done x u = cond (eqb k 0) (record { refusal = 0; voice = done; position = x }) (record { refusal = k; voice = u; position = positive_zero })

set_answer_lem : (snd : List Float) (v : StaticSound) (c : Commands)
    → muted_commanded (commanded snd v c) ≡ set_answer (refused_set (length snd) v c) (muted (obeyed snd c v)) (reported v) (muted v)
unfolding commanded
set_answer_lem snd v c = go (eqb k 0)
  where
    k : ℕ
    k = refused_set (length snd) v c

    go : (b : Bool)
        → muted_commanded (cond b (record { refusal = 0; voice = obeyed snd c v; position = reported v }) (record { refusal = k; voice = v; position = positive_zero }))
        ≡ cond b (record { refusal = 0; voice = muted (obeyed snd c v); position = reported v }) (record { refusal = k; voice = muted v; position = positive_zero })
    go true = refl
    go false = refl

-- over any sound as over none, once it is not refused
set_none : (snd : List Float) (v : StaticSound) (c : Commands)
    → muted_commanded (commanded snd v c) ≡ set_answer (refused_set (length snd) (muted v) c) (muted (obeyed [] c (muted v))) (reported (muted v)) (muted v)
set_none snd v c =
    set_answer_lem snd v c
    ∙ ap (λ (k : ℕ). set_answer k (muted (obeyed snd c v)) (reported v) (muted v)) (sym (set_muted (length snd) v c))
    ∙ ap₂ (λ (u : StaticSound) (x : Float). set_answer (refused_set (length snd) (muted v) c) u x (muted v)) (obeyed_muted snd [] c v) (sym (reported_muted v))

pub commands_alike : CommandsAlike
commands_alike snd other v w c h =
    set_none snd v c
    ∙ ap₂ (λ (n : ℕ) (u : StaticSound). set_answer (refused_set n u c) (muted (obeyed [] c u)) (reported u) u) h.samples h.voices
    ∙ sym (set_none other w c)

pub takes_alike : TakesAlike
unfolding taken
takes_alike snd other v w t k h = go (eqb f.refusal 0)
  where
    f : LoopFound
    f = found t k

    go : (b : Bool)
        → muted_commanded (cond b (commanded snd v (loop_command_of f.slot)) (record { refusal = f.refusal; voice = v; position = positive_zero }))
        ≡ muted_commanded (cond b (commanded other w (loop_command_of f.slot)) (record { refusal = f.refusal; voice = w; position = positive_zero }))
    go true = commands_alike snd other v w (loop_command_of f.slot) h
    go false = ap (λ (u : StaticSound). record { refusal = f.refusal; voice = u; position = positive_zero }) h.voices

-- ---- creation

-- before the three updates; n is the sound's length
abbrev opened_for : Settings → ℕ → StaticSound
opened_for s n = let k = setup_of n s in opened k (transport_of k s) s.playback_rate s.start_waits

made_alike : (snd other : List Float) (s : Settings) → length snd ≡ length other → muted (made snd s) ≡ muted (made other s)
unfolding made
made_alike snd other s e =
    let v = opened_for s (length snd) in
    ap (moved v positive_zero) (updates_muted 3 snd other (slice_of v) v.moving)
    ∙ ap (λ (n : ℕ). muted (filled other (opened_for s n))) e

muted_either : (b : Bool) (v w : StaticSound) → muted (cond b v w) ≡ cond b (muted v) (muted w)
muted_either true v w = refl
muted_either false v w = refl

pub creation_alike : CreationAlike
unfolding created
creation_alike snd other s e =
    let answer : ℕ → StaticSound → Created = λ k u. record { refusal = k; voice = u } in
    let k = refused_new (length snd) s in
    let l = refused_new (length other) s in
    ap (answer k) (muted_either (eqb k 0) (made snd s) blank_sound)
    ∙ ap₂ (λ (n : ℕ) (u : StaticSound). answer n (cond (eqb n 0) u blank_sound)) (ap (λ (n : ℕ). refused_new n s) e) (made_alike snd other s e)
    ∙ ap (answer l) (sym (muted_either (eqb l 0) (made other s) blank_sound))
