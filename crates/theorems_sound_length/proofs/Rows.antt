-- A sequence of calls compared with the sequence over silence: one call after the other. Assumes nothing.
use Rattle.std.specs.Prelude.{Option, Some, None}
use mathlib.Core.Path.{◌≡◌, refl, sym, ap, ap₂, ◌∙◌}
use Prim.Native.Nat.{ℕ, zero, suc, ◌*◌, ◌-◌}
use mathlib.Core.Bool.{Bool, true, false, cond}
use mathlib.Core.List.{List, [], ◌∷◌, map}
use lib.ListN.{length, length-map, take, drop}
use lib.Ieee.{Float}
use Rattle.numbers.specs.Words.{positive_zero}
use Rattle.sound_state.specs.declared.StaticSound.{StaticSound}
use Rattle.sound_state.specs.Voices.{start_of_slice}
use Rattle.sound_state.specs.WellFormed.{well_formed_for}
use Rattle.sound_commands.specs.Commands.{CommandsAnswer}
use Rattle.sound_slow_path.specs.Plays.{BlockAnswer}
use Rattle.static_sound.specs.Entries.{sliced, stretch_of, stretch_at}
use Rattle.theorems.specs.InTheLoop.{Call, Block, Mix, Command, Take, Stretch, after, after_all}
use Rattle.theorems_sound_length.specs.Muted.{muted, silence}
use Rattle.theorems_sound_length.specs.Lengths.{SameLength, OtherSound, OtherBlock}
use Rattle.theorems_sound_length.specs.Rows.{OfBlock, OfCommands, OfStretch, answer, answers, muted_call, RowsAlike}
use Rattle.theorems_sound_length.proofs.Windows.{muted_well_formed_for}
use Rattle.theorems_sound_length.proofs.Calls.{commands_alike, takes_alike, blocks_alike, mixes_alike}

-- ---- silence is as long

as_long : (xs : List Float) → SameLength xs (silence xs)
as_long xs = sym (length-map xs (λ (x : Float). positive_zero))

pub over_silence : (snd : List Float) (v w : StaticSound) → muted v ≡ muted w → OtherSound snd (silence snd) v w
over_silence snd v w e = record { samples = as_long snd; voices = e }

pub block_over_silence : (snd : List Float) (v w : StaticSound) (out : List Float) → muted v ≡ muted w → OtherBlock snd (silence snd) v w out (silence out)
block_over_silence snd v w out e = record { sound = over_silence snd v w e; output = as_long out }

-- ---- the stretch

silent_drop : (n : ℕ) (xs : List Float) → drop n (silence xs) ≡ silence (drop n xs)
silent_drop zero xs = refl
silent_drop (suc n) [] = refl
silent_drop (suc n) (x ∷ xs) = silent_drop n xs

silent_take : (n : ℕ) (xs : List Float) → length (take n (silence xs)) ≡ length (take n xs)
silent_take zero xs = refl
silent_take (suc n) [] = refl
silent_take (suc n) (x ∷ xs) = ap suc (silent_take n xs)

silent_sliced : (r : Option (ℕ × ℕ)) (xs : List Float) → length (sliced r (silence xs)) ≡ length (sliced r xs)
silent_sliced None xs = sym (as_long xs)
silent_sliced (Some (s, e)) xs =
    ap (λ (l : List Float). length (take (2 * e - 2 * s) l)) (silent_drop (2 * s) xs) ∙ silent_take (2 * e - 2 * s) (drop (2 * s) xs)

well_formed_for_alike : (snd : List Float) (v w : StaticSound) → muted v ≡ muted w → well_formed_for (length snd) v ≡ well_formed_for (length (silence snd)) w
well_formed_for_alike snd v w e =
    sym (muted_well_formed_for (length snd) v) ∙ ap₂ well_formed_for (as_long snd) e ∙ muted_well_formed_for (length (silence snd)) w

pub stretch_begins : (snd : List Float) (v w : StaticSound) → muted v ≡ muted w → stretch_at (length snd) v ≡ stretch_at (length (silence snd)) w
unfolding stretch_at
stretch_begins snd v w e =
    ap₂ (λ (o : Bool) (u : StaticSound). cond o (2 * start_of_slice u.setup) 0) (well_formed_for_alike snd v w e) e

-- the length of a slice, where there is one
abbrev long_of : Bool → Option (ℕ × ℕ) → List Float → ℕ
long_of o r xs = length (cond o (sliced r xs) [])

silent_long : (o : Bool) (r : Option (ℕ × ℕ)) (xs : List Float) → long_of o r (silence xs) ≡ long_of o r xs
silent_long true r xs = silent_sliced r xs
silent_long false r xs = refl

pub stretch_long : (snd : List Float) (v w : StaticSound) → muted v ≡ muted w → length (stretch_of snd v) ≡ length (stretch_of (silence snd) w)
unfolding stretch_of
stretch_long snd v w e =
    ap₂ (λ (o : Bool) (u : StaticSound). long_of o u.setup.slice snd) (well_formed_for_alike snd v w e) e
    ∙ sym (silent_long (well_formed_for (length (silence snd)) w) w.setup.slice snd)

-- ---- calls

call_alike : (c : Call) (v w : StaticSound) → muted v ≡ muted w → (answer c v ≡ answer (muted_call c) w) × (muted (after c v) ≡ muted (after (muted_call c) w))
call_alike (Block snd dt b g out) v w e =
    let a = blocks_alike snd (silence snd) v w dt b g out (silence out) (block_over_silence snd v w out e) in
    (ap OfBlock a, ap (λ (p : BlockAnswer). p.voice) a)
call_alike (Mix snd dt b g mix from) v w e =
    let a = mixes_alike snd (silence snd) v w dt b g mix (silence mix) from (block_over_silence snd v w mix e) in
    (ap OfBlock a, ap (λ (p : BlockAnswer). p.voice) a)
call_alike (Command snd c) v w e =
    let a = commands_alike snd (silence snd) v w c (over_silence snd v w e) in
    (ap OfCommands a, ap (λ (p : CommandsAnswer). p.voice) a)
call_alike (Take snd t k) v w e =
    let a = takes_alike snd (silence snd) v w t k (over_silence snd v w e) in
    (ap OfCommands a, ap (λ (p : CommandsAnswer). p.voice) a)
call_alike (Stretch snd) v w e = (ap₂ OfStretch (stretch_begins snd v w e) (stretch_long snd v w e), e)

row_alike : (cs : List Call) (v w : StaticSound) → muted v ≡ muted w
    → (answers cs v ≡ answers (map muted_call cs) w) × (muted (after_all cs v) ≡ muted (after_all (map muted_call cs) w))
unfolding answers after_all
row_alike [] v w e = (refl, e)
row_alike (c ∷ cs) v w e =
    let h = call_alike c v w e in
    let r = row_alike cs (after c v) (after (muted_call c) w) h.1 in
    (ap₂ ◌∷◌ h.0 r.0, r.1)

pub rows_alike : RowsAlike
rows_alike cs ds v w h =
    let a = row_alike cs v v refl in
    let b = row_alike ds w v (sym h.voices) in
    record {
      same_answers = a.0 ∙ ap (λ (l : List Call). answers l v) h.calls ∙ sym b.0;
      voices = a.1 ∙ ap (λ (l : List Call). muted (after_all l v)) h.calls ∙ sym b.1;
    }
