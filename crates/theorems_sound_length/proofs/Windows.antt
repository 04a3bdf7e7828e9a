-- A muted window: it is well formed if the window is, and a push of a frame or of none has the same result as a push into the muted one.
-- By cases on the count and the entries. Assumes nothing.
use Rattle.std.specs.Prelude.{Some, None}
use mathlib.Core.Path.{◌≡◌, refl, sym, ap, ap₂, ◌∙◌, subst}
use Prim.Native.Nat.{ℕ, zero, suc, ◌+◌, ◌-◌}
use native.Mathlib.Omega.{arith}
use mathlib.Core.Bool.{Bool, true, false, not, ◌&&◌, cond}
use mathlib.Core.List.{List, [], ◌∷◌}
use lib.Dec.{leb, eqb}
use lib.ListN.{length, get_or, drop}
use lib.Ieee.{Float}
use Rattle.numbers.specs.Lists.{all}
use Rattle.resampler.specs.declared.RecentFrame.{RecentFrame}
use Rattle.resampler.specs.declared.Resampler.{Resampler}
use Rattle.resampler.specs.Windows.{blank, given_entry, push, zero_frame, numbered, windowed, current_frame_index}
use Rattle.frame.specs.declared.Frame.{Frame}
use Rattle.frame.specs.Frames.{frame_of}
use Rattle.playback_state_manager.specs.declared.PlaybackState.TheVariants as state
use Rattle.sound_update.specs.declared.Moving.{Moving}
use Rattle.sound_update.specs.declared.Slice.{Slice}
use Rattle.sound_update.specs.Updates.{sounding, pushed, stepped, counted, updated, updates}
use Rattle.sound_state.specs.declared.StaticSound.{StaticSound}
use Rattle.sound_state.specs.Voices.{moved}
use Rattle.sound_state.specs.WellFormed.{well_formed, well_formed_for}
use Rattle.theorems_sound_length.specs.Muted.{muted_entry, on_first, muted_window, muted_moving, muted}

-- the first t entries muted
abbrev muted_first : ℕ → List RecentFrame → List RecentFrame
muted_first t rs = on_first muted_entry t rs

-- ---- what muting keeps

muted_length : (t : ℕ) (rs : List RecentFrame) → length (muted_first t rs) ≡ length rs
muted_length zero rs = refl
muted_length (suc t) [] = refl
muted_length (suc t) (r ∷ rs) = ap suc (muted_length t rs)

muted_rest : (t : ℕ) (rs : List RecentFrame) → drop t (muted_first t rs) ≡ drop t rs
muted_rest zero rs = refl
muted_rest (suc t) [] = refl
muted_rest (suc t) (r ∷ rs) = muted_rest t rs

muted_numbered : (t : ℕ) (rs : List RecentFrame) → all numbered (muted_first t rs) ≡ all numbered rs
muted_numbered zero rs = refl
muted_numbered (suc t) [] = refl
muted_numbered (suc t) (r ∷ rs) = ap (λ (b : Bool). numbered r && b) (muted_numbered t rs)

-- an entry that was read has its frame index, and muted it is the same
muted_index : (t : ℕ) (rs : List RecentFrame) (i : ℕ) → muted_entry (get_or (muted_first t rs) i blank) ≡ muted_entry (get_or rs i blank)
muted_index zero rs i = refl
muted_index (suc t) [] i = refl
muted_index (suc t) (r ∷ rs) zero = refl
muted_index (suc t) (r ∷ rs) (suc i) = muted_index t rs i

-- muting twice is muting
twice : (t : ℕ) (rs : List RecentFrame) → muted_first t (muted_first t rs) ≡ muted_first t rs
twice zero rs = refl
twice (suc t) [] = refl
twice (suc t) (r ∷ rs) = ap (λ (l : List RecentFrame). muted_entry r ∷ l) (twice t rs)

pub muted_windowed : (w : Resampler) → windowed (muted_window w) ≡ windowed w
muted_windowed w =
    let t = w.time_until_empty in
    ap (λ (n : ℕ). eqb n 4 && leb t 4 && all zero_frame (drop t (muted_first t w.frames)) && all numbered (muted_first t w.frames)) (muted_length t w.frames)
    ∙ ap₂ (λ (l : List RecentFrame) (b : Bool). eqb (length w.frames) 4 && leb t 4 && all zero_frame l && b) (muted_rest t w.frames) (muted_numbered t w.frames)

pub muted_well_formed_for : (len : ℕ) (v : StaticSound) → well_formed_for len (muted v) ≡ well_formed_for len v
unfolding well_formed_for well_formed
muted_well_formed_for len v = rw (muted_windowed v.moving.resampler) refl

pub muted_heard : (w : Resampler) → current_frame_index (muted_window w) ≡ current_frame_index w
muted_heard w = ap (λ (r : RecentFrame). r.frame_index) (muted_index w.time_until_empty w.frames 1)

-- the moving part, with other entries in its window
abbrev pub entered : Moving → List RecentFrame → Moving
entered m rs = record { state = m.state; transport = m.transport; resampler = record { frames = rs; time_until_empty = m.resampler.time_until_empty }; wraps = m.wraps }

moving_twice : (m : Moving) → muted_moving (muted_moving m) ≡ muted_moving m
moving_twice m = ap (entered m) (twice m.resampler.time_until_empty m.resampler.frames)

pub muted_twice : (v : StaticSound) → muted (muted v) ≡ muted v
muted_twice v = ap (moved v v.fractional_position) (moving_twice v.moving)

-- ---- a push

-- the entries after a push
abbrev after : List RecentFrame → RecentFrame → List RecentFrame
after rs e = get_or rs 1 blank ∷ get_or rs 2 blank ∷ get_or rs 3 blank ∷ e ∷ []

-- the entries from the second on, as a push without a frame moves them
abbrev padded : ℕ → List RecentFrame → RecentFrame → List RecentFrame
padded zero rs e = e ∷ []
padded (suc n) [] e = blank ∷ padded n [] e
padded (suc n) (r ∷ rs) e = r ∷ padded n rs e

padded_after : (r : RecentFrame) (rs : List RecentFrame) (e : RecentFrame) → padded 3 rs e ≡ after (r ∷ rs) e
padded_after r [] e = refl
padded_after r (a ∷ []) e = refl
padded_after r (a ∷ b ∷ []) e = refl
padded_after r (a ∷ b ∷ c ∷ rs) e = refl

padded_muted : (n t : ℕ) (rs : List RecentFrame) (e : RecentFrame) → muted_first t (padded n rs e) ≡ muted_first t (padded n (muted_first t rs) e)
padded_muted n zero rs e = refl
padded_muted zero (suc t) rs e = refl
padded_muted (suc n) (suc t) [] e = refl
padded_muted (suc n) (suc t) (r ∷ rs) e = ap (λ (l : List RecentFrame). muted_entry r ∷ l) (padded_muted n t rs e)

none_pushed : (t : ℕ) (rs : List RecentFrame) (e : RecentFrame) → muted_first (t - 1) (after rs e) ≡ muted_first (t - 1) (after (muted_first t rs) e)
none_pushed zero rs e = refl
none_pushed (suc t) [] e = refl
none_pushed (suc t) (r ∷ rs) e =
    let less : t ≡ suc t - 1 = omega arith in
    subst (λ (n : ℕ). muted_first n (after (r ∷ rs) e) ≡ muted_first n (after (muted_entry r ∷ muted_first t rs) e)) less
    (ap (muted_first t) (sym (padded_after r rs e)) ∙ padded_muted 3 t rs e ∙ ap (muted_first t) (padded_after (muted_entry r) (muted_first t rs) e))

some_pushed : (t : ℕ) (rs : List RecentFrame) (e : RecentFrame) → muted_first 4 (after rs e) ≡ muted_first 4 (after (muted_first t rs) e)
some_pushed t rs e =
    let i = muted_index t rs in
    rw (← i 1, ← i 2, ← i 3) refl

-- any frame, or none
push_none : (w : Resampler) (n : ℕ) → muted_window (push w None n) ≡ muted_window (push (muted_window w) None n)
unfolding push
push_none w n =
    ap (λ (l : List RecentFrame). record { frames = l; time_until_empty = w.time_until_empty - 1 }) (none_pushed w.time_until_empty w.frames (given_entry None n))

push_some : (w : Resampler) (f g : Frame) (n : ℕ) → muted_window (push w (Some f) n) ≡ muted_window (push (muted_window w) (Some g) n)
unfolding push
push_some w f g n = ap (λ (l : List RecentFrame). record { frames = l; time_until_empty = 4 }) (some_pushed w.time_until_empty w.frames (given_entry (Some f) n))

-- ---- updates: over any sound as over any other

pub pushed_muted : (snd other : List Float) (c : Slice) (m : Moving) → muted_window (pushed snd c m) ≡ muted_window (pushed other c (muted_moving m))
unfolding pushed
pushed_muted snd other c m = go m.transport.playing
  where
    i : ℕ
    i = c.start + m.transport.position

    go : (b : Bool) → muted_window (push m.resampler (sounding snd b i) m.transport.position) ≡ muted_window (push (muted_window m.resampler) (sounding other b i) m.transport.position)
    go true = push_some m.resampler (frame_of snd i) (frame_of other i) m.transport.position
    go false = push_none m.resampler m.transport.position

pub updated_muted : (snd other : List Float) (c : Slice) (m : Moving) → muted_moving (updated snd c m) ≡ muted_moving (updated other c (muted_moving m))
unfolding updated
updated_muted snd other c m =
    let t = stepped c m.transport in
    ap (λ (w : Resampler). record { state = cond (not t.playing && eqb w.time_until_empty 0) state.Stopped m.state; transport = t; resampler = w; wraps = counted c m.transport m.wraps })
    (pushed_muted snd other c m)

pub updates_muted : (n : ℕ) (snd other : List Float) (c : Slice) (m : Moving) → muted_moving (updates n snd c m) ≡ muted_moving (updates n other c (muted_moving m))
unfolding updates
updates_muted zero snd other c m = sym (moving_twice m)
updates_muted (suc n) snd other c m =
    updates_muted n snd other c (updated snd c m)
    ∙ ap (λ (u : Moving). muted_moving (updates n other c u)) (updated_muted snd other c m)
    ∙ sym (updates_muted n other other c (updated other c (muted_moving m)))
