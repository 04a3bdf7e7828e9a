-- The two translations of a state undo each other: every voice has a well formed record that represents it, and every well formed record is that of the voice that it represents.
-- Field by field: states and flags by their few numbers, ranges by whether they are given, the window entry by entry. Assumes nothing.
use Rattle.std.specs.Prelude.{Option, Some, None}
use mathlib.Core.Path.{◌≡◌, refl, ap, ◌∙◌}
use Prim.Native.Nat.{ℕ, zero, suc, ◌≤◌}
use native.Mathlib.Omega.{arith}
use mathlib.Core.Bool.{Bool, true, false, ◌&&◌, ◌||◌, cond}
use mathlib.Core.List.{List, [], ◌∷◌, map}
use lib.Dec.{T, leb, eqb, leb→le, eqb→eq}
use borrow.Author.Tests.{eqb-true}
use lib.Ieee.Fits.{and_i, and_l, and_r}
use Rattle.playback_state_manager.specs.declared.PlaybackState.{PlaybackState}
use Rattle.playback_state_manager.specs.declared.PlaybackState.TheVariants.{Playing, Pausing, Paused, WaitingToResume, Resuming, Stopping, Stopped}
use Rattle.playback_state_manager.specs.States.{number}
use Rattle.resampler.specs.declared.RecentFrame.{RecentFrame}
use Rattle.sound_state.specs.declared.StaticSound.{StaticSound}
use Rattle.sound_creation.specs.Creation.{blank_sound}
use Rattle.c_state.specs.declared.CableowlEntry.{CableowlEntry}
use Rattle.c_state.specs.declared.CableowlState.{CableowlState}
use Rattle.c_state.specs.Records.{yes, bit, well_formed_range, well_formed_state, state_of, range_of, recent_of, stated, decoded, given, start_of, ending_of, entry_of, encoded}

-- ---- a voice, its record, and back

pub state_back : (s : PlaybackState) → state_of (number s) ≡ s
unfolding state_of
state_back Playing = refl
state_back Pausing = refl
state_back Paused = refl
state_back WaitingToResume = refl
state_back Resuming = refl
state_back Stopping = refl
state_back Stopped = refl

state_known : (s : PlaybackState) → T (leb (number s) 6)
state_known Playing = tt
state_known Pausing = tt
state_known Paused = tt
state_known WaitingToResume = tt
state_known Resuming = tt
state_known Stopping = tt
state_known Stopped = tt

bit_back : (b : Bool) → yes (bit b) ≡ b
bit_back true = refl
bit_back false = refl

bit_known : (b : Bool) → T (leb (bit b) 1)
bit_known true = tt
bit_known false = tt

range_back : (r : Option (ℕ × ℕ)) → range_of (given r) (start_of r) (ending_of r) ≡ r
range_back None = refl
range_back (Some (s, e)) = refl

range_known : (r : Option (ℕ × ℕ)) → T (well_formed_range (given r) (start_of r) (ending_of r))
range_known None = tt
range_known (Some (s, e)) = tt

frames_back : (l : List RecentFrame) → map recent_of (map entry_of l) ≡ l
frames_back [] = refl
frames_back (r ∷ l) = ap (λ (t : List RecentFrame). r ∷ t) (frames_back l)

pub well_formed_encoded : (v : StaticSound) → T (well_formed_state (encoded v))
unfolding well_formed_state encoded
well_formed_encoded v =
    let a = leb (number v.moving.state) 6 in
    let b = leb (bit v.setup.reverse) 1 in
    let c = leb (bit v.started) 1 in
    let d = leb (bit v.moving.transport.playing) 1 in
    let s = v.setup.slice in
    let l = v.moving.transport.loop_region in
    let e = well_formed_range (given s) (start_of s) (ending_of s) in
    let f = well_formed_range (given l) (start_of l) (ending_of l) in
    and_i (a && b && c && d && e) f
    (and_i (a && b && c && d) e
    (and_i (a && b && c) d
    (and_i (a && b) c (and_i a b (state_known v.moving.state) (bit_known v.setup.reverse)) (bit_known v.started))
    (bit_known v.moving.transport.playing))
    (range_known s))
    (range_known l)

decoded_well_formed : (c : CableowlState) → T (well_formed_state c) → decoded c ≡ stated c
unfolding decoded
decoded_well_formed c h = go (well_formed_state c) h
  where
    go : (b : Bool) → T b → cond b (stated c) blank_sound ≡ stated c
    go true h = refl
    go false h = absurd h

-- the voice of these fields
module _ (v : StaticSound) where
  voice_of : (s : PlaybackState) (k l : Option (ℕ × ℕ)) (a b c : Bool) (fs : List RecentFrame)
      → s ≡ v.moving.state → k ≡ v.setup.slice → l ≡ v.moving.transport.loop_region
      → a ≡ v.setup.reverse → b ≡ v.started → c ≡ v.moving.transport.playing → fs ≡ v.moving.resampler.frames
      → ◌≡◌ {A = StaticSound}
      (record {
        setup = record { sample_rate = v.setup.sample_rate; num_frames = v.setup.num_frames; slice = k; reverse = a };
        playback_rate = v.playback_rate;
        started = b;
        fractional_position = v.fractional_position;
        moving = record {
          state = s;
          transport = record { position = v.moving.transport.position; loop_region = l; playing = c };
          resampler = record { frames = fs; time_until_empty = v.moving.resampler.time_until_empty };
          wraps = v.moving.wraps;
        };
      })
      v
  voice_of s k l a b c fs e1 e2 e3 e4 e5 e6 e7 = rw (e1, e2, e3, e4, e5, e6, e7)

  pub decoded_encoded : decoded (encoded v) ≡ v
  unfolding encoded
  decoded_encoded =
      decoded_well_formed (encoded v) (well_formed_encoded v)
      ∙ voice_of _ _ _ _ _ _ _
      (state_back v.moving.state)
      (range_back v.setup.slice)
      (range_back v.moving.transport.loop_region)
      (bit_back v.setup.reverse)
      (bit_back v.started)
      (bit_back v.moving.transport.playing)
      (frames_back v.moving.resampler.frames)

-- ---- a well formed record, its voice, and back

number_back : (n : ℕ) → n ≤ 6 → number (state_of n) ≡ n
unfolding state_of
number_back zero h = refl
number_back (suc zero) h = refl
number_back (suc (suc zero)) h = refl
number_back (suc (suc (suc zero))) h = refl
number_back (suc (suc (suc (suc zero)))) h = refl
number_back (suc (suc (suc (suc (suc zero))))) h = refl
number_back (suc (suc (suc (suc (suc (suc zero)))))) h = refl
number_back (suc (suc (suc (suc (suc (suc (suc n))))))) h = absurd (omega (arith, h))

yes_back : (n : ℕ) → n ≤ 1 → bit (yes n) ≡ n
yes_back zero h = refl
yes_back (suc zero) h = refl
yes_back (suc (suc n)) h = absurd (omega (arith, h))

-- absent with no numbers, or given
record Back (has s e : ℕ) : Type 0 where
  tag : given (range_of has s e) ≡ has
  start : start_of (range_of has s e) ≡ s
  end : ending_of (range_of has s e) ≡ e

given_back : (has s e : ℕ) → T (well_formed_range has s e) → Back has s e
given_back has s e h = go (eqb has 1) refl h
  where
    one : Back 1 s e
    one = record { tag = refl; start = refl; end = refl }

    none : Back 0 0 0
    none = record { tag = refl; start = refl; end = refl }

    go : (b : Bool) → eqb has 1 ≡ b → T (b || eqb has 0 && eqb s 0 && eqb e 0) → Back has s e
    go true p h = rw (eqb-true has 1 p) one
    go false p h =
        let hs = and_l (eqb has 0 && eqb s 0) (eqb e 0) h in
        rw (
          eqb→eq has 0 (and_l (eqb has 0) (eqb s 0) hs),
          eqb→eq s 0 (and_r (eqb has 0) (eqb s 0) hs),
          eqb→eq e 0 (and_r (eqb has 0 && eqb s 0) (eqb e 0) h),
        )
        none

entries_back : (l : List CableowlEntry) → map entry_of (map recent_of l) ≡ l
entries_back [] = refl
entries_back (r ∷ l) = ap (λ (t : List CableowlEntry). r ∷ t) (entries_back l)

-- what the test has passed
record WellFormed (c : CableowlState) : Type 0 where
  state : c.state ≤ 6
  reverse : c.reverse ≤ 1
  started : c.started ≤ 1
  playing : c.playing ≤ 1
  slice : Back c.has_slice c.slice_start c.slice_end
  loop : Back c.has_loop c.loop_start c.loop_end

well_formed_parts : (c : CableowlState) → T (well_formed_state c) → WellFormed c
unfolding well_formed_state
well_formed_parts c h =
    let p = leb c.state 6 in
    let q = leb c.reverse 1 in
    let r = leb c.started 1 in
    let s = leb c.playing 1 in
    let t = well_formed_range c.has_slice c.slice_start c.slice_end in
    let u = well_formed_range c.has_loop c.loop_start c.loop_end in
    let h5 = and_l (p && q && r && s && t) u h in
    let h4 = and_l (p && q && r && s) t h5 in
    let h3 = and_l (p && q && r) s h4 in
    let h2 = and_l (p && q) r h3 in
    record {
      state = leb→le c.state 6 (and_l p q h2);
      reverse = leb→le c.reverse 1 (and_r p q h2);
      started = leb→le c.started 1 (and_r (p && q) r h3);
      playing = leb→le c.playing 1 (and_r (p && q && r) s h4);
      slice = given_back c.has_slice c.slice_start c.slice_end (and_r (p && q && r && s) t h5);
      loop = given_back c.has_loop c.loop_start c.loop_end (and_r (p && q && r && s && t) u h);
    }

-- the record of these fields
module _ (c : CableowlState) where
  record_of : (state reverse started playing slice loop ss se ls le : ℕ) (es : List CableowlEntry)
      → state ≡ c.state → reverse ≡ c.reverse → started ≡ c.started → playing ≡ c.playing
      → slice ≡ c.has_slice → loop ≡ c.has_loop → ss ≡ c.slice_start → se ≡ c.slice_end → ls ≡ c.loop_start → le ≡ c.loop_end
      → es ≡ c.window
      → ◌≡◌ {A = CableowlState}
      (record {
        sample_rate = c.sample_rate;
        state = state;
        reverse = reverse;
        started = started;
        playing = playing;
        has_slice = slice;
        has_loop = loop;
        count = c.count;
        num_frames = c.num_frames;
        slice_start = ss;
        slice_end = se;
        position = c.position;
        loop_start = ls;
        loop_end = le;
        playback_rate = c.playback_rate;
        fraction = c.fraction;
        window = es;
        forward_wraps = c.forward_wraps;
        backward_wraps = c.backward_wraps;
      })
      c
  record_of state reverse started playing slice loop ss se ls le es e1 e2 e3 e4 e5 e6 e7 e8 e9 e10 e11 = rw (e1, e2, e3, e4, e5, e6, e7, e8, e9, e10, e11)

  pub encoded_decoded : T (well_formed_state c) → encoded (decoded c) ≡ c
  unfolding encoded
  encoded_decoded h =
      let p = well_formed_parts c h in
      ap encoded (decoded_well_formed c h)
      ∙ record_of _ _ _ _ _ _ _ _ _ _ _
      (number_back c.state p.state)
      (yes_back c.reverse p.reverse)
      (yes_back c.started p.started)
      (yes_back c.playing p.playing)
      p.slice.tag
      p.loop.tag
      p.slice.start
      p.slice.end
      p.loop.start
      p.loop.end
      (entries_back c.window)
