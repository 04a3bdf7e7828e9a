-- A voice that an update has stopped: it stays stopped, only its fraction and its frame indices change, and it writes +0.
-- The transport no longer steps, only zero frames are pushed, and the cubic of zeros is zero. Assumes nothing.
use mathlib.Core.Path.{◌≡◌, refl, sym, ap, ap₂, ◌∙◌}
use mathlib.Core.Logic.{inl, inr}
use Prim.Native.Nat.{ℕ, zero, suc, ◌+◌}
use native.Mathlib.Nat.{zero-sub}
use mathlib.Core.Bool.{Bool, true, false, false≢true, not, ◌&&◌, cond}
use mathlib.Core.List.{List, [], ◌∷◌, map}
use lib.Dec.{T}
use lib.ListN.{length, replicate}
use lib.Ieee.{Float, lt, binary32}
use lib.Ieee.Fits.{and_l, and_r}
use borrow.Author.Tests.{eqb-true}
use Rattle.numbers.specs.Words.{positive_zero, finite_clear, finite, proper, narrowed, whole}
use Rattle.numbers.specs.Lists.{all}
use Rattle.numbers.proofs.Silence.{mul_positive_zero}
use Rattle.numbers.proofs.Fractions.{narrow_finite_clear}
use Rattle.frame.specs.declared.Frame.{Frame}
use Rattle.frame.specs.Frames.{last_zero}
use Rattle.playback_state_manager.specs.declared.PlaybackState.{PlaybackState}
use Rattle.playback_state_manager.specs.declared.PlaybackState.TheVariants.{Stopped}
use Rattle.transport.specs.declared.Transport.{Transport}
use Rattle.transport.specs.Moves.{forward, backward}
use Rattle.transport.proofs.Steps.{forward_still, backward_still, wraps_still}
use Rattle.resampler.specs.declared.RecentFrame.{RecentFrame}
use Rattle.resampler.specs.declared.Resampler.{Resampler}
use Rattle.resampler.specs.Windows.{push, given_count, is_empty, zero_frame, Windowed}
use Rattle.resampler.proofs.Silence.{zero_frame_frame, empty_zero_frame, reading_positive_zero}
use Rattle.sound_lanes.specs.Lanes.{Lane, laned, near}
use Rattle.sound_state.specs.declared.Setup.{Setup}
use Rattle.sound_update.specs.declared.Moving.{Moving}
use Rattle.sound_update.specs.declared.Wraps.{Wraps}
use Rattle.sound_update.specs.declared.Slice.{Slice}
use Rattle.sound_state.specs.declared.StaticSound.{StaticSound}
use Rattle.sound_state.specs.Voices.{slice_of}
use Rattle.sound_update.specs.Updates.{sounding, pushed, stepped, raised, counted, updated, updates}
use Rattle.sound_state.specs.WellFormed.{WellFormed}
use Rattle.sound_slow_path.specs.Plays.{Played, total, after_frame, frame_with_gains, plays}
use Rattle.sound_block.specs.Blocks.{zeros}
use Rattle.sound_slow_path.proofs.Keeps.{turned_well_formed}
use Rattle.theorems.specs.Alike.{unnumbered, bare}
use Rattle.theorems.specs.AllowedEnd.{Ended, EndsOnly}

-- ---- updates

pub stepped_still : (c : Slice) (t : Transport) → t.playing ≡ false → stepped c t ≡ t
unfolding stepped
stepped_still c t e = go c.backwards
  where
    go : (b : Bool) → cond b (backward t) (forward c.num_frames t) ≡ t
    go true = backward_still t e
    go false = forward_still c.num_frames t e

-- if both branches of a test are the same
both_same : {A : Type 0} (b : Bool) (x y z : A) → x ≡ z → y ≡ z → cond b x y ≡ z
both_same true x y z p q = p
both_same false x y z p q = q

module _ (snd : List Float) (c : Slice) where
  updated_ended : (m : Moving) → Ended m → Ended (updated snd c m)
  unfolding updated push
  updated_ended m h =
      record {
        stopped = both_same (not (stepped c m.transport).playing && is_empty (pushed snd c m)) Stopped m.state Stopped refl h.stopped;
        still = ap (λ (t : Transport). t.playing) (stepped_still c m.transport h.still) ∙ h.still;
        empty = ap₂ (λ (b : Bool) (t : ℕ). given_count (sounding snd b (c.start + m.transport.position)) t) h.still h.empty ∙ zero-sub 1;
      }

  updates_ended : (n : ℕ) (m : Moving) → Ended m → Ended (updates n snd c m)
  unfolding updates
  updates_ended zero m h = h
  updates_ended (suc n) m h = updates_ended n (updated snd c m) (updated_ended m h)

  -- the transport stays where it is
  updates_still : (n : ℕ) (m : Moving) → Ended m → (updates n snd c m).transport ≡ m.transport
  unfolding updates
  updates_still zero m h = refl
  updates_still (suc n) m h = updates_still n (updated snd c m) (updated_ended m h) ∙ stepped_still c m.transport h.still

  -- and no step is counted
  counted_still : (t : Transport) (k : Wraps) → t.playing ≡ false → counted c t k ≡ k
  unfolding counted
  counted_still t k e =
      ap (λ (b : Bool). record { forward = raised (b && not c.backwards) k.forward; backward = raised (b && c.backwards) k.backward })
      (sym (wraps_still c.backwards t e))

  updates_uncounted : (n : ℕ) (m : Moving) → Ended m → (updates n snd c m).wraps ≡ m.wraps
  unfolding updates updated
  updates_uncounted zero m h = refl
  updates_uncounted (suc n) m h = updates_uncounted n (updated snd c m) (updated_ended m h) ∙ counted_still m.transport m.wraps h.still

  split_test : (a b : Bool) → (not a && b) ≡ true → (a ≡ false) × (b ≡ true)
  split_test true b e = absurd (false≢true e)
  split_test false b e = (refl, e)

  pub updated_ends : (m : Moving) → EndsOnly m.state (updated snd c m)
  unfolding updated
  updated_ends m = go (not t.playing && is_empty w) refl
    where
      t : Transport
      t = stepped c m.transport

      w : Resampler
      w = pushed snd c m

      go : (b : Bool) → (not t.playing && is_empty w) ≡ b → EndsOnly m.state (record { state = cond b Stopped m.state; transport = t; resampler = w; wraps = counted c m.transport m.wraps })
      go true e =
          let s = split_test t.playing (is_empty w) e in
          inr (record { stopped = refl; still = s.0; empty = eqb-true w.time_until_empty 0 s.1 })
      go false e = inl refl

  updates_ends : (n : ℕ) (m : Moving) → EndsOnly m.state (updates n snd c m)
  unfolding updates
  updates_ends zero m = inl refl
  updates_ends (suc n) m = go (updated_ends m) (updates_ends n (updated snd c m))
    where
      go : EndsOnly m.state (updated snd c m) → EndsOnly (updated snd c m).state (updates n snd c (updated snd c m)) → EndsOnly m.state (updates n snd c (updated snd c m))
      go (inl e) (inl f) = inl (f ∙ e)
      go (inl e) (inr s) = inr s
      go (inr s) r = inr (updates_ended n (updated snd c m) s)

-- ---- frames

module _ (snd : List Float) (dt : Float) where
  turned_ended : (v : StaticSound) (l : Lane) → Ended v.moving → Ended (after_frame snd dt v l).moving
  unfolding after_frame
  turned_ended v l h = updates_ended snd (slice_of v) (whole (total dt v l)) v.moving h

  turned_ends : (v : StaticSound) (l : Lane) → EndsOnly v.moving.state (after_frame snd dt v l).moving
  unfolding after_frame
  turned_ends v l = updates_ends snd (slice_of v) (whole (total dt v l)) v.moving

  plays_ended : (ls : List Lane) (v : StaticSound) → Ended v.moving → Ended (plays snd dt ls v).voice.moving
  unfolding plays
  plays_ended [] v h = h
  plays_ended (l ∷ ls) v h = plays_ended ls (after_frame snd dt v l) (turned_ended v l h)

  -- a block does not change the playback state, or the voice has ended
  pub plays_ends : (ls : List Lane) (v : StaticSound) → EndsOnly v.moving.state (plays snd dt ls v).voice.moving
  unfolding plays
  plays_ends [] v = inl refl
  plays_ends (l ∷ ls) v = go (turned_ends v l) (plays_ends ls (after_frame snd dt v l))
    where
      u : StaticSound
      u = after_frame snd dt v l

      go : EndsOnly v.moving.state u.moving → EndsOnly u.moving.state (plays snd dt ls u).voice.moving → EndsOnly v.moving.state (plays snd dt ls u).voice.moving
      go (inl e) (inl f) = inl (f ∙ e)
      go (inl e) (inr s) = inr s
      go (inr s) r = inr (plays_ended ls u s)

-- ---- the samples

frame_last_zero : (v : StaticSound) (l : Lane) → Windowed v.moving.resampler → T (proper v.fractional_position) → v.moving.resampler.time_until_empty ≡ 0 → T (laned l)
    → frame_with_gains v l ≡ last_zero
unfolding frame_with_gains
frame_last_zero v l w p e k =
    let a = finite_clear l.fade in
    let b = finite_clear l.volume in
    let c = finite_clear l.left in
    let d = finite_clear l.right in
    let abcd = and_l (a && b && c && d) (finite l.rate) k in
    let abc = and_l (a && b && c) d abcd in
    simp (
      reading_positive_zero v.moving.resampler (narrowed v.fractional_position) e w (narrow_finite_clear v.fractional_position p),
      mul_positive_zero binary32 l.fade (and_l a b (and_l (a && b) c abc)),
      mul_positive_zero binary32 l.volume (and_r a b (and_l (a && b) c abc)),
      mul_positive_zero binary32 l.left (and_r (a && b) c abc),
      mul_positive_zero binary32 l.right (and_r (a && b && c) d abcd),
    )

-- ---- a voice except for its fraction and its frame indices

abbrev mute : RecentFrame
mute = record { frame = last_zero; frame_index = 0 }

unnumbered_last_zero : (l : List RecentFrame) → T (all zero_frame l) → map unnumbered l ≡ replicate (length l) mute
unnumbered_last_zero [] h = refl
unnumbered_last_zero (r ∷ l) h =
    ap₂ (λ (f : Frame) (t : List RecentFrame). record { frame = f; frame_index = 0 } ∷ t)
    (zero_frame_frame r (and_l (zero_frame r) (all zero_frame l) h))
    (unnumbered_last_zero l (and_r (zero_frame r) (all zero_frame l) h))

-- an ended voice without them
abbrev spare : Setup → Float → Bool → Transport → Wraps → StaticSound
spare k r b t n =
    record {
      setup = k;
      playback_rate = r;
      started = b;
      fractional_position = positive_zero;
      moving = record { state = Stopped; transport = t; resampler = record { frames = replicate 4 mute; time_until_empty = 0 }; wraps = n };
    }

bare_ended : (v : StaticSound) → Windowed v.moving.resampler → Ended v.moving → bare v ≡ spare v.setup v.playback_rate v.started v.moving.transport v.moving.wraps
bare_ended v w h =
    let f : map unnumbered v.moving.resampler.frames ≡ replicate 4 mute =
    unnumbered_last_zero v.moving.resampler.frames (empty_zero_frame v.moving.resampler h.empty w) ∙ ap (λ (n : ℕ). replicate n mute) w.four
    in
    ap₂ (λ (s : PlaybackState) (x : Resampler). record {
      setup = v.setup;
      playback_rate = v.playback_rate;
      started = v.started;
      fractional_position = positive_zero;
      moving = record { state = s; transport = v.moving.transport; resampler = x; wraps = v.moving.wraps };
    })
    h.stopped
    (ap₂ (λ (l : List RecentFrame) (n : ℕ). record { frames = l; time_until_empty = n }) f h.empty)

module _ (snd : List Float) (dt : Float) (t : T (lt positive_zero dt)) where
  bare_turned : (v : StaticSound) (l : Lane) → T (near v.setup.sample_rate dt l) → WellFormed v → Ended v.moving → bare (after_frame snd dt v l) ≡ bare v
  unfolding after_frame
  bare_turned v l k w h =
      bare_ended (after_frame snd dt v l) (turned_well_formed snd dt t v l k w).window (turned_ended snd dt v l h)
      ∙ ap₂ (spare v.setup v.playback_rate v.started) (updates_still snd (slice_of v) (whole (total dt v l)) v.moving h)
      (updates_uncounted snd (slice_of v) (whole (total dt v l)) v.moving h)
      ∙ sym (bare_ended v w.window h)

  -- the rest of a block, played on an ended voice
  pub record Idle (ls : List Lane) (v : StaticSound) (p : Played) : Type 0 where
    pub samples : p.samples ≡ zeros ls
    pub alike : bare p.voice ≡ bare v

  pub plays_idle : (ls : List Lane) (v : StaticSound) → T (all laned ls) → T (all (near v.setup.sample_rate dt) ls) → WellFormed v → Ended v.moving → Idle ls v (plays snd dt ls v)
  unfolding plays zeros after_frame
  plays_idle [] v a k w h = record { samples = refl; alike = refl }
  plays_idle (l ∷ ls) v a k w h =
      let n = near v.setup.sample_rate dt l in
      let r = all (near v.setup.sample_rate dt) ls in
      let u = after_frame snd dt v l in
      let i = plays_idle ls u (and_r (laned l) (all laned ls) a) (and_r n r k) (turned_well_formed snd dt t v l (and_l n r k) w) (turned_ended snd dt v l h) in
      let f = frame_last_zero v l w.window w.fraction h.empty (and_l (laned l) (all laned ls) a) in
      record {
        samples = ap₂ (λ (x : Frame) (z : List Float). x.left ∷ x.right ∷ z) f i.samples;
        alike = i.alike ∙ bare_turned v l (and_l n r k) w h;
      }
