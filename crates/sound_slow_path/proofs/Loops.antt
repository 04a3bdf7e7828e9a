-- The block's loop: one frame more, its two samples stored, and at the end all of the output.
use mathlib.Core.Path.{◌≡◌, refl, sym, ap, ap₂, ◌∙◌, subst}
use mathlib.Core.List.{List, [], ◌∷◌, ◌++◌, append_assoc}
use Prim.Native.Nat.{ℕ, zero, suc, ◌+◌, ◌*◌, ◌≤◌, ◌<◌}
use native.Mathlib.Numerals.{add-one}
use native.Mathlib.Nat.{le_refl, not-suc-le-zero, le_of_suc-le-suc}
use native.Mathlib.Omega.{arith}
use mathlib.Core.Bool.{Bool}
use lib.Dec.{T}
use lib.ListN.{length, get_or, take, set, length-set}
use lib.Seq.{take-suc-set, take_all}
use lib.Ieee.{Float, nan, binary64, add, of_int}
use lib.Ieee.Fits.{and_l, and_r}
use Rattle.numbers.specs.Words.{whole, part, advance}
use Rattle.numbers.proofs.Fractions.{advance_finite_clear, sum_steps}
use Rattle.numbers.proofs.Stepping.{sum_proper}
use Rattle.numbers.specs.Lists.{all}
use Rattle.frame.specs.declared.Frame.{Frame}
use Rattle.resampler.specs.Windows.{nth, reading}
use Rattle.sound_lanes.specs.Lanes.{Lane, Lanes, rows, near, slow}
use Rattle.sound_lanes.proofs.Rows.{beside_at, beside_length, near_all}
use Rattle.sound_update.specs.declared.Moving.{Moving}
use Rattle.sound_state.specs.declared.StaticSound.{StaticSound}
use Rattle.sound_update.specs.declared.Slice.{Slice}
use Rattle.sound_state.specs.Voices.{slice_of, moved}
use Rattle.sound_update.specs.Updates.{updates}
use Rattle.sound_state.specs.WellFormed.{WellFormed}
use Rattle.sound_state.proofs.WellFormed.{span_most, kept_of, moved_well_formed}
use Rattle.sound_update.proofs.Kept.{updates_kept}
use Rattle.sound_slow_path.specs.declared.AfterFrame.{AfterFrame}
use Rattle.sound_slow_path.specs.Plays.{Played, plays, after_frame, total, lower, read_by, frame_with_gains, accepted_as}
use Rattle.sound_slow_path.specs.FrameSteps.{frame_at, frame_steps, Steppable}
use Rattle.sound_slow_path.proofs.Plays.{plays_next}

all_at : (p : Float → Bool) (l : List Float) (i : ℕ) → i < length l → T (all p l) → T (p (get_or l i nan))
all_at p [] i h k = absurd (not-suc-le-zero h)
all_at p (x ∷ l) zero h k = and_l (p x) (all p l) k
all_at p (x ∷ l) (suc i) h k = all_at p l i (le_of_suc-le-suc h) (and_r (p x) (all p l) k)

-- two stores after the first k
two : (l : List Float) (k : ℕ) (x y : Float) → k + 1 < length l → take (k + 2) (set (set l k x) (k + 1) y) ≡ take k l ++ (x ∷ y ∷ [])
two l k x y h =
    let h₁ : k < length l = omega arith in
    let h₂ : suc k < length (set l k x) = simp length-set (omega arith) in
    let e : k + 2 ≡ suc (suc k) = omega arith in
    rw (e, add-one, take-suc-set (set l k x) (suc k) y h₂, take-suc-set l k x h₁, append_assoc)

-- a lane as the code reads it
abbrev pub lane_at : Lanes → ℕ → Lane
lane_at b i =
    record { fade = get_or b.fade i nan; volume = get_or b.volume i nan; left = get_or b.left i nan; right = get_or b.right i nan; rate = get_or b.rate i nan }

-- what is played so far: the voice, the samples written, the steps made and the lowest count read
abbrev pub played : StaticSound → List Float → ℕ → ℕ → Played
played v samples steps low = record { voice = v; samples = samples; steps = steps; lowest_count = low }

-- one frame after what is played
abbrev onward : List Float → Float → Lane → Played → Played
onward snd dt l p =
    played (after_frame snd dt p.voice l) (p.samples ++ ((frame_with_gains p.voice l).left ∷ (frame_with_gains p.voice l).right ∷ [])) (p.steps + whole (total dt p.voice l))
    (lower p.lowest_count (read_by p.voice).count)

-- the frame that the code makes
abbrev pub framed : Moving → Float → Lane → Frame
framed m f l =
    let w = m.resampler in
    frame_at (nth w 0) (nth w 1) (nth w 2) (nth w 3) f l.fade l.volume l.left l.right

abbrev turning : List Float → Float → StaticSound → Moving → Float → Lane → AfterFrame
turning snd dt v m f l = frame_steps snd (slice_of v) v.setup.sample_rate l.rate dt m f

-- it is the definition's
onward_is : (snd : List Float) (dt : Float) (v : StaticSound) (m : Moving) (f : Float) (l : Lane) (samples : List Float) (steps low : ℕ)
    → onward snd dt l (played (moved v f m) samples steps low)
    ≡ played (moved v (turning snd dt v m f l).fractional_position (turning snd dt v m f l).moving) (samples ++ ((framed m f l).left ∷ (framed m f l).right ∷ [])) (steps + (turning snd dt v m f l).steps)
    (lower low m.resampler.time_until_empty)
unfolding after_frame total frame_with_gains frame_at frame_steps reading
onward_is snd dt v m f l samples steps low = refl

module _ (snd : List Float) (dt : Float) (b : Lanes) (v : StaticSound) where
  pub played_more : (i steps low : ℕ) (out : List Float) (m : Moving) (f : Float) (x : Frame) (k : ℕ) (t : AfterFrame) → i < length b.rate → 2 * i + 1 < length out
      → plays snd dt (take i (rows b)) v ≡ played (moved v f m) (take (2 * i) out) steps low
      → x ≡ framed m f (lane_at b i) → k ≡ lower low m.resampler.time_until_empty → t ≡ turning snd dt v m f (lane_at b i)
      → plays snd dt (take (i + 1) (rows b)) v
      ≡ played (moved v t.fractional_position t.moving) (take (2 * (i + 1)) (set (set out (2 * i) x.left) (2 * i + 1) x.right)) (steps + t.steps) k
  played_more i steps low out m f x k t h long e ex ek et =
      let l = lane_at b i in
      let next = lower low m.resampler.time_until_empty in
      let len : i < length (rows b) = subst (λ (n : ℕ). i < n) (sym (beside_length b.fade b.volume b.left b.right b.rate)) h in
      let d : 2 * (i + 1) ≡ 2 * i + 2 = omega arith in
      ap (λ (n : ℕ). plays snd dt (take n (rows b)) v) (add-one i)
      ∙ plays_next snd dt (rows b) v i (lane_at b i) len
      ∙ ap₂ (λ (l : Lane) (p : Played). onward snd dt l p) (beside_at b.fade b.volume b.left b.right b.rate i (lane_at b i) h) e
      ∙ onward_is snd dt v m f l (take (2 * i) out) steps low
      ∙ sym
      (ap (played (moved v t.fractional_position t.moving) (take (2 * (i + 1)) (set (set out (2 * i) x.left) (2 * i + 1) x.right)) (steps + t.steps)) ek
      ∙ ap₂ (λ (x : Frame) (t : AfterFrame). played (moved v t.fractional_position t.moving) (take (2 * (i + 1)) (set (set out (2 * i) x.left) (2 * i + 1) x.right)) (steps + t.steps) next) ex et
      ∙ ap (λ (n : ℕ). played (moved v (turning snd dt v m f l).fractional_position (turning snd dt v m f l).moving) (take n (set (set out (2 * i) (framed m f l).left) (2 * i + 1) (framed m f l).right)) (steps + (turning snd dt v m f l).steps) next) d
      ∙ ap (λ (z : List Float). played (moved v (turning snd dt v m f l).fractional_position (turning snd dt v m f l).moving) z (steps + (turning snd dt v m f l).steps) next) (two out (2 * i) (framed m f l).left (framed m f l).right long))

  pub played_none : (out : List Float) → plays snd dt (take 0 (rows b)) v ≡ played v (take (2 * 0) out) 0 4
  unfolding plays
  played_none out = refl

  pub played_all : (i steps low : ℕ) (out : List Float) (u : StaticSound) → length b.rate ≤ i → i ≤ length b.rate → length out ≡ 2 * length b.rate
      → plays snd dt (take i (rows b)) v ≡ played u (take (2 * i) out) steps low
      → record { answer = record { refusal = 0; voice = u; steps = steps; lowest_count = low }; samples = out } ≡ accepted_as (plays snd dt (rows b) v)
  played_all i steps low out u h k g e =
      let all-rows : take i (rows b) ≡ rows b = take_all i (rows b) (subst (λ (n : ℕ). n ≤ i) (sym (beside_length b.fade b.volume b.left b.right b.rate)) h) in
      let all-out : take (2 * i) out ≡ out = take_all (2 * i) out (omega arith) in
      ap accepted_as (sym (ap (λ (z : List Float). played u z steps low) all-out) ∙ sym e ∙ ap (λ (r : List Lane). plays snd dt r v) all-rows)

  -- the rate at i makes a small advance
  pub slow_at : (hz i : ℕ) → i < length b.rate → T (all (near hz dt) (rows b)) → T (slow hz dt (get_or b.rate i nan))
  slow_at hz i h k = all_at (slow hz dt) b.rate i h (subst T (near_all hz dt b.fade b.volume b.left b.right b.rate) k)

-- one frame's steps are few, and leave a well formed voice
module _ (snd : List Float) (c : Slice) (hz : ℕ) (rate dt : Float) (m : Moving) (f : Float) where
  pub turned_few : (t : AfterFrame) → Steppable snd c hz rate dt m f → t ≡ frame_steps snd c hz rate dt m f → t.steps ≤ 257
  unfolding frame_steps of_int
  turned_few t h e =
      subst (λ (t : AfterFrame). t.steps ≤ 257) (sym e)
      (sum_steps f (advance hz rate dt) 256 (le_refl 256) h.below (advance_finite_clear hz rate dt h.is_time_step h.slow) h.slow)

pub turned_on : (snd : List Float) (dt : Float) (v : StaticSound) (rate : Float) (m : Moving) (f : Float) (t : AfterFrame) → WellFormed (moved v f m)
    → Steppable snd (slice_of v) v.setup.sample_rate rate dt m f → t ≡ frame_steps snd (slice_of v) v.setup.sample_rate rate dt m f → WellFormed (moved v t.fractional_position t.moving)
unfolding frame_steps
turned_on snd dt v rate m f t w h e =
    subst (λ (t : AfterFrame). WellFormed (moved v t.fractional_position t.moving)) (sym e)
    (let hz = v.setup.sample_rate in
    let x = add binary64 f (advance hz rate dt) in
    moved_well_formed (moved v f m) (part x) (updates (whole x) snd (slice_of v) m) w
    (sum_proper f (advance hz rate dt) h.below (advance_finite_clear hz rate dt h.is_time_step h.slow) h.slow)
    (updates_kept (whole x) snd (slice_of v) m (span_most v.setup w.setup) (kept_of (moved v f m) w)))
