-- Where no step wraps: what one frame and four frames need of the places, and the scan after them. In either direction: what counts is the
-- distance to the step that wraps. Assumes nothing.
use mathlib.Core.Path.{◌≡◌, refl, sym, ap, ◌∙◌, subst}
use Prim.Native.Nat.{ℕ, ◌+◌, ◌*◌, ◌≤◌, ◌<◌}
use native.Mathlib.Omega.{arith}
use mathlib.Core.Bool.{Bool, true}
use mathlib.Core.List.{List}
use lib.Dec.{T}
use lib.ListN.{length, get_or}
use lib.Ieee.{Float, nan}
use Rattle.numbers.specs.declared.Stepped.{Stepped}
use Rattle.numbers.specs.Words.{narrowed, advance}
use Rattle.frame.specs.declared.Frame.{Frame}
use Rattle.frame.specs.Frames.{frame_of, interpolated}
use Rattle.sound_track.specs.declared.Track.{Track}
use Rattle.sound_track.specs.Tracks.{nexts, far, straight, On, roomy}
use Rattle.sound_track.proofs.Tracks.{along, on_nexts, nexts_add, nexts_within, straight_far}
use Rattle.sound_track.proofs.Same.{holds}
use Rattle.sound_fast_reading.specs.declared.Way.{Way}
use Rattle.sound_fast_reading.specs.declared.Reached.{Reached}
use Rattle.sound_fast_reading.specs.Moves.{Move}
use Rattle.sound_fast_reading.specs.Scans.{read_on, Scannable, Scanned}
use Rattle.sound_fast_reading.proofs.Moves.{roomy_of}
use Rattle.sound_fast_reading.proofs.Readings.{read_as}
use Rattle.sound_fast_reading.proofs.Scans.{place, scanned_more}
use Rattle.sound_fast_straight.specs.declared.Moves.{Moves}
use Rattle.sound_fast_straight.proofs.FourFrames.{put, FourMoves, four_more}

-- a test that says so
pub passed : (k : Track) (n q : ℕ) (b : Bool) → b ≡ straight k n q → b ≡ true → n + 4 ≤ far k q
passed k n q b e t = straight_far k n q (holds _ (sym e ∙ t))

module _ (k : Track) (q : ℕ) (o : On k q) where
  far_on : (n : ℕ) → n ≤ far k q → far k (nexts n k q) + n ≡ far k q
  far_on n h = (nexts_within n k q o h).left

  pub room_on : (n : ℕ) → n + 4 ≤ far k q → T (roomy k n q)
  room_on n h = roomy_of k n q (record { on = o; ends = λ e. omega (arith, h) })

  -- after a of n steps the four frames of a reading come before the step that wraps
  pub window_on : (a n p : ℕ) → n + 4 ≤ far k q → a ≤ n → p ≡ nexts a k q → 3 ≤ far k p
  window_on a n p h l e = let f = far_on a (omega (arith, h, l)) in subst (λ (p : ℕ). 3 ≤ far k p) (sym e) (omega (arith, f, h, l))

  -- m steps further, after a of n
  pub leads_on : (a m n p z : ℕ) → n + 4 ≤ far k q → a + m ≤ n → p ≡ nexts a k q → z ≡ nexts (a + m) k q → (z ≡ nexts m k p) × T (roomy k m p)
  leads_on a m n p z h l ep ez =
      let f = far_on a (omega (arith, h, l)) in
      (ez ∙ nexts_add a m k q ∙ ap (nexts m k) (sym ep), subst (λ (p : ℕ). T (roomy k m p)) (sym ep) (roomy_of k m (nexts a k q) (record { on = on_nexts a k q o; ends = λ e. omega (arith, f, h, l) })))

-- the reading at a place, from the indices of its frames
pub read_straight : (snd : List Float) (k : Track) (q : ℕ) → On k q → 3 ≤ far k q → (p₁ p₂ p₃ : ℕ) (f n : Float) (w x y z r : Frame)
    → p₁ ≡ k.start + along k q 1 → p₂ ≡ k.start + along k q 2 → p₃ ≡ k.start + along k q 3
    → w ≡ frame_of snd (k.start + q) → x ≡ frame_of snd p₁ → y ≡ frame_of snd p₂ → z ≡ frame_of snd p₃ → n ≡ narrowed f → r ≡ interpolated w x y z n → r ≡ read_on snd k q f
unfolding nexts
read_straight snd k q o h p₁ p₂ p₃ f n w x y z r i₁ i₂ i₃ ew ex ey ez =
    let on = λ (m : ℕ) (p : ℕ) (l : m ≤ far k q) (e : p ≡ k.start + along k q m). e ∙ ap (λ (q : ℕ). k.start + q) (sym (nexts_within m k q o l).place) in
    read_as snd k q (nexts 1 k q) (nexts 2 k q) (nexts 3 k q) f n w x y z r refl refl refl ew
    (ex ∙ ap (frame_of snd) (on 1 p₁ (omega arith) i₁)) (ey ∙ ap (frame_of snd) (on 2 p₂ (omega arith) i₂)) (ez ∙ ap (frame_of snd) (on 3 p₃ h i₃))

-- ---- frames more

module _ (snd : List Float) (w : Way) (rates : List Float) (ready : Scannable snd w rates) where
  -- one frame
  pub straight_more : (i steps q : ℕ) (f : Float) (out : List Float) (x : Frame) (a : Stepped) (z s n : ℕ) (o : List Float) → Scanned snd w rates (place q f steps i) out → i < length rates
      → x ≡ read_on snd w.track q f → Move f (advance w.sample_rate (get_or rates i nan) w.dt) a → (z ≡ nexts a.steps w.track q) × T (roomy w.track a.steps q)
      → s ≡ steps + a.steps → n ≡ i + 1 → o ≡ put out (2 * i) x → Scanned snd w rates (place z a.fraction s n) o
  straight_more i steps q f out x a z s n o h l ex m t es en eo = scanned_more snd w rates i steps q f out x a z s n o ready h l ex m.is t.0 t.1 es en eo

  -- four frames
  pub straight_four : (r : Reached) (out : List Float) (m : Moves) (x₁ x₂ x₃ x₄ : Frame) (p₁ p₂ p₃ p₄ : ℕ) (o₁ o₂ o₃ o₄ : List Float)
      → let k = w.track in
      let i = r.next in
      let n₁ = m.first.steps in
      let n₂ = n₁ + m.second.steps in
      let n₃ = n₂ + m.third.steps in
      let n₄ = n₃ + m.fourth.steps in
      Scanned snd w rates r out → i + 3 < length rates → FourMoves w rates r.fractional_position i m → n₄ + 4 ≤ far k r.at
      → p₁ ≡ nexts n₁ k r.at → p₂ ≡ nexts n₂ k r.at → p₃ ≡ nexts n₃ k r.at → p₄ ≡ nexts n₄ k r.at
      → x₁ ≡ read_on snd k r.at r.fractional_position → x₂ ≡ read_on snd k p₁ m.first.fraction → x₃ ≡ read_on snd k p₂ m.second.fraction → x₄ ≡ read_on snd k p₃ m.third.fraction
      → o₁ ≡ put out (2 * i) x₁ → o₂ ≡ put o₁ (2 * i + 2) x₂ → o₃ ≡ put o₂ (2 * i + 4) x₃ → o₄ ≡ put o₃ (2 * i + 6) x₄
      → Scanned snd w rates (place p₄ m.fourth.fraction (r.steps + n₄) (i + 4)) o₄
  straight_four r out m x₁ x₂ x₃ x₄ p₁ p₂ p₃ p₄ o₁ o₂ o₃ o₄ h l ms far₄ q₁ q₂ q₃ q₄ r₁ r₂ r₃ r₄ e₁ e₂ e₃ e₄ =
      let k = w.track in
      let n₁ = m.first.steps in
      let n₂ = n₁ + m.second.steps in
      let n₃ = n₂ + m.third.steps in
      let n₄ = n₃ + m.fourth.steps in
      let leads = leads_on k r.at h.on in
      four_more w rates (λ (q : ℕ) (f : Float) (s i : ℕ) (o : List Float). Scanned snd w rates (place q f s i) o) (λ (q : ℕ) (f : Float) (x : Frame). x ≡ read_on snd k q f)
      (λ (q n z : ℕ). (z ≡ nexts n k q) × T (roomy k n q)) straight_more r.next r.steps r.at r.fractional_position out m x₁ x₂ x₃ x₄ p₁ p₂ p₃ p₄ (r.steps + n₄) o₁ o₂ o₃ o₄ h l ms
      (q₁, room_on k r.at h.on n₁ (omega (arith, far₄)))
      (leads n₁ m.second.steps n₄ p₁ p₂ far₄ (omega arith) q₁ q₂)
      (leads n₂ m.third.steps n₄ p₂ p₃ far₄ (omega arith) q₂ q₃)
      (leads n₃ m.fourth.steps n₄ p₃ p₄ far₄ (omega arith) q₃ q₄)
      r₁ r₂ r₃ r₄ e₁ e₂ e₃ e₄ refl
