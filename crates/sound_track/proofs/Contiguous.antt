-- Moving parts whose window is the transport's contiguous window stay so: an update moves the contiguous window by one position, and counts as the track does.
-- By the direction and the loop, case by case, then by induction on the updates. Assumes nothing.
use Rattle.std.specs.Prelude.{Option, Some, None}
use mathlib.Core.Path.{◌≡◌, refl, sym, ap, ap₂, ◌∙◌, subst}
use Prim.Native.Nat.{ℕ, zero, suc, ◌+◌, ◌-◌, ◌≤◌, ◌<◌}
use native.Mathlib.Omega.{arith}
use mathlib.Core.Bool.{Bool, true, false, not, ◌&&◌, ◌||◌, cond, true≢false}
use mathlib.Core.List.{List, [], ◌∷◌}
use lib.Dec.{T, leb, ltb, eqb}
use lib.Ieee.{Float}
use borrow.Author.Tests.{eqb-true, eqb-false, le-leb, lt-leb, leb-true, ltb-true}
use Rattle.frame.specs.Frames.{frame_of}
use Rattle.playback_position.specs.Positions.{within}
use Rattle.playback_state_manager.specs.declared.PlaybackState.TheVariants as state
use Rattle.transport.specs.declared.Transport.{Transport}
use Rattle.transport.specs.Moves.{under, back, landed, forward, backward, wraps}
use Rattle.transport.proofs.Wraps.{under_inside, under_end, back_inside, back_start}
use Rattle.transport.proofs.Steps.{landed_inside, forward_going, backward_looped, backward_plain}
use Rattle.resampler.specs.declared.RecentFrame.{RecentFrame}
use Rattle.resampler.specs.Windows.{push}
use Rattle.sound_update.specs.declared.Slice.{Slice}
use Rattle.sound_update.specs.declared.Moving.{Moving}
use Rattle.sound_update.specs.declared.Wraps.{Wraps}
use Rattle.sound_update.specs.Updates.{pushed, stepped, raised, counted, updated, updates}
use Rattle.sound_track.specs.declared.Track.{Track}
use Rattle.sound_track.specs.Tracks.{track_of, wraps_at, next, nexts, counted_at, counts, On, roomy, far}
use Rattle.sound_track.specs.Contiguous.{seen, ahead, contiguous_of}
use Rattle.sound_track.proofs.Tracks.{on_next, on_nexts, next_far, stays_on, nexts_within}

abbrev on : Option (ℕ × ℕ) → ℕ → Transport
on loop p = record { position = p; loop_region = loop; playing = true }

abbrev way : Option (ℕ × ℕ) → ℕ → ℕ → Bool → Track
way loop o n b = track_of loop (record { start = o; num_frames = n; backwards = b })

-- if the track has no loop, the step does not wrap
abbrev Going : Track → ℕ → Type 0
Going k p = k.looped ≡ false → wraps_at k p ≡ false

-- ---- one step

step_by : (b : Bool) (loop : Option (ℕ × ℕ)) (o n p : ℕ) → T (within n loop) → On (way loop o n b) p → Going (way loop o n b) p
    → cond b (backward (on loop p)) (forward n (on loop p)) ≡ on loop (next (way loop o n b) p)
step_by true None o n p w h r =
    let e = r refl in
    backward_plain (on None p) refl refl (eqb-false p 0 e) ∙ ap (λ (t : Bool). on None (cond t (n - 1) (p - 1))) (sym e)
step_by false None o n p w h r =
    let e = r refl in
    forward_going n (on None p) refl
    ∙ landed_inside n (on None p) (p + 1) (more p n (h.below refl) (eqb-false (p + 1) n e))
    ∙ ap (λ (t : Bool). on None (cond t 0 (p + 1))) (sym e)
  where
    more : (p n : ℕ) → p < n → (p + 1 ≡ n → ⊥) → p + 1 < n
    more p n h d = omega arith
step_by true (Some (s, e)) o n p w h r = backward_looped (on (Some (s, e)) p) s e _ refl refl (go (eqb p s) refl)
  where
    above : (s p : ℕ) → s ≤ p → (p ≡ s → ⊥) → s < p
    above s p h d = omega arith

    go : (t : Bool) → eqb p s ≡ t → back (Some (s, e)) p ≡ cond t (e - 1) (p - 1)
    go true t = back_start s e p h.some (eqb-true p s t)
    go false t = back_inside s e p (above s p (h.above refl) (eqb-false p s t))
step_by false (Some (s, e)) o n p w h r =
    forward_going n (on (Some (s, e)) p) refl
    ∙ ap (landed n (on (Some (s, e)) p)) (go (eqb (p + 1) e) refl)
    ∙ landed_inside n (on (Some (s, e)) p) (next (way (Some (s, e)) o n false) p) (on_next (way (Some (s, e)) o n false) p h).here
  where
    below : (p e : ℕ) → p < e → (p + 1 ≡ e → ⊥) → p + 1 < e
    below p e l d = omega arith

    go : (t : Bool) → eqb (p + 1) e ≡ t → under (Some (s, e)) (p + 1) ≡ cond t s (p + 1)
    go true t = ap (under (Some (s, e))) (eqb-true (p + 1) e t) ∙ under_end s e h.some
    go false t = under_inside s e (p + 1) (below p e (h.below refl) (eqb-false (p + 1) e t))

wraps_by : (b : Bool) (loop : Option (ℕ × ℕ)) (o n p : ℕ) → On (way loop o n b) p → Going (way loop o n b) p → wraps b (on loop p) ≡ wraps_at (way loop o n b) p
unfolding wraps
wraps_by true None o n p h r = sym (r refl)
wraps_by false None o n p h r = sym (r refl)
wraps_by true (Some (s, e)) o n p h r = go (eqb p s) refl
  where
    above : (s p : ℕ) → s ≤ p → (p ≡ s → ⊥) → s < p
    above s p h d = omega arith

    at : (s p : ℕ) → p ≡ s → p ≤ s
    at s p d = omega arith

    go : (t : Bool) → eqb p s ≡ t → leb p s ≡ t
    go true t = le-leb p s (at s p (eqb-true p s t))
    go false t = lt-leb p s (above s p (h.above refl) (eqb-false p s t))
wraps_by false (Some (s, e)) o n p h r = go (eqb (p + 1) e) refl
  where
    below : (p e : ℕ) → p < e → (p + 1 ≡ e → ⊥) → p + 1 < e
    below p e l d = omega arith

    at : (p e : ℕ) → p + 1 ≡ e → e ≤ p + 1
    at p e d = omega arith

    go : (t : Bool) → eqb (p + 1) e ≡ t → leb e (p + 1) ≡ t
    go true t = le-leb e (p + 1) (at p e (eqb-true (p + 1) e t))
    go false t = lt-leb e (p + 1) (below p e (h.below refl) (eqb-false (p + 1) e t))

-- which parts of a track come from the slice and which from the loop
pub record Fits (k : Track) (loop : Option (ℕ × ℕ)) (c : Slice) : Type 0 where
  pub is : k ≡ track_of loop c
  pub held : T (within c.num_frames loop)

start_is : (loop : Option (ℕ × ℕ)) (c : Slice) → (track_of loop c).start ≡ c.start
start_is None c = refl
start_is (Some (s, e)) c = refl

way_is : (loop : Option (ℕ × ℕ)) (c : Slice) → (track_of loop c).backwards ≡ c.backwards
way_is None c = refl
way_is (Some (s, e)) c = refl

module _ (k : Track) (loop : Option (ℕ × ℕ)) (c : Slice) (f : Fits k loop c) (p : ℕ) (o : On k p) (r : Going k p) where
  stepped_on : stepped c (on loop p) ≡ on loop (next k p)
  unfolding stepped
  stepped_on =
      step_by c.backwards loop c.start c.num_frames p f.held (subst (λ (k : Track). On k p) f.is o) (subst (λ (k : Track). Going k p) f.is r)
      ∙ ap (λ (k : Track). on loop (next k p)) (sym f.is)

  counted_on : (w : Wraps) → counted c (on loop p) w ≡ counted_at k p w
  unfolding counted
  counted_on w =
      let e : wraps c.backwards (on loop p) ≡ wraps_at k p =
      wraps_by c.backwards loop c.start c.num_frames p (subst (λ (k : Track). On k p) f.is o) (subst (λ (k : Track). Going k p) f.is r)
      ∙ ap (λ (k : Track). wraps_at k p) (sym f.is) in
      let d : k.backwards ≡ c.backwards = ap (λ (k : Track). k.backwards) f.is ∙ way_is loop c in
      ap₂ (λ (t b : Bool). record { forward = raised (t && not b) w.forward; backward = raised (t && b) w.backward }) e (sym d)

-- ---- one update

-- one update moves the contiguous window by one position
updated_contiguous : (snd : List Float) (k : Track) (m : Moving) (c : Slice) (w : Wraps) (q : ℕ) → Fits k m.transport.loop_region c → On k q → Going k (ahead k q)
    → updated snd c (contiguous_of snd k m w q) ≡ contiguous_of snd k m (counted_at k (ahead k q) w) (next k q)
unfolding updated pushed push
updated_contiguous snd k m c w q f o r =
    let b = next k q in
    let d₁ = next k b in
    let d = next k d₁ in
    let p = next k d in
    let loop = m.transport.loop_region in
    let op : On k p = on_next k d (on_next k d₁ (on_next k b (on_next k q o))) in
    let st : k.start ≡ c.start = ap (λ (k : Track). k.start) f.is ∙ start_is loop c in
    let l : ℕ → List RecentFrame = λ (x : ℕ). seen snd k.start b ∷ seen snd k.start d₁ ∷ seen snd k.start d ∷ record { frame = frame_of snd (x + p); frame_index = p } ∷ [] in
    ap₂ (λ (t : Transport) (u : Wraps). record { state = cond (not t.playing && false) state.Stopped m.state; transport = t; wraps = u; resampler = record { frames = l c.start; time_until_empty = 4 } })
    (stepped_on k loop c f p op r) (counted_on k loop c f p op r w)
    ∙ ap (λ (x : ℕ). record { state = m.state; transport = on loop (next k p); wraps = counted_at k p w; resampler = record { frames = l x; time_until_empty = 4 } }) (sym st)

-- ---- n updates

-- n steps and the window's four end on the track
pub record Inside (k : Track) (n q : ℕ) : Type 0 where
  pub on : On k q
  pub ends : k.looped ≡ false → 4 + n ≤ far k q

roomy_far : (l b : Bool) (s e n q : ℕ) → T (l || cond b (leb (s + 4 + n) q) (ltb (q + 4 + n) e)) → l ≡ false → 4 + n ≤ cond b (q - s) (e - 1 - q)
roomy_far true b s e n q h z = absurd (true≢false z)
roomy_far false true s e n q h z = go (leb (s + 4 + n) q) refl h
  where
    go : (t : Bool) → leb (s + 4 + n) q ≡ t → T t → 4 + n ≤ q - s
    go true t h = let x = leb-true (s + 4 + n) q t in omega arith
    go false t h = elim h [ ]
roomy_far false false s e n q h z = go (ltb (q + 4 + n) e) refl h
  where
    go : (t : Bool) → ltb (q + 4 + n) e ≡ t → T t → 4 + n ≤ e - 1 - q
    go true t h = let x = ltb-true (q + 4 + n) e t in omega arith
    go false t h = elim h [ ]

pub inside_of : (k : Track) (n q : ℕ) → On k q → T (roomy k n q) → Inside k n q
inside_of k n q o h = record { on = o; ends = roomy_far k.looped k.backwards k.low k.high n q h }

-- after m of m + n steps there is space for n
pub inside_rest : (m n : ℕ) (k : Track) (q : ℕ) → Inside k (m + n) q → Inside k n (nexts m k q)
inside_rest m n k q i = record { on = on_nexts m k q i.on; ends = λ e. (let h = i.ends e in let w = (nexts_within m k q i.on (omega arith)).left in omega arith) }

pub inside_first : (m n : ℕ) (k : Track) (q : ℕ) → Inside k (m + n) q → Inside k m q
inside_first m n k q i = record { on = i.on; ends = λ e. (let h = i.ends e in omega arith) }

-- n updates move it by n positions
pub updates_contiguous : (n : ℕ) (snd : List Float) (k : Track) (m : Moving) (c : Slice) (w : Wraps) (q : ℕ) → Fits k m.transport.loop_region c → Inside k n q
    → updates n snd c (contiguous_of snd k m w q) ≡ contiguous_of snd k m (counts n k (ahead k q) w) (nexts n k q)
unfolding updates nexts counts
updates_contiguous zero snd k m c w q f i = refl
updates_contiguous (suc n) snd k m c w q f i =
    ap (updates n snd c) (updated_contiguous snd k m c w q f i.on going)
    ∙ updates_contiguous n snd k m c (counted_at k (ahead k q) w) (next k q) f (record { on = on_next k q i.on; ends = more })
  where
    going : Going k (ahead k q)
    going e =
        let h = i.ends e in
        let l : far k (ahead k q) + 4 ≡ far k q = (nexts_within 4 k q i.on (omega arith)).left in
        stays_on k (ahead k q) (on_nexts 4 k q i.on) (omega arith)

    more : k.looped ≡ false → 4 + n ≤ far k (next k q)
    more e =
        let h = i.ends e in
        let l = next_far k q i.on (omega arith) in
        omega arith
