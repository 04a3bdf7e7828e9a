-- What the counts of wraps mean: a step inside the loop either moves by one and counts nothing, or wraps at the edge, by L, and counts one.
-- By induction on the updates, with both sides kept as sums; a block's updates are as many as its steps. Assumes nothing.
use Rattle.std.specs.Prelude.{Option, Some}
use mathlib.Core.Path.{◌≡◌, refl, sym, ap, ap₂, ◌∙◌, subst}
use Prim.Native.Nat.{ℕ, zero, suc, ◌+◌, ◌-◌, ◌*◌, ◌≤◌, ◌<◌}
use native.Mathlib.Nat.{le_refl, le_trans, lt_of_le_of_lt, add-zero}
use native.Mathlib.Omega.{arith}
use mathlib.Core.Bool.{Bool, true, false, not, ◌&&◌, cond, and-true, and-false}
use mathlib.Core.List.{List}
use lib.Dec.{T, leb, ltb}
use lib.ListN.{length}
use lib.Ieee.{Float}
use borrow.Author.Tests.{leb-true, leb-false, ltb-false}
use Rattle.playback_position.specs.Positions.{within}
use Rattle.playback_position.proofs.Ranges.{ranged_parts}
use Rattle.transport.specs.declared.Transport.{Transport}
use Rattle.transport.specs.Moves.{under, back, wraps, forward, backward}
use Rattle.transport.specs.WellFormed.{Inside}
use Rattle.transport.proofs.Wraps.{under_inside, under_end, back_inside, back_start}
use Rattle.transport.proofs.Steps.{forward_going, backward_looped, wraps_on, wraps_back}
use Rattle.transport.proofs.WellFormed.{forward_inside, backward_inside}
use Rattle.sound_update.specs.declared.Moving.{Moving}
use Rattle.sound_update.specs.declared.Slice.{Slice}
use Rattle.sound_update.specs.Updates.{raised, stepped, counted, updated, updates}
use Rattle.sound_state.specs.declared.StaticSound.{StaticSound}
use Rattle.sound_state.specs.Voices.{length_of_slice, slice_of}
use Rattle.sound_state.specs.WellFormed.{well_formed_for}
use Rattle.sound_state.proofs.WellFormed.{well_formed_for_parts}
use Rattle.sound_block.specs.declared.Signals.{Signals}
use Rattle.sound_block.specs.Blocks.{begun}
use Rattle.static_sound.specs.Entries.{holds, room}
use Rattle.static_sound.proofs.Refusals.{accepted_parts}
use Rattle.static_sound.proofs.Entries.{processed_passed, into_passed}
use Rattle.theorems.specs.LoopWraps.{Fits, UpdatesFit, BlocksFit, MixesFit}
use Rattle.theorems.proofs.Steps.{steps_made}
use Rattle.theorems.proofs.Plain.{mix_steps_made}

-- ---- a count

-- raised and still below its limit, it is one more
raised_more : (n : ℕ) → raised true n < 4294967295 → raised true n ≡ n + 1
raised_more n h = go (ltb n 4294967295) refl h
  where
    full : 4294967295 ≤ n → n < 4294967295 → ⊥
    full a b = omega arith

    go : (b : Bool) → ltb n 4294967295 ≡ b → cond b (n + 1) n < 4294967295 → cond b (n + 1) n ≡ n + 1
    go true e k = refl
    go false e k = absurd (full (ltb-false n 4294967295 e) k)

raised_grows : (b : Bool) (n : ℕ) → n ≤ raised b n
raised_grows b n = go (b && ltb n 4294967295)
  where
    go : (t : Bool) → n ≤ cond t (n + 1) n
    go true = omega arith
    go false = le_refl n

module _ (snd : List Float) (c : Slice) where
  updated_grows : (m : Moving) → let w = updated snd c m in (m.wraps.forward ≤ w.wraps.forward) × (m.wraps.backward ≤ w.wraps.backward)
  unfolding updated counted
  updated_grows m =
      let w = wraps c.backwards m.transport in
      (raised_grows (w && not c.backwards) m.wraps.forward, raised_grows (w && c.backwards) m.wraps.backward)

  updates_grow : (n : ℕ) (m : Moving) → let w = updates n snd c m in (m.wraps.forward ≤ w.wraps.forward) × (m.wraps.backward ≤ w.wraps.backward)
  unfolding updates
  updates_grow zero m = (le_refl m.wraps.forward, le_refl m.wraps.backward)
  updates_grow (suc n) m =
      let a = updated_grows m in
      let b = updates_grow n (updated snd c m) in
      (le_trans a.0 b.0, le_trans a.1 b.1)

-- ---- plain numbers: l is the loop's length, a and b are counts

turn_on : (s e l p a : ℕ) → s + l ≡ e → p + 1 ≡ e → s + l * (a + 1) ≡ p + 1 + l * a
turn_on s e l p a f g = ring s l a ∙ ap (λ (x : ℕ). x + l * a) (f ∙ sym g)
  where
    ring : (s l a : ℕ) → s + l * (a + 1) ≡ s + l + l * a
    ring s l a = omega arith

turn_back : (s e l a : ℕ) → s < e → s + l ≡ e → e - 1 + 1 + l * a ≡ s + l * (a + 1)
turn_back s e l a h f = ap (λ (x : ℕ). x + l * a) (up s e h ∙ sym f) ∙ sym (ring s l a)
  where
    up : (s e : ℕ) → s < e → e - 1 + 1 ≡ e
    up s e h = omega arith

    ring : (s l a : ℕ) → s + l * (a + 1) ≡ s + l + l * a
    ring s l a = omega arith

sums_on : (p p1 q n x y z : ℕ) → p1 + y ≡ p + 1 + z → q + x ≡ p1 + n + y → q + x ≡ p + suc n + z
sums_on p p1 q n x y z f g = omega arith

sums_back : (p p1 q n x y z : ℕ) → p1 + 1 + z ≡ p + y → q + n + y ≡ p1 + x → q + suc n + z ≡ p + x
sums_back p p1 q n x y z f g = omega arith

-- the difference of two counts
module _ (l a b : ℕ) (h : a ≤ b) where
  split : l * b ≡ l * a + l * (b - a)
  split = ap (λ (x : ℕ). l * x) (more a b h) ∙ ring l a (b - a)
    where
      more : (a b : ℕ) → a ≤ b → b ≡ a + (b - a)
      more a b h = omega arith

      ring : (l a d : ℕ) → l * (a + d) ≡ l * a + l * d
      ring l a d = omega arith

  less_on : (q p n : ℕ) → q + l * b ≡ p + n + l * a → q + l * (b - a) ≡ p + n
  less_on q p n e = go (l * a) (l * (b - a)) (ap (λ (x : ℕ). q + x) (sym split) ∙ e)
    where
      go : (x y : ℕ) → q + (x + y) ≡ p + n + x → q + y ≡ p + n
      go x y e = omega arith

  less_back : (q p n : ℕ) → q + n + l * a ≡ p + l * b → q + n ≡ p + l * (b - a)
  less_back q p n e = go (l * a) (l * (b - a)) (e ∙ ap (λ (x : ℕ). p + x) split)
    where
      go : (x y : ℕ) → q + n + x ≡ p + (x + y) → q + n ≡ p + y
      go x y e = omega arith

-- ---- one step inside the loop

module _ (s e : ℕ) where
  more_of : (p : ℕ) → s ≤ p → p < e → s < e
  more_of p f t = omega arith

  length_of : s < e → s + (e - s) ≡ e
  length_of h = omega arith

  edge_on : (p a : ℕ) → s ≤ p → p < e → (b : Bool) → leb e (p + 1) ≡ b → raised b a < 4294967295
      → under (Some (s, e)) (p + 1) + (e - s) * raised b a ≡ p + 1 + (e - s) * a
  edge_on p a f t true k h =
      let l = leb-true e (p + 1) k in
      let met : p + 1 ≡ e = omega arith in
      ap₂ (λ (x y : ℕ). x + (e - s) * y) (ap (under (Some (s, e))) met ∙ under_end s e (more_of p f t)) (raised_more a h)
      ∙ turn_on s e (e - s) p a (length_of (more_of p f t)) met
  edge_on p a f t false k h = ap (λ (x : ℕ). x + (e - s) * a) (under_inside s e (p + 1) (leb-false e (p + 1) k))

  edge_back : (p a : ℕ) → s ≤ p → p < e → (b : Bool) → leb p s ≡ b → raised b a < 4294967295
      → back (Some (s, e)) p + 1 + (e - s) * a ≡ p + (e - s) * raised b a
  edge_back p a f t true k h =
      let l = leb-true p s k in
      let met : p ≡ s = omega arith in
      ap (λ (x : ℕ). x + 1 + (e - s) * a) (back_start s e p (more_of p f t) met)
      ∙ turn_back s e (e - s) a (more_of p f t) (length_of (more_of p f t))
      ∙ sym (ap₂ (λ (x y : ℕ). x + (e - s) * y) met (raised_more a h))
  edge_back p a f t false k h =
      let l = leb-false p s k in
      ap (λ (x : ℕ). x + 1 + (e - s) * a) (back_inside s e p l) ∙ ap (λ (x : ℕ). x + (e - s) * a) (up p l)
    where
      up : (p : ℕ) → s < p → p - 1 + 1 ≡ p
      up p l = omega arith

  -- ---- updates

  module _ (snd : List Float) (c : Slice) (k : e ≤ c.num_frames) where
    updated_inside : (m : Moving) → Inside s e m.transport → Inside s e (updated snd c m).transport
    unfolding updated stepped
    updated_inside m h = go c.backwards
      where
        go : (b : Bool) → Inside s e (cond b (backward m.transport) (forward c.num_frames m.transport))
        go true = backward_inside s e m.transport h
        go false = forward_inside c.num_frames s e m.transport k h

    record Ahead (n : ℕ) (m w : Moving) : Type 0 where
      fit : w.wraps.forward < 4294967295 → w.transport.position + (e - s) * w.wraps.forward ≡ m.transport.position + n + (e - s) * m.wraps.forward
      other : w.wraps.backward ≡ m.wraps.backward

    ahead_one : c.backwards ≡ false → (m : Moving) → Inside s e m.transport → Ahead 1 m (updated snd c m)
    unfolding updated counted stepped
    ahead_one d m h = record { fit = λ l. ap₂ (λ (x y : ℕ). x + (e - s) * y) place count ∙ edge_on p a h.from h.to (leb e (p + 1)) refl (subst (λ (x : ℕ). x < 4294967295) count l); other = still }
      where
        t : Transport
        t = m.transport

        p : ℕ
        p = m.transport.position

        a : ℕ
        a = m.wraps.forward

        count : raised (wraps c.backwards t && not c.backwards) a ≡ raised (leb e (p + 1)) a
        count =
            ap (λ (b : Bool). raised (wraps b t && not b) a) d
            ∙ ap (λ (b : Bool). raised b a) (and-true (wraps false t) ∙ wraps_on t s e h.going h.loop)

        still : raised (wraps c.backwards t && c.backwards) m.wraps.backward ≡ m.wraps.backward
        still =
            ap (λ (b : Bool). raised (wraps b t && b) m.wraps.backward) d
            ∙ ap (λ (b : Bool). raised b m.wraps.backward) (and-false (wraps false t))

        place : (cond c.backwards (backward t) (forward c.num_frames t)).position ≡ under (Some (s, e)) (p + 1)
        place =
            ap (λ (b : Bool). (cond b (backward t) (forward c.num_frames t)).position) d
            ∙ ap (λ (t : Transport). t.position) (forward_going c.num_frames t h.going)
            ∙ ap (λ (r : Option (ℕ × ℕ)). under r (p + 1)) h.loop

    ahead : c.backwards ≡ false → (n : ℕ) (m : Moving) → Inside s e m.transport → Ahead n m (updates n snd c m)
    unfolding updates
    ahead d zero m h = record { fit = λ l. ap (λ (x : ℕ). x + (e - s) * m.wraps.forward) (sym (add-zero m.transport.position)); other = refl }
    ahead d (suc n) m h =
        let u = updated snd c m in
        let w = updates n snd c u in
        let x = ahead_one d m h in
        let y = ahead d n u (updated_inside m h) in
        record {
          fit = λ l. sums_on m.transport.position u.transport.position w.transport.position n ((e - s) * w.wraps.forward) ((e - s) * u.wraps.forward) ((e - s) * m.wraps.forward)
              (x.fit (lt_of_le_of_lt (updates_grow snd c n u).0 l)) (y.fit l);
          other = y.other ∙ x.other;
        }

    record Astern (n : ℕ) (m w : Moving) : Type 0 where
      fit : w.wraps.backward < 4294967295 → w.transport.position + n + (e - s) * m.wraps.backward ≡ m.transport.position + (e - s) * w.wraps.backward
      other : w.wraps.forward ≡ m.wraps.forward

    astern_one : c.backwards ≡ true → (m : Moving) → Inside s e m.transport → Astern 1 m (updated snd c m)
    unfolding updated counted stepped
    astern_one d m h =
        record {
          fit = λ l. ap (λ (x : ℕ). x + 1 + (e - s) * a) place
              ∙ edge_back p a h.from h.to (leb p s) refl (subst (λ (x : ℕ). x < 4294967295) count l)
              ∙ sym (ap (λ (y : ℕ). p + (e - s) * y) count);
          other = still;
        }
      where
        t : Transport
        t = m.transport

        p : ℕ
        p = m.transport.position

        a : ℕ
        a = m.wraps.backward

        count : raised (wraps c.backwards t && c.backwards) a ≡ raised (leb p s) a
        count =
            ap (λ (b : Bool). raised (wraps b t && b) a) d
            ∙ ap (λ (b : Bool). raised b a) (and-true (wraps true t) ∙ wraps_back t s e h.going h.loop)

        still : raised (wraps c.backwards t && not c.backwards) m.wraps.forward ≡ m.wraps.forward
        still =
            ap (λ (b : Bool). raised (wraps b t && not b) m.wraps.forward) d
            ∙ ap (λ (b : Bool). raised b m.wraps.forward) (and-false (wraps true t))

        place : (cond c.backwards (backward t) (forward c.num_frames t)).position ≡ back (Some (s, e)) p
        place =
            ap (λ (b : Bool). (cond b (backward t) (forward c.num_frames t)).position) d
            ∙ ap (λ (t : Transport). t.position) (backward_looped t s e (back (Some (s, e)) p) h.going h.loop refl)

    astern : c.backwards ≡ true → (n : ℕ) (m : Moving) → Inside s e m.transport → Astern n m (updates n snd c m)
    unfolding updates
    astern d zero m h = record { fit = λ l. ap (λ (x : ℕ). x + (e - s) * m.wraps.backward) (add-zero m.transport.position); other = refl }
    astern d (suc n) m h =
        let u = updated snd c m in
        let w = updates n snd c u in
        let x = astern_one d m h in
        let y = astern d n u (updated_inside m h) in
        record {
          fit = λ l. sums_back m.transport.position u.transport.position w.transport.position n ((e - s) * w.wraps.backward) ((e - s) * u.wraps.backward) ((e - s) * m.wraps.backward)
              (x.fit (lt_of_le_of_lt (updates_grow snd c n u).1 l)) (y.fit l);
          other = y.other ∙ x.other;
        }

pub updates_fit : UpdatesFit
updates_fit snd c s e n m x =
    let k = x.fits in
    let h = x.inside in
    let w = updates n snd c m in
    let g = updates_grow snd c n m in
    record {
      forward = λ d. less_on (e - s) m.wraps.forward w.wraps.forward g.0 w.transport.position m.transport.position n ((ahead s e snd c k d.0 n m h).fit d.1);
      backward = λ d. less_back (e - s) m.wraps.backward w.wraps.backward g.1 w.transport.position m.transport.position n ((astern s e snd c k d.0 n m h).fit d.1);
      other = (λ d. (ahead s e snd c k d n m h).other, λ d. (astern s e snd c k d n m h).other);
      grows = g;
    }

-- ---- blocks

-- a loop of a well formed voice ends in its N frames
loop_fits : (len : ℕ) (v : StaticSound) (s e : ℕ) → T (well_formed_for len v) → Inside s e v.moving.transport → e ≤ length_of_slice v.setup
loop_fits len v s e o h =
    (ranged_parts (length_of_slice v.setup) s e (subst (λ (r : Option (ℕ × ℕ)). T (within (length_of_slice v.setup) r)) h.loop (well_formed_for_parts len v o).0.transport_well_formed.loop)).inside

-- the signals change neither the transport nor the counts
begun_fits : (g : Signals) (v : StaticSound) (s e n : ℕ) (b : Bool) (w : Moving) → Fits s e b n (begun g v).moving w → Fits s e b n v.moving w
unfolding begun
begun_fits g v s e n b w f = record { forward = f.forward; backward = f.backward; other = f.other; grows = f.grows }

begun_inside : (g : Signals) (v : StaticSound) (s e : ℕ) → Inside s e v.moving.transport → Inside s e (begun g v).moving.transport
unfolding begun
begun_inside g v s e h = h

-- from a voice that is well formed over the sound, to the result of as many updates as steps
made_fits : (snd : List Float) (g : Signals) (v : StaticSound) (s e n : ℕ) (w : Moving) → T (well_formed_for (length snd) v) → Inside s e v.moving.transport
    → w ≡ updates n snd (slice_of v) (begun g v).moving → Fits s e (slice_of v).backwards n v.moving w
made_fits snd g v s e n w o h m =
    begun_fits g v s e n (slice_of v).backwards w
    (subst (λ (w : Moving). Fits s e (slice_of v).backwards n (begun g v).moving w) (sym m)
    (updates_fit snd (slice_of v) s e n (begun g v).moving (record { fits = loop_fits (length snd) v s e o h; inside = begun_inside g v s e h })))

pub blocks_fit : BlocksFit
blocks_fit snd v dt b g out s e x =
    let r = x.accepted in
    let p = accepted_parts (length snd) v dt b (holds b out) (processed_passed snd v dt b g out r) in
    made_fits snd g v s e _ _ p.well_formed_for x.inside (steps_made snd v dt b g out r).made

pub mixes_fit : MixesFit
mixes_fit snd v dt b g mix from s e x =
    let r = x.accepted in
    let p = accepted_parts (length snd) v dt b (room from (length b.rate) mix) (into_passed snd v dt b g mix from r) in
    made_fits snd g v s e _ _ p.well_formed_for x.inside (mix_steps_made snd v dt b g mix from r).made
