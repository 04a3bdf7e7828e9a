-- Each move keeps a transport well formed, a playing one inside its loop stays inside, and a seek never starts playing.
-- By the bounds of a wrapped position. Assumes nothing.
use Rattle.std.specs.Prelude.{Option, Some, None}
use Prim.Native.Nat.{ℕ, suc, ◌+◌, ◌-◌, ◌≤◌, ◌<◌}
use mathlib.Core.Path.{◌≡◌, refl, sym, ap, ◌∙◌, subst}
use mathlib.Core.Bool.{Bool, true, false, false≢true, not, ◌&&◌, ◌||◌}
use native.Mathlib.Nat.{le_trans, le_of_lt, lt_of_lt_of_le}
use native.Mathlib.Omega.{arith}
use lib.Dec.{T, leb, ltb, leb→le, ltb→lt, le→leb, lt→ltb}
use lib.Ieee.Fits.{and_i, and_l, and_r}
use borrow.Author.Tests.{ltb-true, leb-false}
use Rattle.numbers.specs.Frames.{most}
use Rattle.playback_position.specs.Positions.{within}
use Rattle.playback_position.proofs.Ranges.{ranged_parts}
use Rattle.transport.specs.declared.Transport.{Transport}
use Rattle.transport.specs.Moves.{cycled, under, over, back, first, landed, forward, backward, seek, reloop, opening, begun}
use Rattle.transport.specs.WellFormed.{well_formed_transport, WellFormedTransport, Inside}
use Rattle.transport.proofs.Wraps.{picked, wrapped_lt}
use Rattle.transport.proofs.Steps.{moved, forward_still, forward_going, backward_still, backward_going, backward_looped, landed_inside}

-- ---- the test and its facts

or_here : (b c : Bool) → T (not b || c) → b ≡ true → T c
or_here true c h e = h
or_here false c h e = absurd (false≢true e)

here_or : (b c : Bool) → (b ≡ true → T c) → T (not b || c)
here_or true c h = h refl
here_or false c h = tt

pub well_formed_transport_parts : (n : ℕ) (t : Transport) → T (well_formed_transport n t) → WellFormedTransport n t
well_formed_transport_parts n t h =
    let a = within n t.loop_region in
    let b = not t.playing || ltb t.position n in
    let c = leb t.position most in
    record {
      loop = and_l a b (and_l (a && b) c h);
      here = λ e. ltb→lt t.position n (or_here t.playing (ltb t.position n) (and_r a b (and_l (a && b) c h)) e);
      low = leb→le t.position most (and_r (a && b) c h);
    }

pub well_formed_transport_of : (n : ℕ) (t : Transport) → WellFormedTransport n t → T (well_formed_transport n t)
well_formed_transport_of n t h =
    let a = within n t.loop_region in
    let b = not t.playing || ltb t.position n in
    let c = leb t.position most in
    and_i (a && b) c
    (and_i a b h.loop (here_or t.playing (ltb t.position n) (λ e. lt→ltb t.position n (h.here e))))
    (le→leb t.position most h.low)

-- ---- bounds of a wrapped position

-- a wrapped position is inside the n frames
wrapped_in : (n s e a b : ℕ) → T (within n (Some (s, e))) → s + cycled a b (e - s) < n
wrapped_in n s e a b h =
    let r = ranged_parts n s e h in
    lt_of_lt_of_le (wrapped_lt s e a b r.more) r.inside

-- under and over keep a position at most m, if n is
pub under_le : (n m : ℕ) (r : Option (ℕ × ℕ)) (p : ℕ) → n ≤ m → T (within n r) → p ≤ m → under r p ≤ m
under_le n m None p k h l = l
under_le n m (Some (s, e)) p k h l =
    picked (λ x. x ≤ m) (leb e p) _ p (λ t. le_trans (le_of_lt (wrapped_in n s e p s h)) k) (λ t. l)

pub over_le : (n m : ℕ) (r : Option (ℕ × ℕ)) (p : ℕ) → n ≤ m → T (within n r) → p ≤ m → over r p ≤ m
over_le n m None p k h l = l
over_le n m (Some (s, e)) p k h l =
    picked (λ x. x ≤ m) (ltb p s) _ p (λ t. le_trans (le_of_lt (wrapped_in n s e p s h)) k) (λ t. l)

pub back_lt : (n : ℕ) (r : Option (ℕ × ℕ)) (p : ℕ) → T (within n r) → p < n → back r p < n
back_lt n None p h l = omega arith
back_lt n (Some (s, e)) p h l = picked (λ x. x < n) (leb p s) _ (p - 1) (λ t. wrapped_in n s e p (suc s) h) (λ t. omega arith)

-- ---- well formed stays well formed

both_left : (a b : Bool) → (a && b) ≡ true → a ≡ true
both_left true b e = refl
both_left false b e = e

both_right : (a b : Bool) → (a && b) ≡ true → b ≡ true
both_right true b e = e
both_right false b e = absurd (false≢true e)

landed_well_formed_transport : (n : ℕ) (t : Transport) (q : ℕ) → T (within n t.loop_region) → q ≤ most → WellFormedTransport n (landed n t q)
landed_well_formed_transport n t q h l = record { loop = h; here = λ e. ltb-true q n (both_right t.playing (ltb q n) e); low = l }

pub forward_well_formed_transport : (n : ℕ) (t : Transport) → n ≤ most → WellFormedTransport n t → WellFormedTransport n (forward n t)
forward_well_formed_transport n t k h = go t.playing refl
  where
    go : (b : Bool) → t.playing ≡ b → WellFormedTransport n (forward n t)
    go true e =
        let l = h.here e in
        subst (WellFormedTransport n) (sym (forward_going n t e))
        (landed_well_formed_transport n t _ h.loop (under_le n most t.loop_region (t.position + 1) k h.loop (omega arith)))
    go false e = subst (WellFormedTransport n) (sym (forward_still n t e)) h

pub backward_well_formed_transport : (n : ℕ) (t : Transport) → n ≤ most → WellFormedTransport n t → WellFormedTransport n (backward t)
backward_well_formed_transport n t k h = go t.playing refl
  where
    go : (b : Bool) → t.playing ≡ b → WellFormedTransport n (backward t)
    go true e =
        let l = back_lt n t.loop_region t.position h.loop (h.here e) in
        let s : WellFormedTransport n (moved t (back t.loop_region t.position) (not (first t.loop_region t.position))) =
        record { loop = h.loop; here = λ p. l; low = le_trans (le_of_lt l) k }
        in
        subst (WellFormedTransport n) (sym (backward_going t e)) s
    go false e = subst (WellFormedTransport n) (sym (backward_still t e)) h

pub seek_well_formed_transport : (n : ℕ) (t : Transport) (q : ℕ) → n ≤ most → WellFormedTransport n t → q ≤ most → WellFormedTransport n (seek n t q)
unfolding seek
seek_well_formed_transport n t q k h l =
    landed_well_formed_transport n t _ h.loop
    (picked (λ x. x ≤ most) (ltb t.position q) _ _
    (λ e. under_le n most t.loop_region q k h.loop l)
    (λ e. over_le n most t.loop_region q k h.loop l))

pub reloop_well_formed_transport : (n : ℕ) (t : Transport) (r : Option (ℕ × ℕ)) → T (within n r) → WellFormedTransport n t → WellFormedTransport n (reloop t r)
reloop_well_formed_transport n t r l h = record { loop = l; here = h.here; low = h.low }

pub opening_lt : (n : ℕ) (reverse : Bool) (start : ℕ) → start < n → opening n reverse start < n
opening_lt n reverse start h = picked (λ x. x < n) reverse (n - 1 - start) start (λ e. omega arith) (λ e. h)

pub begun_well_formed_transport : (n : ℕ) (reverse : Bool) (r : Option (ℕ × ℕ)) (start : ℕ) → n ≤ most → T (within n r) → start < n → WellFormedTransport n (begun n reverse r start)
begun_well_formed_transport n reverse r start k l h =
    let p = opening_lt n reverse start h in
    record { loop = l; here = λ e. p; low = le_trans (le_of_lt p) k }

-- ---- a seek never starts playing

pub seek_starts_nothing : (n : ℕ) (t : Transport) (q : ℕ) → (seek n t q).playing ≡ true → t.playing ≡ true
unfolding seek
seek_starts_nothing n t q e = both_left t.playing _ e

-- ---- inside the loop

pub forward_inside : (n s e : ℕ) (t : Transport) → e ≤ n → Inside s e t → Inside s e (forward n t)
forward_inside n s e t k h =
    subst (Inside s e)
    (sym (forward_going n t h.going ∙ ap (landed n t) (ap (λ (r : Option (ℕ × ℕ)). under r (t.position + 1)) h.loop) ∙ landed_inside n t q (lt_of_lt_of_le low k)))
    at_q
  where
    q : ℕ
    q = under (Some (s, e)) (t.position + 1)

    more : s < e
    more = let a = h.from in let b = h.to in omega arith

    low : under (Some (s, e)) (t.position + 1) < e
    low = picked (λ x. x < e) (leb e (t.position + 1)) _ _ (λ c. wrapped_lt s e _ s more) (λ c. leb-false e (t.position + 1) c)

    high : s ≤ under (Some (s, e)) (t.position + 1)
    high = let a = h.from in picked (λ x. s ≤ x) (leb e (t.position + 1)) _ _ (λ c. omega arith) (λ c. omega arith)

    at_q : Inside s e (moved t (under (Some (s, e)) (t.position + 1)) t.playing)
    at_q = record { loop = h.loop; going = h.going; from = high; to = low }

pub backward_inside : (s e : ℕ) (t : Transport) → Inside s e t → Inside s e (backward t)
backward_inside s e t h = subst (Inside s e) (sym (backward_looped t s e _ h.going h.loop refl)) at_q
  where
    more : s < e
    more = let a = h.from in let b = h.to in omega arith

    low : back (Some (s, e)) t.position < e
    low = let b = h.to in picked (λ x. x < e) (leb t.position s) _ _ (λ c. wrapped_lt s e _ (suc s) more) (λ c. omega arith)

    high : s ≤ back (Some (s, e)) t.position
    high = picked (λ x. s ≤ x) (leb t.position s) _ _ (λ c. omega arith) (λ c. let l = leb-false t.position s c in omega arith)

    at_q : Inside s e (moved t (back (Some (s, e)) t.position) t.playing)
    at_q = record { loop = h.loop; going = h.going; from = high; to = low }
