-- Wraps along a track: of one direction only, as many as the steps wrap, and raised at once. By induction on the steps. Assumes nothing.
use mathlib.Core.Path.{◌≡◌, refl, ap, ap₂, ◌∙◌}
use Prim.Native.Nat.{ℕ, zero, suc, ◌+◌, ◌≤◌, ◌<◌, min}
use native.Mathlib.Omega.{arith}
use mathlib.Core.Bool.{Bool, true, false, not, ◌&&◌, cond, true≢false, false≢true}
use lib.Dec.{ltb}
use borrow.Author.Tests.{ltb-true, ltb-false, lt-ltb, le-ltb}
use Rattle.sound_update.specs.declared.Wraps.{Wraps}
use Rattle.sound_update.specs.Updates.{raised}
use Rattle.sound_track.specs.declared.Track.{Track}
use Rattle.sound_track.specs.Tracks.{wraps_at, next, nexts, counted_at, counts, wraps_of, raised_by}

pub counts_add : (m n : ℕ) (k : Track) (p : ℕ) (w : Wraps) → counts (m + n) k p w ≡ counts n k (nexts m k p) (counts m k p w)
unfolding counts nexts
counts_add zero n k p w = ap (λ (m : ℕ). counts m k p w) (none n)
  where
    none : (n : ℕ) → 0 + n ≡ n
    none n = omega arith
counts_add (suc m) n k p w = ap (λ (m : ℕ). counts m k p w) (more m n) ∙ counts_add m n k (next k p) (counted_at k p w)
  where
    more : (m n : ℕ) → suc m + n ≡ suc (m + n)
    more m n = omega arith

-- ---- of one direction

raised_if : (t : Bool) (c : ℕ) → raised t c ≡ cond t (raised true c) c
raised_if true c = refl
raised_if false c = refl

once : (t : Bool) (r c : ℕ) → raised_by r (cond t (raised true c) c) ≡ raised_by (cond t (suc r) r) c
unfolding raised_by
once true r c = refl
once false r c = refl

-- a flag and its negation are not both set
only : (t b : Bool) → b ≡ false → (t && not b ≡ t) × (t && b ≡ false)
only true false e = (refl, refl)
only false false e = (refl, refl)
only t true e = absurd (true≢false e)

other : (t b : Bool) → b ≡ true → (t && not b ≡ false) × (t && b ≡ t)
other true true e = (refl, refl)
other false true e = (refl, refl)
other t false e = absurd (false≢true e)

pub counts_forth : (n : ℕ) (k : Track) (p : ℕ) (w : Wraps) → k.backwards ≡ false
    → counts n k p w ≡ record { forward = raised_by (wraps_of n k p) w.forward; backward = w.backward }
unfolding counts wraps_of raised_by
counts_forth zero k p w e = refl
counts_forth (suc n) k p w e =
    let t = wraps_at k p in
    let o = only t k.backwards e in
    counts_forth n k (next k p) (counted_at k p w) e
    ∙ ap₂ (λ (f b : ℕ). record { forward = f; backward = b })
    (ap (λ (s : Bool). raised_by (wraps_of n k (next k p)) (raised s w.forward)) o.0
    ∙ ap (raised_by (wraps_of n k (next k p))) (raised_if t w.forward)
    ∙ once t (wraps_of n k (next k p)) w.forward) (ap (λ (s : Bool). raised s w.backward) o.1)

pub counts_back : (n : ℕ) (k : Track) (p : ℕ) (w : Wraps) → k.backwards ≡ true
    → counts n k p w ≡ record { forward = w.forward; backward = raised_by (wraps_of n k p) w.backward }
unfolding counts wraps_of raised_by
counts_back zero k p w e = refl
counts_back (suc n) k p w e =
    let t = wraps_at k p in
    let o = other t k.backwards e in
    counts_back n k (next k p) (counted_at k p w) e
    ∙ ap₂ (λ (f b : ℕ). record { forward = f; backward = b })
    (ap (λ (s : Bool). raised s w.forward) o.0)
    (ap (λ (s : Bool). raised_by (wraps_of n k (next k p)) (raised s w.backward)) o.1
    ∙ ap (raised_by (wraps_of n k (next k p))) (raised_if t w.backward)
    ∙ once t (wraps_of n k (next k p)) w.backward)

-- ---- raised at once

raised_more : (c : ℕ) → c < 4294967295 → raised true c ≡ c + 1
raised_more c h = ap (λ (t : Bool). cond t (c + 1) c) (lt-ltb c 4294967295 h)

raised_still : (c : ℕ) → 4294967295 ≤ c → raised true c ≡ c
raised_still c h = ap (λ (t : Bool). cond t (c + 1) c) (le-ltb c 4294967295 h)

raised_sum : (n c : ℕ) → c + n < 4294967295 → raised_by n c ≡ c + n
unfolding raised_by
raised_sum zero c h = none c
  where
    none : (c : ℕ) → c ≡ c + 0
    none c = omega arith
raised_sum (suc n) c h = ap (raised_by n) (raised_more c (less c n h)) ∙ raised_sum n (c + 1) (more c n h) ∙ same c n
  where
    less : (c n : ℕ) → c + suc n < 4294967295 → c < 4294967295
    less c n h = omega arith

    more : (c n : ℕ) → c + suc n < 4294967295 → c + 1 + n < 4294967295
    more c n h = omega arith

    same : (c n : ℕ) → c + 1 + n ≡ c + suc n
    same c n = omega arith

raised_top : (n c : ℕ) → c ≤ 4294967295 → 4294967295 ≤ c + n → raised_by n c ≡ 4294967295
unfolding raised_by
raised_top zero c l h = same c l h
  where
    same : (c : ℕ) → c ≤ 4294967295 → 4294967295 ≤ c + 0 → c ≡ 4294967295
    same c l h = omega arith
raised_top (suc n) c l h = go (ltb c 4294967295) refl (raised_top n)
  where
    over : (c n : ℕ) → 4294967295 ≤ c + suc n → 4294967295 ≤ c + 1 + n
    over c n h = omega arith

    still : (c n : ℕ) → 4294967295 ≤ c → 4294967295 ≤ c + n
    still c n h = omega arith

    go : (t : Bool) → ltb c 4294967295 ≡ t → ((c : ℕ) → c ≤ 4294967295 → 4294967295 ≤ c + n → raised_by n c ≡ 4294967295) → raised_by n (raised true c) ≡ 4294967295
    go true e ih = let k = ltb-true c 4294967295 e in ap (raised_by n) (raised_more c k) ∙ ih (c + 1) (omega arith) (over c n h)
    go false e ih = let k = ltb-false c 4294967295 e in ap (raised_by n) (raised_still c k) ∙ ih c l (still c n k)

pub raised_min : (n c : ℕ) → c ≤ 4294967295 → raised_by n c ≡ min (c + n) 4294967295
raised_min n c l = go (ltb (c + n) 4294967295) refl
  where
    below : (s : ℕ) → s < 4294967295 → s ≡ min s 4294967295
    below s h = omega arith

    full : (s : ℕ) → 4294967295 ≤ s → 4294967295 ≡ min s 4294967295
    full s h = omega arith

    go : (t : Bool) → ltb (c + n) 4294967295 ≡ t → raised_by n c ≡ min (c + n) 4294967295
    go true e = let h = ltb-true (c + n) 4294967295 e in raised_sum n c h ∙ below (c + n) h
    go false e = let h = ltb-false (c + n) 4294967295 e in raised_top n c l h ∙ full (c + n) h
