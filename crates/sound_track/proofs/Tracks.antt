-- Positions of a track: one step, n steps at once, and that they stay on it. Both directions at once: what counts is the distance to the
-- step that wraps. By induction on the steps. Assumes nothing.
use mathlib.Core.Path.{◌≡◌, refl, sym, ap, ◌∙◌, subst}
use Prim.Native.Nat.{ℕ, zero, suc, ◌+◌, ◌-◌, ◌%◌, ◌/◌, ◌≤◌, ◌<◌}
use native.Mathlib.Nat.{mod-eq_of_lt, mod-eq-sub-mod, div-eq_of_lt, div-eq-sub-div}
use native.Mathlib.Numerals.{add-one}
use native.Mathlib.Omega.{arith}
use mathlib.Core.Bool.{Bool, true, false, cond, false≢true, true≢false}
use lib.Dec.{T, leb, ltb, eqb}
use borrow.Author.Tests.{eq-eqb, ne_eqb, leb-true, ltb-true, ltb-false}
use Rattle.sound_track.specs.declared.Track.{Track}
use Rattle.sound_track.specs.Tracks.{wraps_at, next, nexts, wraps_of, far, straight, On}

-- where a track is entered again
abbrev pub entry : Track → ℕ
entry k = cond k.backwards (k.high - 1) k.low

-- n positions further, with no edge between
abbrev pub along : Track → ℕ → ℕ → ℕ
along k q n = cond k.backwards (q - n) (q + n)

is_true : (b : Bool) → T b → b ≡ true
is_true true t = refl
is_true false t = elim t [ ]

-- ---- over plain numbers, b for backwards

stays : (b : Bool) (l h q : ℕ) → (b ≡ false → q < h) → (b ≡ true → l ≤ q) → 0 < cond b (q - l) (h - 1 - q) → cond b (eqb q l) (eqb (q + 1) h) ≡ false
stays true l h q f g z = ne_eqb q l (off q l z)
  where
    off : (q l : ℕ) → 0 < q - l → q ≡ l → ⊥
    off q l z e = omega arith
stays false l h q f g z = ne_eqb (q + 1) h (off q h z)
  where
    off : (q h : ℕ) → 0 < h - 1 - q → q + 1 ≡ h → ⊥
    off q h z e = omega arith

turned : (b : Bool) (l h q : ℕ) → (b ≡ false → q < h) → (b ≡ true → l ≤ q) → cond b (q - l) (h - 1 - q) ≡ 0 → cond b (eqb q l) (eqb (q + 1) h) ≡ true
turned true l h q f g z = eq-eqb q l (same q l (g refl) z)
  where
    same : (q l : ℕ) → l ≤ q → q - l ≡ 0 → q ≡ l
    same q l g z = omega arith
turned false l h q f g z = eq-eqb (q + 1) h (same q h (f refl) z)
  where
    same : (q h : ℕ) → q < h → h - 1 - q ≡ 0 → q + 1 ≡ h
    same q h f z = omega arith

less : (b : Bool) (l h q : ℕ) → 0 < cond b (q - l) (h - 1 - q) → cond b (cond b (q - 1) (q + 1) - l) (h - 1 - cond b (q - 1) (q + 1)) + 1 ≡ cond b (q - l) (h - 1 - q)
less true l h q z = omega arith
less false l h q z = omega arith

here_on : (b : Bool) (l h n q : ℕ) → q < n → h ≤ n → 0 < cond b (q - l) (h - 1 - q) → cond b (q - 1) (q + 1) < n
here_on true l h n q o i z = omega arith
here_on false l h n q o i z = omega arith

below_on : (b : Bool) (l h q : ℕ) → 0 < cond b (q - l) (h - 1 - q) → b ≡ false → cond b (q - 1) (q + 1) < h
below_on true l h q z e = absurd (true≢false e)
below_on false l h q z e = omega arith

above_on : (b : Bool) (l h q : ℕ) → 0 < cond b (q - l) (h - 1 - q) → b ≡ true → l ≤ cond b (q - 1) (q + 1)
above_on true l h q z e = omega arith
above_on false l h q z e = absurd (false≢true e)

here_in : (b : Bool) (l h n : ℕ) → l < h → h ≤ n → cond b (h - 1) l < n
here_in true l h n s i = omega arith
here_in false l h n s i = omega arith

below_in : (b : Bool) (l h : ℕ) → l < h → b ≡ false → cond b (h - 1) l < h
below_in true l h s e = omega arith
below_in false l h s e = s

above_in : (b : Bool) (l h : ℕ) → l < h → b ≡ true → l ≤ cond b (h - 1) l
above_in true l h s e = omega arith
above_in false l h s e = omega arith

far_in : (b : Bool) (l h : ℕ) → l < h → cond b (cond b (h - 1) l - l) (h - 1 - cond b (h - 1) l) + 1 ≡ h - l
far_in true l h s = omega arith
far_in false l h s = omega arith

further : (b : Bool) (q n : ℕ) → cond b (cond b (q - 1) (q + 1) - n) (cond b (q - 1) (q + 1) + n) ≡ cond b (q - suc n) (q + suc n)
further true q n = omega arith
further false q n = omega arith

nowhere : (b : Bool) (q : ℕ) → q ≡ cond b (q - 0) (q + 0)
nowhere true q = omega arith
nowhere false q = omega arith

-- ---- one step

module _ (k : Track) (q : ℕ) (o : On k q) where
  pub stays_on : 0 < far k q → wraps_at k q ≡ false
  stays_on z = stays k.backwards k.low k.high q o.below o.above z

  pub goes_round : far k q ≡ 0 → wraps_at k q ≡ true
  goes_round z = turned k.backwards k.low k.high q o.below o.above z

  pub next_along : 0 < far k q → next k q ≡ along k q 1
  next_along z = ap (λ (t : Bool). cond t (entry k) (along k q 1)) (stays_on z)

  pub next_entry : far k q ≡ 0 → next k q ≡ entry k
  next_entry z = ap (λ (t : Bool). cond t (entry k) (along k q 1)) (goes_round z)

  pub next_far : 0 < far k q → far k (next k q) + 1 ≡ far k q
  next_far z = ap (λ (x : ℕ). far k x + 1) (next_along z) ∙ less k.backwards k.low k.high q z

  pub on_entry : On k (entry k)
  on_entry =
      record {
        here = here_in k.backwards k.low k.high k.count o.some o.inside;
        below = below_in k.backwards k.low k.high o.some;
        above = above_in k.backwards k.low k.high o.some;
        some = o.some;
        inside = o.inside;
        few = o.few;
      }

  on_along : 0 < far k q → On k (along k q 1)
  on_along z =
      record {
        here = here_on k.backwards k.low k.high k.count q o.here o.inside z;
        below = below_on k.backwards k.low k.high q z;
        above = above_on k.backwards k.low k.high q z;
        some = o.some;
        inside = o.inside;
        few = o.few;
      }

  -- by whether it wraps
  pub far_or_not : (P : Type 0) → (far k q ≡ 0 → P) → (0 < far k q → P) → P
  far_or_not P z s = go (ltb 0 (far k q)) refl
    where
      none : (n : ℕ) → n ≤ 0 → n ≡ 0
      none n h = omega arith

      go : (b : Bool) → ltb 0 (far k q) ≡ b → P
      go true e = s (ltb-true 0 (far k q) e)
      go false e = z (none (far k q) (ltb-false 0 (far k q) e))

  -- the position after one on the track is on the track
  pub on_next : On k (next k q)
  on_next =
      far_or_not (On k (next k q)) (λ z. subst (On k) (sym (next_entry z)) on_entry) (λ s. subst (On k) (sym (next_along s)) (on_along s))

-- a loop length, from where the track is entered
entry_far : (k : Track) → k.low < k.high → far k (entry k) + 1 ≡ k.high - k.low
entry_far k s = far_in k.backwards k.low k.high s

-- ---- n steps

pub on_nexts : (n : ℕ) (k : Track) (q : ℕ) → On k q → On k (nexts n k q)
unfolding nexts
on_nexts zero k q o = o
on_nexts (suc n) k q o = on_nexts n k (next k q) (on_next k q o)

pub nexts_add : (m n : ℕ) (k : Track) (q : ℕ) → nexts (m + n) k q ≡ nexts n k (nexts m k q)
unfolding nexts
nexts_add zero n k q = ap (λ (m : ℕ). nexts m k q) (none n)
  where
    none : (n : ℕ) → 0 + n ≡ n
    none n = omega arith
nexts_add (suc m) n k q = ap (λ (m : ℕ). nexts m k q) (more m n) ∙ nexts_add m n k (next k q)
  where
    more : (m n : ℕ) → suc m + n ≡ suc (m + n)
    more m n = omega arith

-- n steps that do not wrap
pub record Within (n : ℕ) (k : Track) (q : ℕ) : Type 0 where
  pub place : nexts n k q ≡ along k q n
  pub turns : wraps_of n k q ≡ 0
  pub left : far k (nexts n k q) + n ≡ far k q

pub nexts_within : (n : ℕ) (k : Track) (q : ℕ) → On k q → n ≤ far k q → Within n k q
unfolding nexts wraps_of
nexts_within zero k q o h = record { place = nowhere k.backwards q; turns = refl; left = omega arith }
nexts_within (suc n) k q o h =
    let z : 0 < far k q = omega arith in
    let e = next_along k q o z in
    let f = next_far k q o z in
    let i = nexts_within n k (next k q) (on_next k q o) (omega arith) in
    let l = i.left in
    record {
      place = i.place ∙ ap (λ (x : ℕ). along k x n) e ∙ further k.backwards q n;
      turns = ap (λ (t : Bool). cond t (suc (wraps_of n k (next k q))) (wraps_of n k (next k q))) (stays_on k q o z) ∙ i.turns;
      left = omega arith;
    }

-- n steps that do
pub record Beyond (n : ℕ) (k : Track) (q : ℕ) : Type 0 where
  pub place : nexts n k q ≡ along k (entry k) ((n - far k q - 1) % (k.high - k.low))
  pub turns : wraps_of n k q ≡ suc ((n - far k q - 1) / (k.high - k.low))

abbrev Over : ℕ → Track → Type 0
Over n k = (q : ℕ) → On k q → far k q < n → Beyond n k q

-- n steps from where the track is entered
record Around (n : ℕ) (k : Track) : Type 0 where
  place : nexts n k (entry k) ≡ along k (entry k) (n % (k.high - k.low))
  turns : wraps_of n k (entry k) ≡ n / (k.high - k.low)

around : (n : ℕ) (k : Track) → On k (entry k) → Over n k → Around n k
around n k o ih = go (ltb n r) refl
  where
    r : ℕ
    r = k.high - k.low

    f : far k (entry k) + 1 ≡ r
    f = entry_far k o.some

    same : (n f r : ℕ) → f + 1 ≡ r → r ≤ n → n - f - 1 ≡ n - r
    same n f r e h = omega arith

    pos : (f r : ℕ) → f + 1 ≡ r → 0 < r
    pos f r e = omega arith

    under : (n f r : ℕ) → f + 1 ≡ r → n < r → n ≤ f
    under n f r e h = omega arith

    past : (n f r : ℕ) → f + 1 ≡ r → r ≤ n → f < n
    past n f r e h = omega arith

    go : (b : Bool) → ltb n r ≡ b → Around n k
    go true t =
        let h = ltb-true n r t in
        let w = nexts_within n k (entry k) o (under n (far k (entry k)) r f h) in
        record { place = w.place ∙ ap (along k (entry k)) (sym (mod-eq_of_lt h)); turns = w.turns ∙ sym (div-eq_of_lt h) }
    go false t =
        let h = ltb-false n r t in
        let w = ih (entry k) o (past n (far k (entry k)) r f h) in
        let s = same n (far k (entry k)) r f h in
        record {
          place = w.place ∙ ap (λ (x : ℕ). along k (entry k) (x % r)) s ∙ ap (along k (entry k)) (sym (mod-eq-sub-mod h));
          turns = w.turns ∙ ap (λ (x : ℕ). suc (x / r)) s ∙ sym (div-eq-sub-div (pos (far k (entry k)) r f) h ∙ add-one ((n - r) / r));
        }

over_more : (n : ℕ) (k : Track) (q : ℕ) → On k q → far k q < suc n → Over n k → Beyond (suc n) k q
unfolding nexts wraps_of
over_more n k q o h ih = far_or_not k q o (Beyond (suc n) k q) turn stay
  where
    r : ℕ
    r = k.high - k.low

    turn : far k q ≡ 0 → Beyond (suc n) k q
    turn z =
        let a = around n k (on_entry k q o) ih in
        let s : n ≡ suc n - far k q - 1 = omega arith in
        record {
          place = ap (nexts n k) (next_entry k q o z) ∙ a.place ∙ ap (λ (x : ℕ). along k (entry k) (x % r)) s;
          turns =
              ap (λ (t : Bool). cond t (suc (wraps_of n k (next k q))) (wraps_of n k (next k q))) (goes_round k q o z)
              ∙ ap suc (ap (wraps_of n k) (next_entry k q o z) ∙ a.turns ∙ ap (λ (x : ℕ). x / r) s);
        }

    stay : 0 < far k q → Beyond (suc n) k q
    stay z =
        let f = next_far k q o z in
        let w = ih (next k q) (on_next k q o) (omega arith) in
        let s : n - far k (next k q) - 1 ≡ suc n - far k q - 1 = omega arith in
        record {
          place = w.place ∙ ap (λ (x : ℕ). along k (entry k) (x % r)) s;
          turns = ap (λ (t : Bool). cond t (suc (wraps_of n k (next k q))) (wraps_of n k (next k q))) (stays_on k q o z) ∙ w.turns ∙ ap (λ (x : ℕ). suc (x / r)) s;
        }

pub nexts_beyond : (n : ℕ) (k : Track) → Over n k
nexts_beyond zero k q o h = absurd (bad (far k q) h)
  where
    bad : (f : ℕ) → f < 0 → ⊥
    bad f h = omega arith
nexts_beyond (suc n) k q o h = over_more n k q o h (nexts_beyond n k)

-- ---- as the code computes it

-- forward
module _ (n : ℕ) (k : Track) (q : ℕ) (o : On k q) (forth : k.backwards ≡ false) where
  pub far_forth : far k q ≡ k.high - 1 - q
  far_forth = ap (λ (b : Bool). cond b (q - k.low) (k.high - 1 - q)) forth

  pub forth_on : q + n < k.high → (nexts n k q ≡ q + n) × (wraps_of n k q ≡ 0)
  forth_on h =
      let f = far_forth in
      let w = nexts_within n k q o (omega arith) in
      (w.place ∙ ap (λ (b : Bool). cond b (q - n) (q + n)) forth, w.turns)

  pub forth_over : k.high ≤ q + n
      → (nexts n k q ≡ k.low + (q + n - k.high) % (k.high - k.low)) × (wraps_of n k q ≡ suc ((q + n - k.high) / (k.high - k.low)))
  forth_over h =
      let f = far_forth in
      let l = o.below forth in
      let w = nexts_beyond n k q o (omega arith) in
      let s : n - far k q - 1 ≡ q + n - k.high = omega arith in
      let r = k.high - k.low in (
        w.place ∙ ap (λ (b : Bool). cond b (cond b (k.high - 1) k.low - (n - far k q - 1) % r) (cond b (k.high - 1) k.low + (n - far k q - 1) % r)) forth
            ∙ ap (λ (x : ℕ). k.low + x % r) s,
        w.turns ∙ ap (λ (x : ℕ). suc (x / r)) s,
      )

  pub forth_once : k.high ≤ q + n → q + n - k.high < k.high - k.low → k.low + (q + n - k.high) ≡ nexts n k q
  forth_once h l = sym ((forth_over h).0 ∙ ap (λ (x : ℕ). k.low + x) (mod-eq_of_lt l))

-- backward
module _ (n : ℕ) (k : Track) (q : ℕ) (o : On k q) (back : k.backwards ≡ true) where
  pub far_back : far k q ≡ q - k.low
  far_back = ap (λ (b : Bool). cond b (q - k.low) (k.high - 1 - q)) back

  pub back_on : k.low + n ≤ q → (nexts n k q ≡ q - n) × (wraps_of n k q ≡ 0)
  back_on h =
      let f = far_back in
      let w = nexts_within n k q o (omega arith) in
      (w.place ∙ ap (λ (b : Bool). cond b (q - n) (q + n)) back, w.turns)

  pub back_over : q < k.low + n
      → (nexts n k q ≡ k.high - 1 - (k.low + n - q - 1) % (k.high - k.low)) × (wraps_of n k q ≡ suc ((k.low + n - q - 1) / (k.high - k.low)))
  back_over h =
      let f = far_back in
      let l = o.above back in
      let w = nexts_beyond n k q o (omega arith) in
      let s : n - far k q - 1 ≡ k.low + n - q - 1 = omega arith in
      let r = k.high - k.low in (
        w.place ∙ ap (λ (b : Bool). cond b (cond b (k.high - 1) k.low - (n - far k q - 1) % r) (cond b (k.high - 1) k.low + (n - far k q - 1) % r)) back
            ∙ ap (λ (x : ℕ). k.high - 1 - x % r) s,
        w.turns ∙ ap (λ (x : ℕ). suc (x / r)) s,
      )

  pub back_once : q < k.low + n → k.low + n - q - 1 < k.high - k.low → k.high - 1 - (k.low + n - q - 1) ≡ nexts n k q
  back_once h l = sym ((back_over h).0 ∙ ap (λ (x : ℕ). k.high - 1 - x) (mod-eq_of_lt l))

-- n straight steps, which leave the window's four frames before the step that wraps
pub straight_far : (k : Track) (n q : ℕ) → T (straight k n q) → n + 4 ≤ far k q
straight_far k n q h = go k.backwards h
  where
    go : (b : Bool) → T (cond b (leb (k.low + 4 + n) q) (ltb (q + 4 + n) k.high)) → n + 4 ≤ cond b (q - k.low) (k.high - 1 - q)
    go true h = let l = leb-true (k.low + 4 + n) q (is_true _ h) in omega arith
    go false h = let l = ltb-true (q + 4 + n) k.high (is_true _ h) in omega arith
