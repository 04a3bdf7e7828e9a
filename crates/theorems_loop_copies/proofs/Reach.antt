-- What holds for all copies that two boxes have or have sent: each has a half of each hall's own history, and no number is above the hall's own.
-- By induction on the steps. Assumes nothing.
use mathlib.Core.Path.{◌≡◌, refl, sym, ap, ◌∙◌, subst}
use Prim.Native.Nat.{ℕ, zero, suc, ◌+◌, ◌≤◌, ◌<◌}
use native.Mathlib.Omega.{arith}
use mathlib.Core.Bool.{Bool, true, false, ◌&&◌, cond}
use mathlib.Core.List.{List, ◌∷◌}
use lib.Dec.{eqb, ltb}
use lib.ListN.{length, get_or, length-set, get_or-eq_default}
use borrow.Author.Tests.{eqb-true, eq-eqb, ne_eqb, lt-ltb, ltb-true, ltb-false}
use Rattle.loop_table.specs.declared.Hall.{Hall}
use Rattle.loop_table.specs.declared.Hall.TheVariants as hall
use Rattle.loop_table.specs.declared.LoopSlot.{LoopSlot}
use Rattle.loop_table.specs.declared.LoopTable.{LoopTable}
use Rattle.loop_table.specs.Tables.{well_formed_table, half, same, changed}
use Rattle.theorems_loop_table.proofs.Stores.{Passed, changed_number, changed_either, changed_frames, changed_well_formed, changed_other}
use Rattle.loop_copies.specs.declared.LoopCopy.{LoopCopy}
use Rattle.loop_copies.specs.Copies.{changes_of, raised, counted_by, counted, refused_merge, merged, merged_copy}
use Rattle.theorems_loop_copies.specs.Merging.{Sixteen}
use Rattle.theorems_loop_copies.proofs.Views.{View, view, picked, pick_older, view_merged, sixteen_merged, well_formed_merged, Fit, accepted_of, merged_of}

-- a copy over n frames whose halves come from each hall's history, with numbers that the halls have reached
pub record Good (n : ℕ) (bound : Hall → ℕ) (hist : Hall → ℕ → List LoopSlot) (c : LoopCopy) : Type 0 where
  pub well_formed : well_formed_table c.table ≡ true
  pub frames : c.table.num_frames ≡ n
  pub sixteen : Sixteen c
  pub below : (h : Hall) → changes_of h c ≤ bound h
  pub from : (h : Hall) → half h c.table ≡ hist h (changes_of h c)

module _ (n : ℕ) (bound : Hall → ℕ) (hist : Hall → ℕ → List LoopSlot) where
  pub fits : (c d : LoopCopy) → Good n bound hist c → Good n bound hist d → Fit c d
  fits c d g k =
      record {
        ours = g.well_formed;
        theirs = k.well_formed;
        frames = g.frames ∙ sym k.frames;
        halves = λ h e. g.from h ∙ ap (hist h) e ∙ sym (k.from h);
      }

  -- a view from the history
  abbrev Old : Hall → View → Type 0
  Old h v = (v.number ≤ bound h) × (v.slots ≡ hist h v.number)

  pub good_merged : (c d : LoopCopy) → Good n bound hist c → Good n bound hist d → Good n bound hist (merged c d)
  good_merged c d g k =
      record {
        well_formed = well_formed_merged c d g.well_formed k.well_formed (g.frames ∙ sym k.frames);
        frames = g.frames;
        sixteen = sixteen_merged c d g.sixteen k.sixteen;
        below = λ h. (old h).0;
        from = λ h. (old h).1;
      }
    where
      old : (h : Hall) → Old h (view h (merged c d))
      old h =
          subst
          (Old h)
          (sym (view_merged h c d g.sixteen k.sixteen))
          (picked (Old h) (view h c) (view h d) (λ l. (k.below h, k.from h)) (λ l. (g.below h, g.from h)))

  -- at its own box a hall's half is the newest, so a merge does not change it
  pub own_merged : (h : Hall) (c d : LoopCopy) → Good n bound hist c → Good n bound hist d → changes_of h c ≡ bound h → view h (merged c d) ≡ view h c
  own_merged h c d g k e =
      view_merged h c d g.sixteen k.sixteen ∙ pick_older (view h c) (view h d) (subst (λ (m : ℕ). changes_of h d ≤ m) (sym e) (k.below h))

-- ---- the copies of both boxes, and those that were sent

pub record Reached (n : ℕ) (f : Hall → LoopCopy) (l : List LoopCopy) : Type 0 where
  pub bound : Hall → ℕ
  pub hist : Hall → ℕ → List LoopSlot
  pub own : (h : Hall) → changes_of h (f h) ≡ bound h
  pub here : (h : Hall) → Good n bound hist (f h)
  pub sent : (k : ℕ) (c : LoopCopy) → k < length l → Good n bound hist (get_or l k c)

abbrev pub with : Hall → LoopCopy → (Hall → LoopCopy) → Hall → LoopCopy
with h c f g = cond (same h g) c (f g)

-- a hall itself, and the other one
pub by_hall : (P : Hall → Type 0) (h : Hall) → P h → ((g : Hall) → same h g ≡ false → P g) → (g : Hall) → P g
by_hall P hall.A p q hall.A = p
by_hall P hall.A p q hall.B = q hall.B refl
by_hall P hall.B p q hall.A = q hall.A refl
by_hall P hall.B p q hall.B = p

-- what holds of the new copy at h, and of the other box's
pub with_each : (P : Hall → LoopCopy → Type 0) (h : Hall) (c : LoopCopy) (f : Hall → LoopCopy) → P h c → ((g : Hall) → same h g ≡ false → P g (f g)) → (g : Hall) → P g (with h c f g)
with_each P hall.A c f p q hall.A = p
with_each P hall.A c f p q hall.B = q hall.B refl
with_each P hall.B c f p q hall.A = q hall.A refl
with_each P hall.B c f p q hall.B = p

pub reached_like : (n : ℕ) (f k : Hall → LoopCopy) (l : List LoopCopy) → ((g : Hall) → f g ≡ k g) → Reached n f l → Reached n k l
reached_like n f k l e r =
    record {
      bound = r.bound;
      hist = r.hist;
      own = λ h. ap (changes_of h) (sym (e h)) ∙ r.own h;
      here = λ h. subst (Good n r.bound r.hist) (e h) (r.here h);
      sent = r.sent;
    }

module _ (n : ℕ) (f : Hall → LoopCopy) (l : List LoopCopy) (r : Reached n f l) where
  pub sent_good : (h : Hall) (k : ℕ) → Good n r.bound r.hist (get_or l k (f h))
  sent_good h k = go (ltb k (length l)) refl
    where
      go : (b : Bool) → ltb k (length l) ≡ b → Good n r.bound r.hist (get_or l k (f h))
      go true e = r.sent k (f h) (ltb-true k (length l) e)
      go false e = subst (Good n r.bound r.hist) (sym (get_or-eq_default l (f h) (ltb-false k (length l) e))) (r.here h)

  pub merge_accepted : (h : Hall) (k : ℕ) → refused_merge (f h) (get_or l k (f h)) ≡ 0
  merge_accepted h k = accepted_of (f h) (get_or l k (f h)) (fits n r.bound r.hist (f h) (get_or l k (f h)) (r.here h) (sent_good h k))

  pub merge_is : (h : Hall) (k : ℕ) → (merged_copy (f h) (get_or l k (f h))).copy ≡ merged (f h) (get_or l k (f h))
  merge_is h k = ap (λ x. x.copy) (merged_of (f h) (get_or l k (f h)) (merge_accepted h k))

  -- a box sends its copy
  pub after_send : (h : Hall) → Reached n f (f h ∷ l)
  after_send h = record { bound = r.bound; hist = r.hist; own = r.own; here = r.here; sent = one_more }
    where
      one_more : (k : ℕ) (c : LoopCopy) → k < length (f h ∷ l) → Good n r.bound r.hist (get_or (f h ∷ l) k c)
      one_more zero c g = r.here h
      one_more (suc k) c g = r.sent k c (omega (arith, g))

  -- a box merges a copy that was sent
  pub after_merge : (h : Hall) (k : ℕ) → Reached n (with h (merged_copy (f h) (get_or l k (f h))).copy f) l
  after_merge h k =
      record {
        bound = r.bound;
        hist = r.hist;
        own = with_each (λ (g : Hall) (c : LoopCopy). changes_of g c ≡ r.bound g) h _ f (subst (λ (c : LoopCopy). changes_of h c ≡ r.bound h) (sym (merge_is h k)) (ap (λ (v : View). v.number) (own_merged n r.bound r.hist h (f h) (get_or l k (f h)) (r.here h) (sent_good h k) (r.own h)) ∙ r.own h)) (λ g d. r.own g);
        here = with_each (λ (g : Hall) (c : LoopCopy). Good n r.bound r.hist c) h _ f (subst (Good n r.bound r.hist) (sym (merge_is h k)) (good_merged n r.bound r.hist (f h) (get_or l k (f h)) (r.here h) (sent_good h k))) (λ g d. r.here g);
        sent = r.sent;
      }

  -- and no hall's own number changes
  pub merge_own : (h : Hall) (k : ℕ) (g : Hall) → changes_of g (with h (merged_copy (f h) (get_or l k (f h))).copy f g) ≡ changes_of g (f g)
  unfolding after_merge
  merge_own h k g = (after_merge h k).own g ∙ sym (r.own g)

-- ---- a write or a clear at a box

pub counted_own : (h : Hall) (c : LoopCopy) (t : LoopTable) → changes_of h (counted_by h c t) ≡ raised (changes_of h c)
counted_own hall.A c t = refl
counted_own hall.B c t = refl

counted_other : (h g : Hall) (c : LoopCopy) (t : LoopTable) → same h g ≡ false → changes_of g (counted_by h c t) ≡ changes_of g c
counted_other hall.A hall.A c t d = cc
counted_other hall.A hall.B c t d = refl
counted_other hall.B hall.A c t d = refl
counted_other hall.B hall.B c t d = cc

pub counted_table : (h : Hall) (c : LoopCopy) (t : LoopTable) → (counted_by h c t).table ≡ t
counted_table hall.A c t = refl
counted_table hall.B c t = refl

pub raised_more : (m : ℕ) → m < 18446744073709551615 → raised m ≡ m + 1
raised_more m l = ap (λ (b : Bool). cond b (m + 1) m) (lt-ltb m 18446744073709551615 l)

pub counted_either : (P : LoopCopy → Type 0) (h : Hall) (c : LoopCopy) (m k : ℕ) (s : LoopSlot) → (m ≡ 0 → P (counted_by h c (changed m c.table k s).table)) → P c
    → P (counted h c (changed m c.table k s)).copy
counted_either P h c m k s y z = subst (λ (b : Bool). P (cond b (counted_by h c (changed m c.table k s).table) c)) (sym (ap (λ (x : ℕ). eqb x 0) (changed_number m k s c.table))) (go (eqb m 0) refl)
  where
    go : (b : Bool) → eqb m 0 ≡ b → P (cond b (counted_by h c (changed m c.table k s).table) c)
    go true e = y (eqb-true m 0 e)
    go false e = z

module _ (n : ℕ) (f : Hall → LoopCopy) (l : List LoopCopy) (r : Reached n f l) (h : Hall) where
  abbrev bound' : Hall → ℕ
  bound' g = cond (same h g) (r.bound h + 1) (r.bound g)

  abbrev hist' : List LoopSlot → Hall → ℕ → List LoopSlot
  hist' x g j = cond (same h g && eqb j (r.bound h + 1)) x (r.hist g j)

  bound_up : (g : Hall) → r.bound g ≤ bound' g
  bound_up g = by_hall (λ (k : Hall). r.bound k ≤ bound' k) h (own_up h) (λ k d. rw d (omega arith)) g
    where
      own_up : (h : Hall) → r.bound h ≤ cond (same h h) (r.bound h + 1) (r.bound h)
      own_up hall.A = omega arith
      own_up hall.B = omega arith

  bound_own : bound' h ≡ r.bound h + 1
  bound_own = go h
    where
      go : (h : Hall) → cond (same h h) (r.bound h + 1) (r.bound h) ≡ r.bound h + 1
      go hall.A = refl
      go hall.B = refl

  hist_own : (x : List LoopSlot) → hist' x h (r.bound h + 1) ≡ x
  hist_own x = go h (r.bound h + 1)
    where
      go : (h : Hall) (m : ℕ) → cond (same h h && eqb m m) x (r.hist h m) ≡ x
      go hall.A m = rw (eq-eqb m m refl)
      go hall.B m = rw (eq-eqb m m refl)

  hist_old : (x : List LoopSlot) (g : Hall) (j : ℕ) → j ≤ r.bound g → hist' x g j ≡ r.hist g j
  hist_old x g = by_hall (λ (k : Hall). (j : ℕ) → j ≤ r.bound k → hist' x k j ≡ r.hist k j) h (λ j e. own_old h j e) (λ k d j e. rw d) g
    where
      own_old : (h : Hall) (j : ℕ) → j ≤ r.bound h → cond (same h h && eqb j (r.bound h + 1)) x (r.hist h j) ≡ r.hist h j
      own_old hall.A j e = rw (ne_eqb j (r.bound hall.A + 1) (λ q. omega (arith, e, q)))
      own_old hall.B j e = rw (ne_eqb j (r.bound hall.B + 1) (λ q. omega (arith, e, q)))

  good_up : (x : List LoopSlot) (c : LoopCopy) → Good n r.bound r.hist c → Good n bound' (hist' x) c
  good_up x c g =
      record {
        well_formed = g.well_formed;
        frames = g.frames;
        sixteen = g.sixteen;
        below = λ k. omega (arith, g.below k, bound_up k);
        from = λ k. g.from k ∙ sym (hist_old x k (changes_of k c) (g.below k));
      }

  pub after_change : (m k : ℕ) (s : LoopSlot) → (m ≡ 0 → Passed h (f h).table k s) → changes_of h (f h) < 18446744073709551615
      → Reached n (with h (counted h (f h) (changed m (f h).table k s)).copy f) l
  after_change m k s p less =
      counted_either (λ (c : LoopCopy). Reached n (with h c f) l) h (f h) m k s (λ z. accepted z) unchanged
    where
      unchanged : Reached n (with h (f h) f) l
      unchanged =
          record {
            bound = r.bound;
            hist = r.hist;
            own = with_each (λ (g : Hall) (c : LoopCopy). changes_of g c ≡ r.bound g) h (f h) f (r.own h) (λ g d. r.own g);
            here = with_each (λ (g : Hall) (c : LoopCopy). Good n r.bound r.hist c) h (f h) f (r.here h) (λ g d. r.here g);
            sent = r.sent;
          }

      t : LoopTable
      t = (changed m (f h).table k s).table

      c : LoopCopy
      c = counted_by h (f h) t

      number : changes_of h c ≡ r.bound h + 1
      number = counted_own h (f h) t ∙ raised_more (changes_of h (f h)) less ∙ ap (λ (q : ℕ). q + 1) (r.own h)

      good : m ≡ 0 → Good n bound' (hist' (half h t)) c
      good z =
          record {
            well_formed = ap well_formed_table (counted_table h (f h) t) ∙ changed_well_formed m k s h (f h).table p ∙ (r.here h).well_formed;
            frames = ap (λ (q : LoopTable). q.num_frames) (counted_table h (f h) t) ∙ changed_frames m k s (f h).table ∙ (r.here h).frames;
            sixteen = ap (λ (q : LoopTable). length q.slots) (counted_table h (f h) t) ∙ changed_either m k s (λ (q : LoopTable). length q.slots ≡ 16) (f h).table (λ e. length-set (f h).table.slots k s ∙ (r.here h).sixteen) (r.here h).sixteen;
            below = by_hall (λ (g : Hall). changes_of g c ≤ bound' g) h (subst (λ (q : ℕ). changes_of h c ≤ q) (sym bound_own) (omega (arith, number))) (λ g d. subst (λ (q : ℕ). q ≤ bound' g) (sym (counted_other h g (f h) t d)) (omega (arith, (r.here h).below g, bound_up g)));
            from = by_hall (λ (g : Hall). half g c.table ≡ hist' (half h t) g (changes_of g c)) h own_half other_half;
          }
        where
          own_half : half h c.table ≡ hist' (half h t) h (changes_of h c)
          own_half = ap (half h) (counted_table h (f h) t) ∙ sym (hist_own (half h t)) ∙ ap (hist' (half h t) h) (sym number)

          other_half : (g : Hall) → same h g ≡ false → half g c.table ≡ hist' (half h t) g (changes_of g c)
          other_half g d =
              ap (half g) (counted_table h (f h) t)
              ∙ changed_other m k s g h (f h).table (turned h g d) p
              ∙ (r.here h).from g
              ∙ sym (hist_old (half h t) g (changes_of g (f h)) ((r.here h).below g))
              ∙ ap (hist' (half h t) g) (sym (counted_other h g (f h) t d))
            where
              turned : (h g : Hall) → same h g ≡ false → same g h ≡ false
              turned hall.A hall.A d = d
              turned hall.A hall.B d = refl
              turned hall.B hall.A d = refl
              turned hall.B hall.B d = d

      accepted : m ≡ 0 → Reached n (with h c f) l
      accepted z =
          record {
            bound = bound';
            hist = hist' (half h t);
            own = with_each (λ (g : Hall) (x : LoopCopy). changes_of g x ≡ bound' g) h c f (number ∙ sym bound_own) (λ g d. rw d (r.own g));
            here = with_each (λ (g : Hall) (x : LoopCopy). Good n bound' (hist' (half h t)) x) h c f (good z) (λ g d. good_up (half h t) (f g) (r.here g));
            sent = λ j x q. good_up (half h t) (get_or l j x) (r.sent j x q);
          }
