-- Each box behaves as if it were alone: its own calls keep it equal to a table that nobody else uses, and nothing else touches its hall's half. By induction on the steps. Assumes nothing.
use mathlib.Core.Path.{◌≡◌, refl, sym, ap, ap₂, ◌∙◌, subst}
use Prim.Native.Nat.{ℕ}
use mathlib.Core.Bool.{Bool, true, false, ◌&&◌, cond}
use mathlib.Core.List.{List, [], ◌∷◌}
use lib.Dec.{T, eqb}
use lib.ListN.{get_or}
use lib.Ieee.{Float}
use lib.Ieee.Fits.{and_l, and_r}
use Rattle.numbers.specs.Lists.{all}
use Rattle.loop_table.specs.declared.Hall.{Hall}
use Rattle.loop_table.specs.declared.LoopSlot.{LoopSlot}
use Rattle.loop_table.specs.declared.LoopTable.{LoopTable}
use Rattle.loop_table.specs.Tables.{slot_of, empty, well_formed_table, half, same, changed, refused_write, refused_clear, written, cleared}
use Rattle.theorems_loop_table.specs.Calls.{Call, Write, Clear, Read, Event, World, answer_to, next, after, answers, only, table_after}
use Rattle.theorems_loop_table.specs.Apart.{concerns, takes_from}
use Rattle.theorems_loop_table.proofs.Apart.{Alike, AlikeFor, same_is, skipped, moved}
use Rattle.loop_copies.specs.declared.LoopCopy.{LoopCopy}
use Rattle.loop_copies.specs.Copies.{counted, copy_written, copy_cleared}
use Rattle.theorems_loop_copies.specs.Boxes.{Asked, OfTable, OfVoice, Step, At, Sends, Merges, Box, Boxes, event_of, world_of, copy_after, put, asked, merging, stepped, after_steps, begun, answers_at, alone_row, one_table}
use Rattle.theorems_loop_copies.specs.AsAlone.{AsAlone}
use Rattle.theorems_loop_copies.proofs.Views.{View}
use Rattle.theorems_loop_copies.proofs.Reach.{Reached, counted_table, sent_good, merge_is, good_merged, own_merged}
use Rattle.theorems_loop_copies.proofs.Steps.{copies, Going, going_on, going_begun, put_own, put_other}

-- ---- the table of a copy after a call is the table after that call

table_counted : (h : Hall) (c : LoopCopy) (m k : ℕ) (s : LoopSlot) → (counted h c (changed m c.table k s)).copy.table ≡ (changed m c.table k s).table
table_counted h c m k s = go (eqb m 0) refl
  where
    go : (b : Bool) → eqb m 0 ≡ b → (counted h c (changed m c.table k s)).copy.table ≡ (changed m c.table k s).table
    go true e = rw e (counted_table h c _)
    go false e = rw (e, e)

pub table_after_lem : (h : Hall) (c : LoopCopy) (q : Call) → (copy_after h c (OfTable q)).table ≡ table_after c.table h q
unfolding copy_written copy_cleared written cleared
table_after_lem h c (Write k s e) = table_counted h c (refused_write c.table h k s e) k (slot_of s e)
table_after_lem h c (Clear k) = table_counted h c (refused_clear c.table h k) k empty
table_after_lem h c (Read k) = refl

asked_world : (snd : List Float) (h : Hall) (b : Box) (a : Asked) → world_of (asked snd h b a) ≡ next snd (world_of b) (event_of h a)
asked_world snd h b (OfTable q) = ap (λ (t : LoopTable). record { table = t; voices = b.voices }) (table_after_lem h b.copy q)
asked_world snd h b (OfVoice i p) = refl

-- ---- a merge at the hall's own box does not change its half

pub merged_alike : (n : ℕ) (w : Boxes) (r : Reached n (copies w) w.sent) (h : Hall) (j : ℕ) (t : LoopTable) → Alike h (copies w h).table t
    → Alike h (merging (w.box h) (get_or w.sent j (w.box h).copy)).copy.table t
merged_alike n w r h j t a =
    let c = copies w h in
    let d = get_or w.sent j c in
    let e = merge_is n (copies w) w.sent r h j in
    let g = good_merged n r.bound r.hist c d (r.here h) (sent_good n (copies w) w.sent r h j) in
    let o = own_merged n r.bound r.hist h c d (r.here h) (sent_good n (copies w) w.sent r h j) (r.own h) in
    record {
      well_formed = ap (λ (x : LoopCopy). well_formed_table x.table) e ∙ g.well_formed ∙ sym (r.here h).well_formed ∙ a.well_formed;
      frames = ap (λ (x : LoopCopy). x.table.num_frames) e ∙ g.frames ∙ sym (r.here h).frames ∙ a.frames;
      slots = ap (λ (x : LoopCopy). half h x.table) e ∙ ap (λ (v : View). v.slots) o ∙ a.slots;
    }

-- ---- a sequence of steps

module _ (snd : List Float) (n : ℕ) (h : Hall) (i : ℕ) where
  abbrev R : World → World → Type 0
  R = AlikeFor snd h i

  turned : (w u : World) → R w u → R u w
  turned w u r = record { table = record { well_formed = sym r.table.well_formed; frames = sym r.table.frames; slots = sym r.table.slots }; voice = sym r.voice }

  abbrev concerning : Event → Bool
  concerning = concerns h i

  abbrev Claim : List Step → Type 0
  Claim ss =
      (w : Boxes) (u : World) → Going n w ss → R (world_of (w.box h)) u → T (all (takes_from h) (only concerning (alone_row h ss)))
      → (answers_at snd h concerning w ss ≡ answers snd concerning u (alone_row h ss)) × R (world_of ((after_steps snd w ss).box h)) (after snd u (alone_row h ss))

  -- a call at box q, as one at h
  abbrev Own : Asked → List Step → Boxes → World → Hall → Type 0
  Own a ss w u q =
      (cond (concerning (event_of q a)) (answer_to snd (world_of (w.box q)) (event_of q a) ∷ answers_at snd h concerning (stepped snd w (At q a)) ss) (answers_at snd h concerning (stepped snd w (At q a)) ss)
      ≡ answers snd concerning u (event_of q a ∷ alone_row h ss))
      × R (world_of ((after_steps snd (stepped snd w (At q a)) ss).box h)) (after snd u (event_of q a ∷ alone_row h ss))

  own_step : (a : Asked) (ss : List Step) → Claim ss → (w : Boxes) (u : World) → Going n w (At h a ∷ ss) → R (world_of (w.box h)) u
      → T (all (takes_from h) (only concerning (event_of h a ∷ alone_row h ss))) → Own a ss w u h
  own_step a ss rest w u g r t = go (concerning (event_of h a)) refl t
    where
      on : (x : World) → R (next snd (world_of (w.box h)) (event_of h a)) x → R (world_of ((stepped snd w (At h a)).box h)) x
      on x y =
          subst (λ (b : Box). R (world_of b) x) (sym (put_own h (asked snd h (w.box h) a) w.box)) (subst (λ (z : World). R z x) (sym (asked_world snd h (w.box h) a)) y)

      go : (b : Bool) → concerning (event_of h a) ≡ b → T (all (takes_from h) (cond b (event_of h a ∷ only concerning (alone_row h ss)) (only concerning (alone_row h ss))))
          → (cond b (answer_to snd (world_of (w.box h)) (event_of h a) ∷ answers_at snd h concerning (stepped snd w (At h a)) ss) (answers_at snd h concerning (stepped snd w (At h a)) ss)
          ≡ cond b (answer_to snd u (event_of h a) ∷ answers snd concerning (next snd u (event_of h a)) (alone_row h ss)) (answers snd concerning (next snd u (event_of h a)) (alone_row h ss)))
          × R (world_of ((after_steps snd (stepped snd w (At h a)) ss).box h)) (after snd (next snd u (event_of h a)) (alone_row h ss))
      go true d t =
          let m = moved snd h i (event_of h a) (world_of (w.box h)) u d (and_l (takes_from h (event_of h a)) (all (takes_from h) (only concerning (alone_row h ss))) t) r in
          let k = rest (stepped snd w (At h a)) (next snd u (event_of h a)) (going_on snd n (At h a) ss w g) (on (next snd u (event_of h a)) m.1) (and_r (takes_from h (event_of h a)) (all (takes_from h) (only concerning (alone_row h ss))) t) in
          (ap₂ ◌∷◌ m.0 k.0, k.1)
      go false d t =
          let e = event_of h a in
          let x = skipped snd h i e (world_of (w.box h)) u d r in
          let y = turned (next snd u e) (next snd (world_of (w.box h)) e) (skipped snd h i e u (next snd (world_of (w.box h)) e) d (turned (next snd (world_of (w.box h)) e) u x)) in
          rest (stepped snd w (At h a)) (next snd u e) (going_on snd n (At h a) ss w g) (on (next snd u e) y) t

  alone_row_lem : (ss : List Step) → Claim ss
  alone_row_lem [] w u g r t = (refl, r)
  alone_row_lem (At q a ∷ ss) w u g r t = at_step (alone_row_lem ss) (same h q) refl t
    where
      at_step : Claim ss → (b : Bool) → same h q ≡ b → T (all (takes_from h) (only concerning (cond b (event_of q a ∷ alone_row h ss) (alone_row h ss))))
          → (cond (b && concerning (event_of q a)) (answer_to snd (world_of (w.box q)) (event_of q a) ∷ answers_at snd h concerning (stepped snd w (At q a)) ss) (answers_at snd h concerning (stepped snd w (At q a)) ss)
          ≡ answers snd concerning u (cond b (event_of q a ∷ alone_row h ss) (alone_row h ss)))
          × R (world_of ((after_steps snd (stepped snd w (At q a)) ss).box h)) (after snd u (cond b (event_of q a ∷ alone_row h ss) (alone_row h ss)))
      at_step rest true d t =
          let e = same_is h q d in
          subst (Own a ss w u) e (own_step a ss rest w u (subst (λ (k : Hall). Going n w (At k a ∷ ss)) (sym e) g) r (subst (λ (k : Hall). T (all (takes_from h) (only concerning (event_of k a ∷ alone_row h ss)))) (sym e) t))
      at_step rest false d t =
          rest (stepped snd w (At q a)) u (going_on snd n (At q a) ss w g) (subst (λ (b : Box). R (world_of b) u) (sym (put_other q h (asked snd q (w.box q) a) w.box d)) r) t
  alone_row_lem (Sends q ∷ ss) w u g r t = alone_row_lem ss (stepped snd w (Sends q)) u (going_on snd n (Sends q) ss w g) r t
  alone_row_lem (Merges q j ∷ ss) w u g r t =
      alone_row_lem ss (stepped snd w (Merges q j)) u (going_on snd n (Merges q j) ss w g) (at_merge (same h q) refl) t
    where
      new : Box
      new = merging (w.box q) (get_or w.sent j (w.box q).copy)

      at_merge : (b : Bool) → same h q ≡ b → R (world_of (put q new w.box h)) u
      at_merge true d =
          subst
          (λ (k : Hall). R (world_of (put k (merging (w.box k) (get_or w.sent j (w.box k).copy)) w.box h)) u)
          (same_is h q d)
          (subst (λ (b : Box). R (world_of b) u) (sym (put_own h (merging (w.box h) (get_or w.sent j (w.box h).copy)) w.box)) (record { table = merged_alike n w g.reached h j u.table r.table; voice = r.voice }))
      at_merge false d = subst (λ (b : Box). R (world_of b) u) (sym (put_other q h new w.box d)) r

pub as_alone : AsAlone
as_alone snd n vs h i ss q =
    let p = alone_row_lem snd n h i ss (begun n vs) (one_table n (vs h)) (going_begun snd n vs ss q.few) (record { table = record { well_formed = refl; frames = refl; slots = refl }; voice = refl }) q.own in
    record { answered = p.0; slots = p.1.table.slots; voice = p.1.voice }
