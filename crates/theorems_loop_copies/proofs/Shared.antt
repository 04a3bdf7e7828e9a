-- Each hall's half at its own box is that of one shared table, and a copy with the hall's own number has the same half. By induction on the steps. Assumes nothing.
use mathlib.Core.Path.{◌≡◌, refl, sym, ap, ap₂, ◌∙◌, subst}
use Prim.Native.Nat.{ℕ, ◌≤◌}
use native.Mathlib.Omega.{arith}
use mathlib.Core.Bool.{false}
use mathlib.Core.List.{List, [], ◌∷◌, ◌++◌}
use lib.ListN.{get_or, take-append-drop}
use lib.Ieee.{Float}
use Rattle.loop_table.specs.declared.Hall.{Hall}
use Rattle.loop_table.specs.declared.Hall.TheVariants as hall
use Rattle.loop_table.specs.declared.LoopSlot.{LoopSlot}
use Rattle.loop_table.specs.declared.LoopTable.{LoopTable}
use Rattle.loop_table.specs.Tables.{slot_of, empty, half, same, refused_write, refused_clear, written, cleared}
use Rattle.theorems_loop_table.specs.Calls.{Call, Write, Clear, Read, ByHall, World, next, after, table_after}
use Rattle.theorems_loop_table.proofs.Stores.{write_passed, clear_passed}
use Rattle.theorems_loop_table.proofs.Apart.{Alike, write_alike, clear_alike, changed_both, changed_one}
use Rattle.loop_copies.specs.declared.LoopCopy.{LoopCopy}
use Rattle.loop_copies.specs.Copies.{changes_of}
use Rattle.theorems_loop_copies.specs.Boxes.{OfTable, OfVoice, Step, At, Sends, Merges, Box, Boxes, put, asked, merging, stepped, after_steps, begun, shared_row, one_table, shared_table}
use Rattle.theorems_loop_copies.specs.Together.{Together, LastCopyCatches, NoneRefused}
use Rattle.theorems_loop_copies.proofs.Views.{View, view, picked, view_merged}
use Rattle.theorems_loop_copies.proofs.Reach.{Reached, by_hall, sent_good, merge_accepted, merge_is, merge_own}
use Rattle.theorems_loop_copies.proofs.Steps.{copies, Going, going_on, going_begun, going_all, put_own, put_other, put_copies}
use Rattle.theorems_loop_copies.proofs.Alone.{table_after_lem, merged_alike}

-- ---- one call of both halls' table

alike_turned : (h : Hall) (t u : LoopTable) → Alike h t u → Alike h u t
alike_turned h t u a = record { well_formed = sym a.well_formed; frames = sym a.frames; slots = sym a.slots }

own_call : (h : Hall) (q : Call) (t u : LoopTable) → Alike h t u → Alike h (table_after t h q) (table_after u h q)
unfolding written cleared
own_call h (Write k s e) t u a = changed_both h t u _ _ k (slot_of s e) (write_alike h t u k s e a) (write_passed t h k s e) (write_passed u h k s e) a
own_call h (Clear k) t u a = changed_both h t u _ _ k empty (clear_alike h t u k a) (clear_passed t h k) (clear_passed u h k) a
own_call h (Read k) t u a = a

other_call : (h g : Hall) (q : Call) (t u : LoopTable) → same h g ≡ false → Alike h t u → Alike h t (table_after u g q)
unfolding written cleared
other_call h g (Write k s e) t u d a = alike_turned h _ t (changed_one h g u t (refused_write u g k s e) k (slot_of s e) d (write_passed u g k s e) (alike_turned h t u a))
other_call h g (Clear k) t u d a = alike_turned h _ t (changed_one h g u t (refused_clear u g k) k empty d (clear_passed u g k) (alike_turned h t u a))
other_call h g (Read k) t u d a = a

-- ---- a sequence of steps

abbrev tables : Boxes → Hall → LoopTable
tables w h = (w.box h).copy.table

turned : (h g : Hall) → same h g ≡ false → same g h ≡ false
turned hall.A hall.A d = d
turned hall.A hall.B d = refl
turned hall.B hall.A d = refl
turned hall.B hall.B d = d

-- box g is replaced: what holds there, and what goes on holding at the other
at_box : (P : Hall → Box → Type 0) (g : Hall) (b : Box) (f : Hall → Box) → P g b → ((h : Hall) → same g h ≡ false → P h (f h)) → (h : Hall) → P h (put g b f h)
at_box P g b f p q =
    by_hall (λ (h : Hall). P h (put g b f h)) g (subst (P g) (sym (put_own g b f)) p) (λ h d. subst (P h) (sym (put_other g h b f (turned g h d))) (q h d))

module _ (snd : List Float) (n : ℕ) where
  abbrev Like : Boxes → World → Type 0
  Like w u = (h : Hall) → Alike h (tables w h) u.table

  shared_row_lem : (ss : List Step) (w : Boxes) (u : World) → Going n w ss → Like w u → Like (after_steps snd w ss) (after snd u (shared_row ss))
  shared_row_lem [] w u g a = a
  shared_row_lem (At q (OfTable c) ∷ ss) w u g a =
      shared_row_lem ss (stepped snd w (At q (OfTable c))) (next snd u (ByHall q c)) (going_on snd n (At q (OfTable c)) ss w g) (at_box (λ (h : Hall) (b : Box). Alike h b.copy.table (table_after u.table q c)) q (asked snd q (w.box q) (OfTable c)) w.box (subst (λ (t : LoopTable). Alike q t (table_after u.table q c)) (sym (table_after_lem q (w.box q).copy c)) (own_call q c (tables w q) u.table (a q))) (λ h d. other_call h q c (tables w h) u.table (turned q h d) (a h)))
  shared_row_lem (At q (OfVoice i p) ∷ ss) w u g a =
      shared_row_lem ss (stepped snd w (At q (OfVoice i p))) u (going_on snd n (At q (OfVoice i p)) ss w g) (at_box (λ (h : Hall) (b : Box). Alike h b.copy.table u.table) q (asked snd q (w.box q) (OfVoice i p)) w.box (a q) (λ h d. a h))
  shared_row_lem (Sends q ∷ ss) w u g a = shared_row_lem ss (stepped snd w (Sends q)) u (going_on snd n (Sends q) ss w g) a
  shared_row_lem (Merges q j ∷ ss) w u g a =
      shared_row_lem ss (stepped snd w (Merges q j)) u (going_on snd n (Merges q j) ss w g) (at_box (λ (h : Hall) (b : Box). Alike h b.copy.table u.table) q (merging (w.box q) (get_or w.sent j (w.box q).copy)) w.box (merged_alike n w g.reached q j u.table (a q)) (λ h d. a h))

-- ---- the theorems

table_ext : (t u : LoopTable) → t.num_frames ≡ u.num_frames → half hall.A t ≡ half hall.A u → half hall.B t ≡ half hall.B u → t ≡ u
table_ext t u e f g = built t ∙ ap₂ (λ (k : ℕ) (s : List LoopSlot). record { num_frames = k; slots = s }) e (ap₂ ◌++◌ f g) ∙ sym (built u)
  where
    built : (t : LoopTable) → t ≡ record { num_frames = t.num_frames; slots = half hall.A t ++ half hall.B t }
    built t = ap (λ (s : List LoopSlot). record { num_frames = t.num_frames; slots = s }) (sym (take-append-drop 8 t.slots))

pub together : Together
together snd n vs g ss q = table_ext (w.box g).copy.table shared (al g).frames (to hall.A q.of_a) (to hall.B q.of_b)
  where
    w : Boxes
    w = after_steps snd (begun n vs) ss

    shared : LoopTable
    shared = shared_table snd n (vs g) ss

    r : Reached n (copies w) w.sent
    r = (going_all snd n ss (begun n vs) (going_begun snd n vs ss q.few)).reached

    al : (h : Hall) → Alike h (tables w h) shared
    al = shared_row_lem snd n ss (begun n vs) (one_table n (vs g)) (going_begun snd n vs ss q.few) (λ h. record { well_formed = refl; frames = refl; slots = refl })

    to : (h : Hall) → changes_of h (w.box g).copy ≡ changes_of h (w.box h).copy → half h (tables w g) ≡ half h shared
    to h e = (r.here g).from h ∙ ap (r.hist h) e ∙ sym ((r.here h).from h) ∙ (al h).slots

pub last_copy_catches : LastCopyCatches
last_copy_catches snd n vs g h ss k q =
    ap (λ (b : Box). changes_of h b.copy) (put_own g new w.box)
    ∙ ap (changes_of h) (merge_is n (copies w) w.sent r g k)
    ∙ ap (λ (v : View). v.number) (view_merged h c d (r.here g).sixteen (sent_good n (copies w) w.sent r g k).sixteen)
    ∙ picked (λ (v : View). v.number ≡ r.bound h) (view h c) (view h d) (λ l. q.all ∙ r.own h) (λ l. same_number (changes_of h c) (changes_of h d) (r.bound h) (q.all ∙ r.own h) l ((r.here g).below h))
    ∙ sym (r.own h)
    ∙ sym (merge_own n (copies w) w.sent r g k h)
    ∙ ap (changes_of h) (put_copies g new w h)
  where
    w : Boxes
    w = after_steps snd (begun n vs) ss

    r : Reached n (copies w) w.sent
    r = (going_all snd n ss (begun n vs) (going_begun snd n vs ss q.few)).reached

    c : LoopCopy
    c = (w.box g).copy

    d : LoopCopy
    d = get_or w.sent k c

    new : Box
    new = merging (w.box g) d

    same_number : (x y z : ℕ) → y ≡ z → y ≤ x → x ≤ z → x ≡ z
    same_number x y z p l m = omega (arith, p, l, m)

pub none_refused : NoneRefused
none_refused snd n vs g ss k few =
    let w = after_steps snd (begun n vs) ss in
    merge_accepted n (copies w) w.sent (going_all snd n ss (begun n vs) (going_begun snd n vs ss few)).reached g k
