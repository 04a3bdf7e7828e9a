-- Two boxes over a sequence of steps: what holds of all their copies goes on holding, as long as no number of changes is at its limit.
-- By cases on the step. Assumes nothing.
use mathlib.Core.Path.{◌≡◌, refl, subst}
use Prim.Native.Nat.{ℕ, ◌+◌, ◌≤◌, ◌<◌}
use native.Mathlib.Omega.{arith}
use mathlib.Core.Bool.{false}
use mathlib.Core.List.{List, [], ◌∷◌}
use lib.ListN.{length, get_or}
use lib.Ieee.{Float}
use Rattle.sound_state.specs.declared.StaticSound.{StaticSound}
use Rattle.loop_table.specs.declared.Hall.{Hall}
use Rattle.loop_table.specs.declared.Hall.TheVariants as hall
use Rattle.loop_table.specs.declared.LoopSlot.{LoopSlot}
use Rattle.loop_table.specs.Tables.{slot_of, empty, empty_table, well_formed_table, half, same, changed, refused_write, refused_clear, written, cleared}
use Rattle.theorems_loop_table.specs.Calls.{Write, Clear, Read}
use Rattle.theorems_loop_table.proofs.Stores.{write_passed, clear_passed}
use Rattle.loop_copies.specs.declared.LoopCopy.{LoopCopy}
use Rattle.loop_copies.specs.Copies.{empty_copy, changes_of, counted, copy_written, copy_cleared}
use Rattle.theorems_loop_copies.specs.Boxes.{Asked, OfTable, OfVoice, Step, At, Sends, Merges, Box, Boxes, copy_after, put, asked, merging, stepped, after_steps, begun}
use Rattle.theorems_loop_copies.proofs.Reach.{Good, Reached, with, by_hall, with_each, reached_like, counted_either, counted_own, raised_more, after_send, after_merge, merge_own, after_change}

-- ---- one call at a box

module _ (n : ℕ) (f : Hall → LoopCopy) (l : List LoopCopy) (r : Reached n f l) (h : Hall) where
  same_copies : (g : Hall) → f g ≡ with h (f h) f g
  same_copies g = with_each (λ (k : Hall) (c : LoopCopy). f k ≡ c) h (f h) f refl (λ k d. refl) g

  after_asked : (a : Asked) → changes_of h (f h) < 18446744073709551615 → Reached n (with h (copy_after h (f h) a) f) l
  unfolding copy_written copy_cleared written cleared
  after_asked (OfTable (Write k s e)) m = after_change n f l r h (refused_write (f h).table h k s e) k (slot_of s e) (write_passed (f h).table h k s e) m
  after_asked (OfTable (Clear k)) m = after_change n f l r h (refused_clear (f h).table h k) k empty (clear_passed (f h).table h k) m
  after_asked (OfTable (Read k)) m = reached_like n f (with h (f h) f) l same_copies r
  after_asked (OfVoice i p) m = reached_like n f (with h (f h) f) l same_copies r

-- a call raises its hall's number by one at most
counted_at_most : (h : Hall) (c : LoopCopy) (q k : ℕ) (s : LoopSlot) → changes_of h c < 18446744073709551615 → changes_of h (counted h c (changed q c.table k s)).copy ≤ changes_of h c + 1
counted_at_most h c q k s m =
    counted_either (λ (x : LoopCopy). changes_of h x ≤ changes_of h c + 1) h c q k s (λ z. omega (arith, counted_own h c (changed q c.table k s).table, raised_more (changes_of h c) m)) (omega arith)

one_at_most : (h : Hall) (c : LoopCopy) (a : Asked) → changes_of h c < 18446744073709551615 → changes_of h (copy_after h c a) ≤ changes_of h c + 1
unfolding copy_written copy_cleared written cleared
one_at_most h c (OfTable (Write k s e)) m = counted_at_most h c (refused_write c.table h k s e) k (slot_of s e) m
one_at_most h c (OfTable (Clear k)) m = counted_at_most h c (refused_clear c.table h k) k empty m
one_at_most h c (OfTable (Read k)) m = omega arith
one_at_most h c (OfVoice i p) m = omega arith

-- ---- a sequence of steps

abbrev pub copies : Boxes → Hall → LoopCopy
copies w h = (w.box h).copy

pub record Going (n : ℕ) (w : Boxes) (ss : List Step) : Type 0 where
  pub reached : Reached n (copies w) w.sent
  pub room : (h : Hall) → changes_of h (copies w h) + length ss ≤ 18446744073709551615

pub put_own : (h : Hall) (b : Box) (f : Hall → Box) → put h b f h ≡ b
put_own hall.A b f = refl
put_own hall.B b f = refl

pub put_other : (h g : Hall) (b : Box) (f : Hall → Box) → same g h ≡ false → put h b f g ≡ f g
put_other hall.A hall.A b f d = cc
put_other hall.A hall.B b f d = refl
put_other hall.B hall.A b f d = refl
put_other hall.B hall.B b f d = cc

pub put_copies : (h : Hall) (b : Box) (w : Boxes) (g : Hall) → with h b.copy (copies w) g ≡ (put h b w.box g).copy
put_copies hall.A b w hall.A = refl
put_copies hall.A b w hall.B = refl
put_copies hall.B b w hall.A = refl
put_copies hall.B b w hall.B = refl

module _ (snd : List Float) (n : ℕ) where
  pub going_on : (s : Step) (ss : List Step) (w : Boxes) → Going n w (s ∷ ss) → Going n (stepped snd w s) ss
  going_on (At h a) ss w g =
      record {
        reached = reached_like n _ (copies (stepped snd w (At h a))) w.sent (put_copies h (asked snd h (w.box h) a) w) (after_asked n (copies w) w.sent g.reached h a less);
        room = λ k. subst (λ (c : LoopCopy). changes_of k c + length ss ≤ 18446744073709551615) (put_copies h (asked snd h (w.box h) a) w k) (with_each (λ (q : Hall) (c : LoopCopy). changes_of q c + length ss ≤ 18446744073709551615) h (copy_after h (copies w h) a) (copies w) (omega (arith, one_at_most h (copies w h) a less, g.room h)) (λ q d. omega (arith, g.room q)) k);
      }
    where
      less : changes_of h (copies w h) < 18446744073709551615
      less = omega (arith, g.room h)
  going_on (Sends h) ss w g = record { reached = after_send n (copies w) w.sent g.reached h; room = λ k. omega (arith, g.room k) }
  going_on (Merges h j) ss w g =
      let b = merging (w.box h) (get_or w.sent j (w.box h).copy) in
      record {
        reached = reached_like n _ (copies (stepped snd w (Merges h j))) w.sent (put_copies h b w) (after_merge n (copies w) w.sent g.reached h j);
        room = λ k. subst (λ (c : LoopCopy). changes_of k c + length ss ≤ 18446744073709551615) (put_copies h b w k) (omega (arith, merge_own n (copies w) w.sent g.reached h j k, g.room k));
      }

  empty_good : Good n (λ h. 0) (λ h j. half h (empty_table n)) (empty_copy n)
  unfolding well_formed_table
  empty_good =
      record { well_formed = refl; frames = refl; sixteen = refl; below = by_hall (λ (h : Hall). changes_of h (empty_copy n) ≤ 0) hall.A (omega arith) none; from = λ h. refl }
    where
      none : (h : Hall) → same hall.A h ≡ false → changes_of h (empty_copy n) ≤ 0
      none hall.A d = omega arith
      none hall.B d = omega arith

  no_changes : (h : Hall) → changes_of h (empty_copy n) ≡ 0
  no_changes hall.A = refl
  no_changes hall.B = refl

  pub going_begun : (vs : Hall → ℕ → StaticSound) (ss : List Step) → length ss ≤ 18446744073709551615 → Going n (begun n vs) ss
  going_begun vs ss e =
      record {
        reached = record { bound = λ h. 0; hist = λ h j. half h (empty_table n); own = no_changes; here = λ h. empty_good; sent = λ k c l. absurd (omega (arith, l)) };
        room = λ h. omega (arith, e, no_changes h);
      }

  -- after a whole sequence
  pub going_all : (ss : List Step) (w : Boxes) → Going n w ss → Going n (after_steps snd w ss) []
  going_all [] w g = g
  going_all (s ∷ ss) w g = going_all ss (stepped snd w s) (going_on s ss w g)
