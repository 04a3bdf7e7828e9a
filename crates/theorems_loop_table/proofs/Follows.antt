-- A read of a slot follows the hall that writes it: what an accepted write or clear left in slot k stays there, since every other accepted change is of another slot.
-- By induction on the calls. Assumes nothing.
use mathlib.Core.Path.{◌≡◌, refl, sym, ap, ◌∙◌, subst}
use Prim.Native.Nat.{ℕ, ◌≤◌, ◌<◌}
use native.Mathlib.Omega.{arith}
use mathlib.Core.Bool.{Bool, true, false, not, ◌&&◌}
use mathlib.Core.List.{List, [], ◌∷◌}
use lib.Dec.{T, eqb, leb, ltb, leb→le, ltb→lt}
use lib.ListN.{length}
use lib.Seq.{get_or-set_same}
use lib.Ieee.{Float}
use lib.Ieee.Fits.{and_l, and_r}
use borrow.Author.Tests.{eq-eqb, ne_eqb, le-leb}
use Rattle.numbers.specs.Lists.{all}
use Rattle.loop_table.specs.declared.Hall.{Hall}
use Rattle.loop_table.specs.declared.Hall.TheVariants as hall
use Rattle.loop_table.specs.declared.LoopSlot.{LoopSlot}
use Rattle.loop_table.specs.declared.LoopTable.{LoopTable}
use Rattle.loop_table.specs.Tables.{slot_of, empty, is_empty, well_formed_table, same, owns, held_in, changed, refused_write, written, refused_clear, cleared, refused_read, found}
use Rattle.loop_table.proofs.Accepted.{write_accepted, clear_accepted}
use Rattle.theorems_loop_table.specs.Calls.{Write, Clear, Read, Event, ByHall, ByVoice, World, next, after}
use Rattle.theorems_loop_table.specs.Apart.{spares, ReadsFollow}
use Rattle.theorems_loop_table.proofs.Stores.{so, Passed, write_passed, clear_passed, changed_number, changed_well_formed, changed_held}

-- the table is well formed, and slot k has x
pub record Holds (k : ℕ) (x : LoopSlot) (t : LoopTable) : Type 0 where
  pub well_formed : well_formed_table t ≡ true
  pub held : held_in t k ≡ x

-- no slot is both halls'
apart : (h g : Hall) (j k : ℕ) → T (owns h k) → T (owns g j) → T (not (same h g && eqb j k)) → k ≡ j → ⊥
apart hall.A hall.A j k o p n e = subst (λ (b : Bool). T (not b)) (eq-eqb j k (sym e)) n
apart hall.A hall.B j k o p n e = let a = ltb→lt k 8 o in let b = leb→le 8 j p in omega arith
apart hall.B hall.A j k o p n e = let a = leb→le 8 k o in let b = ltb→lt j 8 p in omega arith
apart hall.B hall.B j k o p n e = subst (λ (b : Bool). T (not b)) (eq-eqb j k (sym e)) n

module _ (snd : List Float) (h : Hall) (k : ℕ) (o : T (owns h k)) (x : LoopSlot) where
  change_holds : (g : Hall) (n j : ℕ) (s : LoopSlot) (t : LoopTable) → T (not (same h g && eqb j k)) → (n ≡ 0 → Passed g t j s) → Holds k x t → Holds k x (changed n t j s).table
  change_holds g n j s t d p a =
      record {
        well_formed = changed_well_formed n j s g t p ∙ a.well_formed;
        held = changed_held n j s k t (λ z. apart h g j k o (p z).2.own d) ∙ a.held;
      }

  next_holds : (e : Event) (w : World) → T (spares h k e) → Holds k x w.table → Holds k x (next snd w e).table
  unfolding written cleared
  next_holds (ByHall g (Write j s e)) w d a = change_holds g (refused_write w.table g j s e) j (slot_of s e) w.table d (write_passed w.table g j s e) a
  next_holds (ByHall g (Clear j)) w d a = change_holds g (refused_clear w.table g j) j empty w.table d (clear_passed w.table g j) a
  next_holds (ByHall g (Read j)) w d a = a
  next_holds (ByVoice j p) w d a = a

  row_holds : (es : List Event) (w : World) → T (all (spares h k) es) → Holds k x w.table → Holds k x (after snd w es).table
  row_holds [] w d a = a
  row_holds (e ∷ es) w d a =
      row_holds es (next snd w e) (and_r (spares h k e) (all (spares h k) es) d) (next_holds e w (and_l (spares h k e) (all (spares h k) es) d) a)

-- an accepted change
accepted_holds : (h : Hall) (n k : ℕ) (s : LoopSlot) (t : LoopTable) → n ≡ 0 → length t.slots ≡ 16 → Passed h t k s → Holds k s (changed n t k s).table
accepted_holds h n k s t z l p =
    record {
      well_formed = changed_well_formed n k s h t (λ e. p) ∙ so (well_formed_table t) p.0;
      held = ap (λ (m : ℕ). held_in (changed m t k s).table k) z ∙ get_or-set_same t.slots k s empty (omega (arith, p.2.among));
    }

-- what a read finds
found_loop : (t : LoopTable) (k s e : ℕ) → k ≤ 15 → s < e → Holds k (slot_of s e) t → found t k ≡ record { slot = slot_of s e; refusal = 0 }
unfolding found refused_read
found_loop t k s e l m a = rw (a.well_formed, le-leb k 15 l, a.held, full s e m)
  where
    full : (s e : ℕ) → s < e → is_empty (slot_of s e) ≡ false
    full s e m = go (eqb s 0) (ne_eqb e 0 (λ z. omega arith))
      where
        go : (b : Bool) → eqb e 0 ≡ false → (b && eqb e 0) ≡ false
        go true z = z
        go false z = refl

found_none : (t : LoopTable) (k : ℕ) → k ≤ 15 → Holds k empty t → found t k ≡ record { slot = empty; refusal = 22 }
unfolding found refused_read
found_none t k l a = rw (a.well_formed, le-leb k 15 l, a.held)

below : (k : ℕ) → k < 16 → k ≤ 15
below k h = omega arith

pub reads_follow : ReadsFollow
unfolding written cleared
reads_follow snd h k w es x = (
  λ s e z.
      let n = refused_write w.table h k s e in
      let y = sym (changed_number n k (slot_of s e) w.table) ∙ z in
      let c = write_accepted w.table h k s e y in
      let first = accepted_holds h n k (slot_of s e) w.table y x.sixteen (write_passed w.table h k s e y) in
      found_loop (after snd w (ByHall h (Write k s e) ∷ es)).table k s e (below k c.2.among) (ltb→lt s e (and_l (ltb s e) (leb e w.table.num_frames) c.1))
      (row_holds snd h k c.2.own (slot_of s e) es (next snd w (ByHall h (Write k s e))) x.spared first),
  λ z.
      let n = refused_clear w.table h k in
      let y = sym (changed_number n k empty w.table) ∙ z in
      let c = clear_accepted w.table h k y in
      let first = accepted_holds h n k empty w.table y x.sixteen (clear_passed w.table h k y) in
      found_none (after snd w (ByHall h (Clear k) ∷ es)).table k (below k c.1.among)
      (row_holds snd h k c.1.own empty es (next snd w (ByHall h (Clear k))) x.spared first),
)
