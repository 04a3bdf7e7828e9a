-- One change of the table, accepted or refused: it keeps the table well formed, the frames, and the other hall's slots; and h's slots after it depend only on h's slots.
-- By the laws of one store into a list. Assumes nothing.
use mathlib.Core.Path.{◌≡◌, refl, sym, ap, ◌∙◌}
use Prim.Native.Nat.{ℕ, zero, suc, ◌+◌, ◌-◌, ◌≤◌}
use native.Mathlib.Omega.{arith}
use mathlib.Core.Bool.{Bool, true, false, ◌||◌, cond}
use mathlib.Core.List.{List, [], ◌∷◌}
use lib.Dec.{T, eqb, leb→le, ltb→lt}
use lib.ListN.{get_or, set, drop}
use lib.Seq.{get_or-set_other, get_or-take, get_or-drop, take-set-le, take-set-lt, drop-set-lt, drop-set-add}
use lib.Ieee.Fits.{and_i, and_l, and_r}
use borrow.Author.Tests.{eqb-true}
use Rattle.numbers.specs.Lists.{all}
use Rattle.loop_table.specs.declared.Hall.{Hall}
use Rattle.loop_table.specs.declared.Hall.TheVariants as hall
use Rattle.loop_table.specs.declared.LoopSlot.{LoopSlot}
use Rattle.loop_table.specs.declared.LoopTable.{LoopTable}
use Rattle.loop_table.specs.Tables.{LoopChanged, slot_of, empty, is_empty, looping, well_formed_slot, well_formed_table, same, half, owns, held_in, stored, changed, refused_write, refused_clear}
use Rattle.loop_table.proofs.Accepted.{Own, write_accepted, clear_accepted}

pub never : true ≡ false → ⊥
never e = let z : ◌≡◌ {A = ℕ} 0 1 = cc in omega arith

up : (k : ℕ) → 8 ≤ k → k ≡ 8 + (k - 8)
up k h = omega arith

pub so : (b : Bool) → T b → b ≡ true
so true h = refl
so false h = absurd h

or_r : (a b : Bool) → T b → T (a || b)
or_r true b h = tt
or_r false b h = h

all_set : {A : Type 0} (p : A → Bool) (l : List A) (k : ℕ) (a : A) → T (all p l) → T (p a) → T (all p (set l k a))
all_set p [] k a h g = tt
all_set p (x ∷ xs) zero a h g = and_i (p a) (all p xs) g (and_r (p x) (all p xs) h)
all_set p (x ∷ xs) (suc k) a h g = and_i (p x) (all p (set xs k a)) (and_l (p x) (all p xs) h) (all_set p xs k a (and_r (p x) (all p xs) h) g)

-- what an accepted change of slot k by hall h has passed
abbrev pub Passed : Hall → LoopTable → ℕ → LoopSlot → Type 0
Passed h t k s = T (well_formed_table t) × T (well_formed_slot t.num_frames s) × Own h k

pub write_passed : (t : LoopTable) (h : Hall) (k s e : ℕ) → refused_write t h k s e ≡ 0 → Passed h t k (slot_of s e)
write_passed t h k s e z =
    let p = write_accepted t h k s e z in
    (p.0, or_r (is_empty (slot_of s e)) (looping t.num_frames s e) p.1, p.2)

pub clear_passed : (t : LoopTable) (h : Hall) (k : ℕ) → refused_clear t h k ≡ 0 → Passed h t k empty
clear_passed t h k z = let p = clear_accepted t h k z in (p.0, tt, p.1)

-- ---- one store

stored_well_formed : (g : Hall) (t : LoopTable) (k : ℕ) (s : LoopSlot) → Passed g t k s → well_formed_table (stored t k s) ≡ well_formed_table t
unfolding well_formed_table
stored_well_formed g t k s p =
    so (well_formed_table (stored t k s)) (all_set (well_formed_slot t.num_frames) t.slots k s p.0 p.1) ∙ sym (so (well_formed_table t) p.0)

stored_other : (h g : Hall) (t : LoopTable) (k : ℕ) (s : LoopSlot) → same h g ≡ false → T (owns g k) → half h (stored t k s) ≡ half h t
stored_other hall.A hall.A t k s n o = absurd (never n)
stored_other hall.A hall.B t k s n o = take-set-le 8 t.slots k s (leb→le 8 k o)
stored_other hall.B hall.A t k s n o = drop-set-lt 8 t.slots k s (ltb→lt k 8 o)
stored_other hall.B hall.B t k s n o = absurd (never n)

stored_own : (h : Hall) (t u : LoopTable) (k : ℕ) (s : LoopSlot) → T (owns h k) → half h t ≡ half h u → half h (stored t k s) ≡ half h (stored u k s)
stored_own hall.A t u k s o e =
    let l = ltb→lt k 8 o in
    take-set-lt 8 t.slots k s l ∙ ap (λ (xs : List LoopSlot). set xs k s) e ∙ sym (take-set-lt 8 u.slots k s l)
stored_own hall.B t u k s o e = at t ∙ ap (λ (xs : List LoopSlot). set xs (k - 8) s) e ∙ sym (at u)
  where
    at : (t : LoopTable) → drop 8 (set t.slots k s) ≡ set (drop 8 t.slots) (k - 8) s
    at t = ap (λ (j : ℕ). drop 8 (set t.slots j s)) (up k (leb→le 8 k o)) ∙ drop-set-add 8 t.slots (k - 8) s

-- a slot that a hall writes is in its half
pub held_half : (h : Hall) (t u : LoopTable) (k : ℕ) → T (owns h k) → half h t ≡ half h u → held_in t k ≡ held_in u k
held_half hall.A t u k o e =
    let l = ltb→lt k 8 o in
    sym (get_or-take 8 t.slots k empty l) ∙ ap (λ (xs : List LoopSlot). get_or xs k empty) e ∙ get_or-take 8 u.slots k empty l
held_half hall.B t u k o e = at t ∙ ap (λ (xs : List LoopSlot). get_or xs (k - 8) empty) e ∙ sym (at u)
  where
    at : (t : LoopTable) → held_in t k ≡ get_or (drop 8 t.slots) (k - 8) empty
    at t = ap (λ (j : ℕ). get_or t.slots j empty) (up k (leb→le 8 k o)) ∙ sym (get_or-drop 8 t.slots (k - 8) empty)

-- ---- one change, accepted or refused by the number n

module _ (n : ℕ) (k : ℕ) (s : LoopSlot) where
  pub changed_number : (t : LoopTable) → (changed n t k s).refusal ≡ n
  changed_number t = go (eqb n 0) refl
    where
      go : (b : Bool) → eqb n 0 ≡ b → (cond {A = LoopChanged} b (record { table = stored t k s; refusal = 0 }) (record { table = t; refusal = n })).refusal ≡ n
      go true e = sym (eqb-true n 0 e)
      go false e = refl

  -- what holds for the table before the change and with the slot replaced holds after it
  pub changed_either : (P : LoopTable → Type 0) (t : LoopTable) → (n ≡ 0 → P (stored t k s)) → P t → P (changed n t k s).table
  changed_either P t y z = go (eqb n 0) refl
    where
      go : (b : Bool) → eqb n 0 ≡ b → P (cond {A = LoopChanged} b (record { table = stored t k s; refusal = 0 }) (record { table = t; refusal = n })).table
      go true e = y (eqb-true n 0 e)
      go false e = z

  pub changed_frames : (t : LoopTable) → (changed n t k s).table.num_frames ≡ t.num_frames
  changed_frames t = changed_either (λ (x : LoopTable). x.num_frames ≡ t.num_frames) t (λ e. refl) refl

  pub changed_well_formed : (g : Hall) (t : LoopTable) → (n ≡ 0 → Passed g t k s) → well_formed_table (changed n t k s).table ≡ well_formed_table t
  changed_well_formed g t p = changed_either (λ (x : LoopTable). well_formed_table x ≡ well_formed_table t) t (λ e. stored_well_formed g t k s (p e)) refl

  pub changed_other : (h g : Hall) (t : LoopTable) → same h g ≡ false → (n ≡ 0 → Passed g t k s) → half h (changed n t k s).table ≡ half h t
  changed_other h g t d p = changed_either (λ (x : LoopTable). half h x ≡ half h t) t (λ e. stored_other h g t k s d (p e).2.own) refl

  pub changed_own : (h : Hall) (t u : LoopTable) → (n ≡ 0 → Passed h t k s) → half h t ≡ half h u → half h (changed n t k s).table ≡ half h (changed n u k s).table
  changed_own h t u p e = go (eqb n 0) refl
    where
      go : (b : Bool) → eqb n 0 ≡ b
          → half h (cond {A = LoopChanged} b (record { table = stored t k s; refusal = 0 }) (record { table = t; refusal = n })).table
          ≡ half h (cond {A = LoopChanged} b (record { table = stored u k s; refusal = 0 }) (record { table = u; refusal = n })).table
      go true z = stored_own h t u k s (p (eqb-true n 0 z)).2.own e
      go false z = e

  -- another slot does not change
  pub changed_held : (j : ℕ) (t : LoopTable) → (n ≡ 0 → j ≡ k → ⊥) → held_in (changed n t k s).table j ≡ held_in t j
  changed_held j t d = changed_either (λ (x : LoopTable). held_in x j ≡ held_in t j) t (λ e. get_or-set_other t.slots k j s empty (d e)) refl
