-- Slots compared one after the other, and as lists. Assumes nothing.
use mathlib.Core.Path.{◌≡◌, refl, sym, ap, ap₂, ◌∙◌}
use mathlib.Core.Bool.{Bool, ◌&&◌}
use mathlib.Core.List.{List, [], ◌∷◌, ◌++◌}
use Prim.Native.Nat.{ℕ, zero, suc, ◌+◌, ◌≤◌, ◌<◌}
use native.Mathlib.Omega.{arith}
use lib.ListN.{length, get_or, take, drop}
use lib.Seq.{take_all, take-suc, length-take-le, get_or-drop}
use Rattle.std.proofs.Common.{length-drop}
use Rattle.std.proofs.lemmas.List.{length-take}
use Rattle.std.proofs.Math.Bool.{and-true, and_assoc}
use Rattle.std.specs.Cmp.Lexicographic.{pointwise}
use Rattle.loop_table.specs.declared.Hall.{Hall}
use Rattle.loop_table.specs.declared.Hall.TheVariants as hall
use Rattle.loop_table.specs.declared.LoopSlot.{LoopSlot}
use Rattle.loop_table.specs.declared.LoopTable.{LoopTable}
use Rattle.loop_table.specs.Tables.{empty, half}
use Rattle.loop_copies.specs.Copies.{same_slot, same_slots, first}

-- one more pair at the end of two lists of one length
pointwise_last : {A : Type 0} (f : A → A → Bool) (xs ys : List A) (x y : A) → length xs ≡ length ys → pointwise f (xs ++ (x ∷ [])) (ys ++ (y ∷ [])) ≡ (pointwise f xs ys && f x y)
pointwise_last f [] [] x y e = and-true (f x y)
pointwise_last f [] (z ∷ ys) x y e = absurd (omega arith)
pointwise_last f (z ∷ xs) [] x y e = absurd (omega arith)
pointwise_last f (w ∷ xs) (z ∷ ys) x y e =
    ap (λ (b : Bool). f w z && b) (pointwise_last f xs ys x y (omega arith)) ∙ sym (and_assoc (f w z) (pointwise f xs ys) (f x y))

pub same_listed : (n k : ℕ) (a b : List LoopSlot) → k + n ≤ length a → k + n ≤ length b → same_slots n k a b ≡ pointwise same_slot (take n (drop k a)) (take n (drop k b))
unfolding same_slots
same_listed zero k a b l m = refl
same_listed (suc n) k a b l m =
    ap₂ ◌&&◌ (same_listed n k a b (omega arith) (omega arith)) (ap₂ same_slot (sym (get_or-drop k a n empty)) (sym (get_or-drop k b n empty)))
    ∙ sym (pointwise_last same_slot (take n (drop k a)) (take n (drop k b)) (get_or (drop k a) n empty) (get_or (drop k b) n empty)
    (length-take-le n (drop k a) (low a l) ∙ sym (length-take-le n (drop k b) (low b m))))
    ∙ sym (ap₂ (pointwise same_slot) (take-suc (drop k a) n empty (under a l)) (take-suc (drop k b) n empty (under b m)))
  where
    under : (xs : List LoopSlot) → k + suc n ≤ length xs → n < length (drop k xs)
    under xs h = omega (arith, length-drop k xs)

    low : (xs : List LoopSlot) → k + suc n ≤ length xs → n ≤ length (drop k xs)
    low xs h = omega (arith, length-drop k xs)

-- the halves of two tables, each of eight slots
pub same_halves : (h : Hall) (t u : LoopTable) → length (half h t) ≡ 8 → length (half h u) ≡ 8 → pointwise same_slot (half h t) (half h u) ≡ same_slots 8 (first h) t.slots u.slots
same_halves hall.A t u l m = sym (same_listed 8 0 t.slots u.slots (low t l) (low u m))
  where
    low : (t : LoopTable) → length (take 8 t.slots) ≡ 8 → 8 ≤ length t.slots
    low t l = omega (arith, length-take 8 t.slots)
same_halves hall.B t u l m =
    sym (same_listed 8 8 t.slots u.slots (omega (arith, length-drop 8 t.slots)) (omega (arith, length-drop 8 u.slots))
    ∙ ap₂ (pointwise same_slot) (take_all 8 (drop 8 t.slots) (omega arith)) (take_all 8 (drop 8 u.slots) (omega arith)))
