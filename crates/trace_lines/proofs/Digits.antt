-- The loop that writes a number from its last digit on.
use mathlib.Core.Path.{◌≡◌, refl, sym, ap, ◌∙◌}
use Prim.Native.Nat.{ℕ, zero, suc, ◌+◌, ◌-◌, ◌*◌, ◌/◌, ◌%◌, ◌^◌, ◌≤◌, ◌<◌}
use native.Mathlib.Omega.{arith}
use native.Mathlib.Nat.{pow-succ', mod-add-div}
use native.Mathlib.Numerals.{add-one}
use mathlib.Core.List.{List, [], ◌∷◌, ◌++◌}
use lib.ListN.{length, get_or, take, drop, set, length-set, length-drop, length-append}
use lib.Seq.{drop-cons, drop-set-lt, get_or-set_same, take_all, sets}
use borrow.Author.Tests.{lt-ltb, le-ltb}
use Rattle.byte_layout.proofs.Puts.{sets_append}
use Rattle.trace_lines.specs.Lines.{spelt, decimal, labelled}

none : {A : Type 0} → ⊥ → A
none e = elim e [ ]

drop_set : (d : List ℕ) (i x : ℕ) → i < length d → drop i (set d i x) ≡ x ∷ drop (suc i) d
drop_set d i x h =
    let l : length (set d i x) ≡ length d = simp length-set in
    drop-cons (set d i x) i 0 (omega (arith, l)) ∙ rw (get_or-set_same d i x 0 h, drop-set-lt (suc i) d i x (omega arith)) refl

pub spell_next : (i y : ℕ) (d : List ℕ) (x : ℕ) → 10 ≤ y → i < length d → x ≡ 48 + y % 10 → 0 < i → spelt (i - 1 + 1) (y / 10) (drop (i - 1 + 1) (set d i x)) ≡ spelt (i + 1) y (drop (i + 1) d)
unfolding spelt
spell_next i y d x h l e p =
    let j : i - 1 + 1 ≡ i = omega arith in
    rw (j, add-one i, le-ltb y 10 h, drop_set d i x l, e) refl

pub spell_last : (i y : ℕ) (d : List ℕ) (x : ℕ) → y < 10 → i < length d → x ≡ 48 + y → drop i (set d i x) ≡ spelt (i + 1) y (drop (i + 1) d)
unfolding spelt
spell_last i y d x h l e = rw (add-one i, lt-ltb y 10 h, drop_set d i x l, e) refl

pub some_left : (i y : ℕ) → 10 ≤ y → y < 10 ^ (i + 1) → 0 < i
some_left zero y h l = none (omega (arith, l))
some_left (suc i) y h l = omega arith

pub fewer : (i y : ℕ) → 10 ≤ y → y < 10 ^ (i + 1) → y / 10 < 10 ^ (i - 1 + 1)
fewer i y h l =
    let p = some_left i y h l in
    let j : i - 1 + 1 ≡ i = omega arith in
    let e = mod-add-div y 10 in
    let m : y < 10 ^ suc i = rw (add-one i) at l in
    rw j (omega (arith, e, m, pow-succ' 10 i))

pub most : (n : ℕ) → n < 18446744073709551616 → n < 10 ^ 20
most n h = let e : 10 ^ 20 ≡ 100000000000000000000 = refl in omega (arith, e)

pub part : (i : ℕ) (d t : List ℕ) → length d ≡ 20 → drop i d ≡ t → take (20 - i) (drop i d) ≡ t
part i d t h e = take_all (20 - i) (drop i d) (omega (arith, length-drop i d)) ∙ e

-- a word, then its number
pub then : (l new end word ds : List ℕ) (at a b : ℕ) → new ≡ sets l at word → a ≡ at + length word → end ≡ sets new a ds → b ≡ a + length ds → (end ≡ sets l at (word ++ ds)) × (b ≡ at + length (word ++ ds))
then l new end word ds at a b p q r s =
    (r ∙ ap (λ (z : ℕ). sets new z ds) q ∙ ap (λ (z : List ℕ). sets z (at + length word) ds) p ∙ sym (sets_append l at word ds), omega (arith, s, q, length-append word ds))

pub part_short : (i : ℕ) (d : List ℕ) → length d ≡ 20 → length (take (20 - i) (drop i d)) ≤ 20
part_short i d h = omega (arith, length-drop i d, ap length (part i d (drop i d) h refl))
