-- Tests combined over lists, one iteration at a time: words by their top bit, which `or` keeps, and results by `and`.
-- What is combined over the first i entries is the test over them, so at the end it is the test over all. Assumes nothing.
use mathlib.Core.Path.{◌≡◌, refl, sym, ap, ap₂, ◌∙◌, subst}
use Prim.Native.Nat.{ℕ, zero, suc, ◌+◌, ◌≤◌, ◌<◌}
use native.Mathlib.Nat.{not-suc-le-zero, le_of_suc-le-suc}
use native.Mathlib.Numerals.{add-one}
use native.Mathlib.Omega.{arith}
use mathlib.Core.Bool.{Bool, true, false, ◌&&◌}
use mathlib.Core.List.{List, [], ◌∷◌, ◌++◌}
use lib.Dec.{ltb}
use lib.Bits.{bit_or, bit_and, or_lt, or_add_and, and_le_r, and_comm}
use lib.ListN.{length, get_or, take}
use lib.Seq.{take_all}
use lib.Ieee.{Float, nan}
use borrow.Author.Tests.{ltb-true, ltb-false, lt-ltb, le-ltb}
use Rattle.numbers.specs.Words.{finite_clear}
use Rattle.numbers.specs.Lists.{all}
use Rattle.sound_lanes.specs.Lanes.{low, four_finite_clear}

-- ---- `and`
pub both_assoc : (a b c : Bool) → ((a && b) && c) ≡ (a && (b && c))
both_assoc true b c = refl
both_assoc false b c = refl

both_comm : (a b : Bool) → (a && b) ≡ (b && a)
both_comm true true = refl
both_comm true false = refl
both_comm false true = refl
both_comm false false = refl

-- the middle two of four changed over
pub both_swap : (a b c d : Bool) → ((a && b) && (c && d)) ≡ ((a && c) && (b && d))
both_swap false b c d = refl
both_swap true true c d = refl
both_swap true false true d = refl
both_swap true false false d = refl

-- four more answers, each beside the combined result of its own lane
pub four_more : (A B C D a b c d : Bool) → ((A && B && C && D) && a && b && c && d) ≡ ((A && a) && (B && b) && (C && c) && (D && d))
four_more A B C D a b c d =
    ap (λ (x : Bool). x && c && d) (both_assoc (A && B && C && D) a b)
    ∙ ap (λ (x : Bool). x && d) (both_assoc (A && B && C && D) (a && b) c)
    ∙ both_assoc (A && B && C && D) (a && b && c) d
    ∙ sym (ap (λ (x : Bool). x && (C && c) && (D && d)) (both_swap A a B b) ∙ ap (λ (x : Bool). x && (D && d)) (both_swap (A && B) (a && b) C c) ∙ both_swap (A && B && C) (a && b && c) D d)

-- ---- the top bit
and_le_l : (a b : ℕ) → bit_and a b ≤ a
and_le_l a b = subst (λ (n : ℕ). n ≤ a) (and_comm b a) (and_le_r b a)

or_low : (a b : ℕ) → low (bit_or a b) ≡ (low a && low b)
unfolding low
or_low a b = go (ltb a 2147483648) (ltb b 2147483648) refl refl
  where
    more : (a b o n : ℕ) → o + n ≡ a + b → n ≤ a → 2147483648 ≤ b → 2147483648 ≤ o
    more a b o n e h l = omega arith

    other : (a b o n : ℕ) → o + n ≡ a + b → n ≤ b → 2147483648 ≤ a → 2147483648 ≤ o
    other a b o n e h l = omega arith

    go : (p q : Bool) → ltb a 2147483648 ≡ p → ltb b 2147483648 ≡ q → ltb (bit_or a b) 2147483648 ≡ (p && q)
    go true true e f = lt-ltb _ _ (or_lt 31 a b (ltb-true a 2147483648 e) (ltb-true b 2147483648 f))
    go true false e f = le-ltb _ _ (more a b (bit_or a b) (bit_and a b) (or_add_and a b) (and_le_l a b) (ltb-false b 2147483648 f))
    go false q e f = le-ltb _ _ (other a b (bit_or a b) (bit_and a b) (or_add_and a b) (and_le_r a b) (ltb-false a 2147483648 e))

-- ---- one more entry
module _ {A : Type 0} (p : A → Bool) where
  pub all_more : (ls : List A) (i : ℕ) (z : A) → i < length ls → all p (take (suc i) ls) ≡ (all p (take i ls) && p (get_or ls i z))
  all_more [] i z h = absurd (not-suc-le-zero h)
  all_more (x ∷ ls) zero z h = both_comm (p x) true
  all_more (x ∷ ls) (suc i) z h = ap (λ (b : Bool). p x && b) (all_more ls i z (le_of_suc-le-suc h)) ∙ sym (both_assoc (p x) (all p (take i ls)) (p (get_or ls i z)))

  pub all_push : (ls : List A) (x : A) → all p (ls ++ (x ∷ [])) ≡ (p x && all p ls)
  all_push [] x = refl
  all_push (y ∷ ls) x = ap (λ (b : Bool). p y && b) (all_push ls x) ∙ sym (both_assoc (p y) (p x) (all p ls)) ∙ ap (λ (b : Bool). b && all p ls) (both_comm (p y) (p x)) ∙ both_assoc (p x) (p y) (all p ls)

  pub all_turn : (ls : List A) (i : ℕ) (z : A) (ok w : Bool) → i < length ls → ok ≡ all p (take i ls) → w ≡ p (get_or ls i z) → (w && ok) ≡ all p (take (i + 1) ls)
  all_turn ls i z ok w h e f =
      both_comm w ok ∙ ap₂ (λ (a b : Bool). a && b) e f ∙ sym (ap (λ (n : ℕ). all p (take n ls)) (add-one i) ∙ all_more ls i z h)

-- one iteration over four lanes
pub four_turn : (a b c d : List Float) (i tops ta tb tc td : ℕ) → i < length a → i < length b → i < length c → i < length d
    → low tops ≡ four_finite_clear (take i a) (take i b) (take i c) (take i d)
    → low ta ≡ finite_clear (get_or a i nan) → low tb ≡ finite_clear (get_or b i nan) → low tc ≡ finite_clear (get_or c i nan) → low td ≡ finite_clear (get_or d i nan)
    → low (bit_or (bit_or (bit_or (bit_or tops ta) tb) tc) td) ≡ four_finite_clear (take (i + 1) a) (take (i + 1) b) (take (i + 1) c) (take (i + 1) d)
four_turn a b c d i tops ta tb tc td ha hb hc hd e ea eb ec ed =
    rw (add-one i, all_more finite_clear a i nan ha, all_more finite_clear b i nan hb, all_more finite_clear c i nan hc, all_more finite_clear d i nan hd, or_low (bit_or (bit_or (bit_or tops ta) tb) tc) td, or_low (bit_or (bit_or tops ta) tb) tc, or_low (bit_or tops ta) tb, or_low tops ta, e, ea, eb, ec, ed)
    (four_more (all finite_clear (take i a)) (all finite_clear (take i b)) (all finite_clear (take i c)) (all finite_clear (take i d)) (finite_clear (get_or a i nan)) (finite_clear (get_or b i nan)) (finite_clear (get_or c i nan)) (finite_clear (get_or d i nan)))

pub four_end : (a b c d : List Float) (i : ℕ) (ok : Bool) → length a ≤ i → length b ≤ i → length c ≤ i → length d ≤ i
    → ok ≡ four_finite_clear (take i a) (take i b) (take i c) (take i d) → ok ≡ four_finite_clear a b c d
four_end a b c d i ok ha hb hc hd e = e ∙ rw (take_all i a ha, take_all i b hb, take_all i c hc, take_all i d hd)
