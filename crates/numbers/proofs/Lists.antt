-- Laws of `all`: that it is std's, over two lists joined, over what is dropped, and over a list shifted by one, for every length.
-- Shifted, what held of each entry from the t-th on holds from the one before it on. Assumes nothing.
use Rattle.std.proofs.Common.{◌≡◌, ℕ, zero, suc, ◌+◌, ◌-◌, ◌<◌, Bool, true, T, List, [], ◌∷◌, ◌++◌, length, drop, ◌&&◌, refl, sym, ap, ◌∙◌, subst, arith, length-append, length-drop}
use native.Mathlib.Nat.{zero-sub, suc-sub-suc, sub-zero}
use lib.Ieee.Fits.{and_i, and_l, and_r}
use Rattle.std.specs.List.{list_all}
use Rattle.numbers.specs.Lists.{all}

module _ {A : Type 0} (p : A → Bool) where
  -- as std's `list_all`, which `Iterator::all` computes
  pub all_is : (xs : List A) → list_all p xs ≡ all p xs
  all_is [] = refl
  all_is (x ∷ xs) = ap (λ (b : Bool). p x && b) (all_is xs)

  pub all_append : (xs ys : List A) → T (all p xs) → T (all p ys) → T (all p (xs ++ ys))
  all_append [] ys h k = k
  all_append (x ∷ xs) ys h k = and_i (p x) (all p (xs ++ ys)) (and_l (p x) (all p xs) h) (all_append xs ys (and_r (p x) (all p xs) h) k)

  pub all_front : (xs ys : List A) → T (all p (xs ++ ys)) → T (all p xs)
  all_front [] ys h = tt
  all_front (x ∷ xs) ys h = and_i (p x) (all p xs) (and_l (p x) (all p (xs ++ ys)) h) (all_front xs ys (and_r (p x) (all p (xs ++ ys)) h))

  pub all_rest : (xs ys : List A) → T (all p (xs ++ ys)) → T (all p ys)
  all_rest [] ys h = h
  all_rest (x ∷ xs) ys h = all_rest xs ys (and_r (p x) (all p (xs ++ ys)) h)

  pub all_drop : (t : ℕ) (xs : List A) → T (all p xs) → T (all p (drop t xs))
  all_drop zero xs h = h
  all_drop (suc t) [] h = tt
  all_drop (suc t) (x ∷ xs) h = all_drop t xs (and_r (p x) (all p xs) h)

  one : (z : A) → T (p z) → T (all p (z ∷ []))
  one z h = and_i (p z) true h tt

  snoc : (t : ℕ) (xs : List A) (z : A) → T (all p (drop t xs)) → T (p z) → T (all p (drop t (xs ++ z ∷ [])))
  snoc zero xs z h k = all_append xs (z ∷ []) h (one z k)
  snoc (suc t) [] z h k = all_drop t [] tt
  snoc (suc t) (x ∷ xs) z h k = snoc t xs z h k

  pub shifted : (t : ℕ) (xs : List A) (z : A) → T (all p (drop t xs)) → T (p z) → T (all p (drop (t - 1) (drop 1 xs ++ z ∷ [])))
  shifted zero xs z h k =
      subst (λ (n : ℕ). T (all p (drop n (drop 1 xs ++ z ∷ [])))) (sym (zero-sub 1)) (all_append (drop 1 xs) (z ∷ []) (all_drop 1 xs h) (one z k))
  shifted (suc t) xs z h k = subst (λ (n : ℕ). T (all p (drop n (drop 1 xs ++ z ∷ [])))) (sym (suc-sub-suc t 0 ∙ sub-zero t)) (go xs h)
    where
      go : (xs : List A) → T (all p (drop (suc t) xs)) → T (all p (drop t (drop 1 xs ++ z ∷ [])))
      go [] h = all_drop t (z ∷ []) (one z k)
      go (x ∷ xs) h = snoc t xs z h k

  pub shifted_length : (xs : List A) (z : A) → 0 < length xs → length (drop 1 xs ++ z ∷ []) ≡ length xs
  shifted_length xs z h = length-append (drop 1 xs) (z ∷ []) ∙ go (length (drop 1 xs)) (length xs) (length-drop 1 xs) h
    where
      go : (a b : ℕ) → a ≡ b - 1 → 0 < b → a + 1 ≡ b
      go a b e h = omega arith
