-- If every number below one that passes also passes, a number that passes while the next does not is the largest; so an entry that is right is the
-- largest number that fits. Assumes nothing.
use mathlib.Core.Path.{◌≡◌, refl, sym, subst}
use mathlib.Core.Bool.{Bool, true, false, not, ◌&&◌, cond}
use mathlib.Core.List.{List}
use Prim.Native.Nat.{ℕ, zero, suc, ◌≤◌, ◌<◌}
use native.Mathlib.Nat.{le_refl}
use native.Mathlib.Omega.{arith}
use lib.Dec.{T, T_not, leb, eqb, leb→le}
use lib.ListN.{length, get_or}
use borrow.Author.Tests.{leb-true, leb-false, eqb-true, eqb-false}
use lib.Ieee.Fits.{and_l, and_r}
use Rattle.tables.specs.Largest.{largest}
use Rattle.tables.proofs.Every.{every, at}

-- what passes also passes below
abbrev pub Down : (ℕ → Bool) → Type 0
Down p = (a b : ℕ) → a ≤ b → T (p b) → T (p a)

-- at most n, it passes, and one more does not
abbrev pub right : ℕ → (ℕ → Bool) → ℕ → Bool
right n p e = leb e n && (p e && not (p (suc e)))

module _ (p : ℕ → Bool) (down : Down p) (e : ℕ) (yes : T (p e)) (no : T (not (p (suc e)))) where
  -- no larger number passes
  pub none_above : (k : ℕ) → T (p k) → k ≤ e
  none_above k t = go (leb k e) refl
    where
      go : (b : Bool) → leb k e ≡ b → k ≤ e
      go true h = leb-true k e h
      go false h = absurd (T_not (p (suc e)) no (down (suc e) k (leb-false k e h) t))

  pub is_largest : (n : ℕ) → e ≤ n → largest p n ≡ e
  unfolding largest
  is_largest zero h = omega (arith, h)
  is_largest (suc n) h = go (λ (k : e ≤ n). is_largest n k) (p (suc n)) refl
    where
      fewer : (b : Bool) → eqb e (suc n) ≡ b → p (suc n) ≡ false → e ≤ n
      fewer true q f = absurd (subst T (subst (λ (k : ℕ). p k ≡ false) (sym (eqb-true e (suc n) q)) f) yes)
      fewer false q f =
          let d = eqb-false e (suc n) q in
          omega (arith, h, d)

      go : (e ≤ n → largest p n ≡ e) → (b : Bool) → p (suc n) ≡ b → cond b (suc n) (largest p n) ≡ e
      go rest true q =
          let k = none_above (suc n) (subst T (sym q) tt) in
          omega (arith, h, k)
      go rest false q = rest (fewer (eqb e (suc n)) refl q)

-- of the largest itself, whatever the test: it passes where 0 does, and the next does not where the one past the end does not
module _ (p : ℕ → Bool) where
  pub largest_low : (n : ℕ) → largest p n ≤ n
  unfolding largest
  largest_low zero = le_refl 0
  largest_low (suc n) = go (largest_low n) (p (suc n))
    where
      go : largest p n ≤ n → (b : Bool) → cond b (suc n) (largest p n) ≤ suc n
      go rest true = le_refl (suc n)
      go rest false = omega (arith, rest)

  pub largest_fits : T (p 0) → (n : ℕ) → T (p (largest p n))
  unfolding largest
  largest_fits z zero = z
  largest_fits z (suc n) = go (largest_fits z n) (p (suc n)) refl
    where
      go : T (p (largest p n)) → (b : Bool) → p (suc n) ≡ b → T (p (cond b (suc n) (largest p n)))
      go rest true q = subst T (sym q) tt
      go rest false q = rest

  pub largest_full : (n : ℕ) → T (not (p (suc n))) → T (not (p (suc (largest p n))))
  unfolding largest
  largest_full zero h = h
  largest_full (suc n) h = go (λ (k : T (not (p (suc n)))). largest_full n k) (p (suc n)) refl
    where
      go : (T (not (p (suc n))) → T (not (p (suc (largest p n))))) → (b : Bool) → p (suc n) ≡ b → T (not (p (suc (cond b (suc n) (largest p n)))))
      go rest true q = h
      go rest false q = rest (subst (λ (b : Bool). T (not b)) (sym q) tt)

-- the rule of a table, at an entry: it fits, one more does not, and it is the largest
module _ (p : ℕ → ℕ → Bool) (n : ℕ) (xs : List ℕ) (tested : T (every (λ (t e : ℕ). right n (p t) e) 0 xs)) (t : ℕ) (low : t < length xs) where
  pub entry_low : get_or xs t 0 ≤ n
  entry_low = let e = get_or xs t 0 in leb→le e n (and_l (leb e n) (p t e && not (p t (suc e))) (at (λ (t e : ℕ). right n (p t) e) xs tested t low))

  both : T (p t (get_or xs t 0) && not (p t (suc (get_or xs t 0))))
  both = let e = get_or xs t 0 in and_r (leb e n) (p t e && not (p t (suc e))) (at (λ (t e : ℕ). right n (p t) e) xs tested t low)

  pub entry_fits : T (p t (get_or xs t 0))
  entry_fits = let e = get_or xs t 0 in and_l (p t e) (not (p t (suc e))) both

  pub entry_full : T (not (p t (suc (get_or xs t 0))))
  entry_full = let e = get_or xs t 0 in and_r (p t e) (not (p t (suc e))) both

  pub entry_largest : Down (p t) → get_or xs t 0 ≡ largest (p t) n
  entry_largest down = sym (is_largest (p t) down (get_or xs t 0) entry_fits entry_full n entry_low)
