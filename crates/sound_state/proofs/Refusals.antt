-- Tests one after the other: from refusal 0 to the tests that have passed, and back; as the code makes them; and the outcome that a refusal selects.
-- By cases of the tests. Assumes nothing.
use mathlib.Core.Path.{◌≡◌, refl, sym, ap, ◌∙◌}
use Prim.Native.Nat.{ℕ, suc}
use native.Mathlib.Omega.{arith}
use mathlib.Core.Bool.{Bool, true, false, cond}
use lib.Dec.{T, eqb}
use borrow.Author.Tests.{eqb-true}
use Rattle.sound_state.specs.Refusals.{unless}

-- a test that returns its number if it fails
not_0 : (n : ℕ) → suc n ≡ 0 → ⊥
not_0 n h = omega arith

pub passed : (ok : Bool) (n rest : ℕ) → unless ok (suc n) rest ≡ 0 → T ok × (rest ≡ 0)
passed true n rest h = (tt, h)
passed false n rest h = absurd (not_0 n h)

pub passing : (ok : Bool) (n rest : ℕ) → T ok → rest ≡ 0 → unless ok n rest ≡ 0
passing true n rest h e = e
passing false n rest h e = absurd h

-- ---- as the code makes them

fails : (ok : Bool) (n rest : ℕ) → ok ≡ false → n ≡ unless ok n rest
fails ok n rest e = rw e

passes : (ok : Bool) (n rest k : ℕ) → ok ≡ true → k ≡ rest → k ≡ unless ok n rest
passes ok n rest k e h = rw e h

-- with the result r of the test, and how the code continued
pub refused_here : (r ok : Bool) (n rest : ℕ) → r ≡ ok → r ≡ false → n ≡ unless ok n rest
refused_here r ok n rest e t = fails ok n rest (sym e ∙ t)

pub passed_here : (r ok : Bool) (n rest k : ℕ) → r ≡ ok → r ≡ true → k ≡ rest → k ≡ unless ok n rest
passed_here r ok n rest k e t h = passes ok n rest k (sym e ∙ t) h

-- ---- the outcome

-- of two outcomes picked by whether there is a number k, where the second's refusal is k
module _ {A : Type 0} (refusal : A → ℕ) (k : ℕ) (x y : A) where
  pub none_refused : refusal y ≡ k → refusal (cond (eqb k 0) x y) ≡ 0 → k ≡ 0
  none_refused f e = go (eqb k 0) refl e
    where
      go : (b : Bool) → eqb k 0 ≡ b → refusal (cond b x y) ≡ 0 → k ≡ 0
      go true t e = eqb-true k 0 t
      go false t e = sym f ∙ e

  pub some_refused : refusal x ≡ 0 → (refusal (cond (eqb k 0) x y) ≡ 0 → ⊥) → cond (eqb k 0) x y ≡ y
  some_refused f h = go (eqb k 0) h
    where
      go : (b : Bool) → (refusal (cond b x y) ≡ 0 → ⊥) → cond b x y ≡ y
      go true h = absurd (h f)
      go false h = refl

  pub accepted : k ≡ 0 → cond (eqb k 0) x y ≡ x
  accepted e = ap (λ (n : ℕ). cond (eqb n 0) x y) e
