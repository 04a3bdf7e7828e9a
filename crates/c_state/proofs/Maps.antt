-- An array's `map` with a function that gives h of each entry is the list's `map` of h. Assumes nothing.
use Rattle.std.specs.Prelude.{◌≡◌, ℕ, suc, ◌<◌, List, [], ◌∷◌, length, map, slice_index_or}
use Rattle.std.specs.Array.{IsMapOf}
use Rattle.std.specs.Fn.{Called}
use Rattle.std.proofs.Common.{arith}
use denote.Param.Members.{Mut}
use mathlib.Core.Path.{refl}

zipped : {A B : Type 0} (h : A → B) (xs : List A) (ys : List B) → length ys ≡ length xs
    → ((i : ℕ) (d : A) (e : B) → i < length xs → slice_index_or ys i e ≡ h (slice_index_or xs i d)) → ys ≡ map h xs
zipped h [] [] n each = refl
zipped h [] (y ∷ ys) n each = absurd (omega (arith, n))
zipped h (x ∷ xs) [] n each = absurd (omega (arith, n))
zipped h (x ∷ xs) (y ∷ ys) n each =
    let first : y ≡ h x = each 0 x y (omega arith) in
    let rest = zipped h xs ys (omega (arith, n)) (λ i d e k. each (suc i) d e (omega (arith, k))) in
    rw (first, rest) refl

pub mapped : {F A B : Type 0} (g : Mut F (A × Unit {0}) B) (h : A → B) → ((p q : F) (x : A) (y : B) → Called g p (x, tt) y q → y ≡ h x)
    → (f : F) (xs : List A) (ys : List B) (n : ℕ) → length xs ≡ n → IsMapOf g f xs ys n → ys ≡ map h xs
mapped g h is f xs ys n long m =
    zipped h xs ys (omega (arith, m.long, long)) (λ i d e k. let c = m.at i d e (omega (arith, k, long)) in is _ _ _ _ c.2)
