-- Prefixes of lanes and of lines.
use mathlib.Core.Path.{◌≡◌, refl, sym, ap, ◌∙◌}
use Prim.Native.Nat.{ℕ, zero, suc, ◌+◌, ◌-◌, ◌≤◌}
use native.Mathlib.Omega.{arith}
use mathlib.Core.List.{List, [], ◌∷◌}
use lib.ListN.{length, take, drop, replicate, length-replicate}
use lib.Seq.{sets, sets-eq, take_at, length-sets, length-take-le}

none : {A : Type 0} → ⊥ → A
none e = elim e [ ]

take_replicate : {A : Type 0} (n m : ℕ) (x : A) → n ≤ m → take n (replicate m x) ≡ replicate n x
take_replicate zero m x h = refl
take_replicate (suc n) zero x h = none (omega arith)
take_replicate {A} (suc n) (suc m) x h = ap {B = List A} (λ l. x ∷ l) (take_replicate n m x (omega arith))

pub lane : {A : Type 0} (n m : ℕ) (x : A) (l : List A) → l ≡ replicate m x → n ≤ m → take n l ≡ replicate n x
lane {A} n m x l e h = ap {B = List A} (λ z. take n z) e ∙ take_replicate n m x h

pub lane_long : {A : Type 0} (n m : ℕ) (x : A) (l : List A) → l ≡ replicate m x → n ≤ m → n ≡ length (take n l)
lane_long n m x l e h = sym (ap length (lane n m x l e h) ∙ length-replicate n x)

-- what was written to the start of a buffer with enough space
pub prefix : {A : Type 0} (l new t : List A) (r : ℕ) → new ≡ sets l 0 t → r ≡ length t → length t ≤ length l → take r new ≡ t
prefix {A} l new t r e q h =
    let z : 0 + length t ≤ length l = omega arith in
    ap {B = List A} (λ u. take r u) (e ∙ sets-eq t l 0 z) ∙ take_at t (drop (0 + length t) l) r (sym q)

pub fits : {A : Type 0} (l new t : List A) (r : ℕ) → new ≡ sets l 0 t → r ≤ 139 → 139 ≤ length l → r ≤ length new
fits l new t r e h k = let z : length new ≡ length l = ap length e ∙ simp length-sets in omega (arith, z)

pub inside : {A : Type 0} (l new t : List A) (r : ℕ) → new ≡ sets l 0 t → r ≡ length t → length t ≤ 128 → 128 ≤ length l → r ≤ length new
inside l new t r e q h k = let z : length new ≡ length l = ap length e ∙ simp length-sets in omega (arith, z)

pub part_long : {A : Type 0} (n : ℕ) (l : List A) → n ≤ length l → n ≡ length (take n l)
part_long n l h = sym (length-take-le n l h)
