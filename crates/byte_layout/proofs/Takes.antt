-- The numbers that rows accept that are always present, row by row, and what they accepted read back. Assumes nothing.
use mathlib.Core.Path.{◌≡◌, refl, sym, ap, ◌∙◌, subst}
use Prim.Native.Nat.{ℕ, ◌+◌, ◌≤◌}
use native.Mathlib.Nat.{add-zero}
use mathlib.Core.Bool.{Bool, true, false, ◌&&◌, cond}
use mathlib.Core.List.{List, [], ◌∷◌, ◌++◌}
use lib.Dec.{leb}
use lib.ListN.{length}
use borrow.Author.Tests.{le-leb, leb-true}
use Rattle.byte_layout.specs.declared.Row.{Row}
use Rattle.byte_layout.specs.Rows.{within}
use Rattle.byte_layout.specs.Reads.{good, steps}
use Rattle.byte_layout.specs.Writes.{fits, fine, payload}
use Rattle.byte_layout.proofs.Codec.{never, both, ands}
use Rattle.byte_layout.proofs.Lengths.{always}

-- a row that is always present accepts a number in its range
pub took : (r : Row) (rs : List Row) (vs : List ℕ) (x : ℕ) (ws : List ℕ) → r.low ≡ 0 → r.least ≤ x → x ≤ r.most → fine rs (vs ++ (x ∷ [])) ws ≡ true → fine (r ∷ rs) vs (x ∷ ws) ≡ true
unfolding fine fits within
took r rs vs x ws l a b h = rw (always r vs l) (rw (le-leb r.least x a, le-leb x r.most b) h)

pub none : (vs : List ℕ) → fine [] vs [] ≡ true
unfolding fine
none vs = refl

-- and what it accepted was one
pub peel : (P : List ℕ → Type 0) (r : Row) (rs : List Row) (vs ws : List ℕ) → r.low ≡ 0 → fine (r ∷ rs) vs ws ≡ true
    → ((x : ℕ) (l : List ℕ) → r.least ≤ x → x ≤ r.most → fine rs (vs ++ (x ∷ [])) l ≡ true → P (x ∷ l)) → P ws
unfolding fine fits within
peel P r rs vs [] l h k = never h
peel P r rs vs (x ∷ ws) l h k =
    let g : cond (fits true r x) (fine rs (vs ++ (x ∷ [])) ws) false ≡ true = subst (λ (b : Bool). cond (fits b r x) (fine rs (vs ++ (x ∷ [])) ws) false ≡ true) (always r vs l) h in
    let p = both (leb r.least x && leb x r.most) (fine rs (vs ++ (x ∷ [])) ws) g in
    let q = ands (leb r.least x) (leb x r.most) p.0 in
    k x ws (leb-true r.least x q.0) (leb-true x r.most q.1) p.1

pub ended : (vs ws : List ℕ) → fine [] vs ws ≡ true → ws ≡ []
unfolding fine
ended vs [] h = refl
ended vs (x ∷ ws) h = never h

pub read_back : (rs : List Row) (ws rest : List ℕ) (n : ℕ) → length (payload rs [] ws) ≡ n → steps rs (good (length (payload rs [] ws) + 0) [] (payload rs [] ws ++ rest)) ≡ good 0 ws rest
    → steps rs (good n [] (payload rs [] ws ++ rest)) ≡ good 0 ws rest
read_back rs ws rest n e h = ap (λ (k : ℕ). steps rs (good k [] (payload rs [] ws ++ rest))) (sym (add-zero (length (payload rs [] ws)) ∙ e)) ∙ h
