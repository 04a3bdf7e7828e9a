-- The first number that a kind's rows read is at most what the first row accepts. Assumes nothing.
use mathlib.Core.Path.{◌≡◌, refl, ap}
use Prim.Native.Nat.{ℕ, ◌-◌, ◌≤◌}
use native.Mathlib.Omega.{arith}
use mathlib.Core.Bool.{Bool, true, false, cond}
use mathlib.Core.List.{List, [], ◌∷◌, ◌++◌}
use lib.Dec.{leb, eqb}
use lib.ListN.{length, get_or, take, drop}
use Rattle.refusals.specs.declared.Refusal.TheVariants.{Record}
use Rattle.refusals.specs.Numbers.{number}
use Rattle.byte_layout.specs.declared.Row.{Row}
use Rattle.byte_layout.specs.Numbers.{num}
use Rattle.byte_layout.specs.Rows.{row, stands, within}
use Rattle.byte_layout.specs.Reads.{Reading, bad, good, taken, step, steps}
use Rattle.byte_layout.proofs.Codec.{within_most, bad_good}
use Rattle.byte_layout.proofs.Lengths.{always}
use Rattle.trace_sealed.specs.Tables.{given_rows, laned_rows, field_rows}

-- a reading whose first number is at most m
data Begins (m : ℕ) : Reading → Type 0 where
  over : (k : ℕ) → Begins m (bad k)
  first : (l x : ℕ) (vs rest : List ℕ) → x ≤ m → Begins m (good l (x ∷ vs) rest)

row_begins : (m : ℕ) (r : Row) (d : Reading) → Begins m d → Begins m (step r d)
unfolding step taken
row_begins m r _ (over k) = over k
row_begins m r _ (first l x vs rest h) = go (stands r (x ∷ vs)) (leb w l) (leb w (length rest)) (within r n) (leb l (length rest))
  where
    w : ℕ
    w = r.width

    n : ℕ
    n = num (take w rest)

    go : (a b c d e : Bool) → Begins m (cond a (cond b (cond c (cond d (good (l - w) ((x ∷ vs) ++ (n ∷ [])) (drop w rest)) (bad (number r.refusal))) (bad 18)) (cond e (bad 17) (bad 18))) (good l ((x ∷ vs) ++ (0 ∷ [])) rest))
    go true true true true e = first (l - w) x (vs ++ (n ∷ [])) (drop w rest) h
    go true true true false e = over (number r.refusal)
    go true true false d e = over 18
    go true false c d true = over 17
    go true false c d false = over 18
    go false b c d e = first l x (vs ++ (0 ∷ [])) rest h

rows_begin : (m : ℕ) (rs : List Row) (d : Reading) → Begins m d → Begins m (steps rs d)
unfolding steps
rows_begin m [] d h = h
rows_begin m (r ∷ rs) d h = rows_begin m rs (step r d) (row_begins m r d h)

begin : (m : ℕ) (r : Row) (left : ℕ) (bs : List ℕ) → r.low ≡ 0 → r.most ≤ m → Begins m (step r (good left [] bs))
unfolding step taken
begin m r left bs z h = rw (always r [] z) (go (leb w left) (leb w (length bs)) (within r n) refl (leb left (length bs)))
  where
    w : ℕ
    w = r.width

    n : ℕ
    n = num (take w bs)

    go : (b c d : Bool) → within r n ≡ d → (e : Bool) → Begins m (cond b (cond c (cond d (good (left - w) ([] ++ (n ∷ [])) (drop w bs)) (bad (number r.refusal))) (bad 18)) (cond e (bad 17) (bad 18)))
    go true true true q e = first (left - w) n [] (drop w bs) (omega (arith, within_most r n q))
    go true true false q e = over (number r.refusal)
    go true false d q e = over 18
    go false c d q true = over 17
    go false c d q false = over 18

low_of : (m : ℕ) (d : Reading) (l : ℕ) (us rest : List ℕ) → Begins m d → d ≡ good l us rest → get_or us 0 0 ≤ m
low_of m _ l us rest (over k) e = bad_good k l us rest e
low_of m _ l us rest (first j x vs b h) e =
    let u : (x ∷ vs) ≡ us = cc in
    let v : x ≡ get_or us 0 0 = ap (λ (z : List ℕ). get_or z 0 0) u in
    omega arith

pub first_low : (k left l : ℕ) (bs us rest : List ℕ) → steps (field_rows k) (good left [] bs) ≡ good l us rest → get_or us 0 0 ≤ 4294967295
unfolding given_rows laned_rows steps
first_low k left l bs us rest e = go (eqb k 4) e
  where
    go : (b : Bool) → steps (cond b given_rows laned_rows) (good left [] bs) ≡ good l us rest → get_or us 0 0 ≤ 4294967295
    go true q = low_of 4294967295 _ l us rest (rows_begin 4294967295 (drop 1 given_rows) _ (begin 4294967295 (row 4 0 0 0 4294967295 Record) left bs refl (omega arith))) q
    go false q = low_of 4294967295 _ l us rest (rows_begin 4294967295 (drop 1 laned_rows) _ (begin 4294967295 (row 2 0 0 1 1024 Record) left bs refl (omega arith))) q
