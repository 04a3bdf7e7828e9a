-- A window that is too narrow for its record reports that the record's end is missing, and no other refusal. Assumes nothing.
use mathlib.Core.Path.{◌≡◌, refl, subst}
use Prim.Native.Nat.{ℕ, ◌+◌, ◌-◌, ◌≤◌}
use native.Mathlib.Omega.{arith}
use mathlib.Core.Bool.{Bool, true, false, cond}
use mathlib.Core.List.{List, [], ◌∷◌, ◌++◌}
use lib.Dec.{leb, eqb}
use lib.ListN.{length, get_or, take, drop, length-append, take-append-drop}
use lib.Seq.{take-append-le, drop-append-le}
use borrow.Author.Tests.{le-leb, leb-true}
use Rattle.refusals.specs.Numbers.{number}
use Rattle.byte_layout.specs.declared.Row.{Row}
use Rattle.byte_layout.specs.Numbers.{num}
use Rattle.byte_layout.specs.Rows.{stands, within}
use Rattle.byte_layout.specs.Reads.{Reading, bad, good, taken, step, steps}
use Rattle.trace_records.specs.Tables.{head_rows, body}
use Rattle.trace_records.specs.Records.{Record, possible, Found, refused, found, ended, bodied, read_record, valued, record_at}

-- a reading of the whole compared with the reading of a window, with m bytes after the window
data Beside (m : List ℕ) : Reading → Reading → Type 0 where
  short : (x : Reading) → Beside m x (bad 18)
  alike : (k : ℕ) → Beside m (bad k) (bad k)
  onwards : (l : ℕ) (us rest : List ℕ) → Beside m (good l us (rest ++ m)) (good l us rest)

one_row : (r : Row) (left : ℕ) (vs win m : List ℕ) → Beside m (step r (good left vs (win ++ m))) (step r (good left vs win))
unfolding step taken
one_row r left vs win m = go (stands r vs)
  where
    w : ℕ
    w = r.width

    n : ℕ
    n = num (take w win)

    fits : (b : Bool) → Beside m (cond b (good (left - w) (vs ++ (n ∷ [])) (drop w win ++ m)) (bad (number r.refusal)))
        (cond b (good (left - w) (vs ++ (n ∷ [])) (drop w win)) (bad (number r.refusal)))
    fits true = onwards (left - w) (vs ++ (n ∷ [])) (drop w win)
    fits false = alike (number r.refusal)

    inside : (b : Bool) → leb w (length win) ≡ b
        → Beside m
        (cond (leb w (length (win ++ m)))
        (cond (within r (num (take w (win ++ m)))) (good (left - w) (vs ++ (num (take w (win ++ m)) ∷ [])) (drop w (win ++ m))) (bad (number r.refusal)))
        (bad 18))
        (cond b (cond (within r n) (good (left - w) (vs ++ (n ∷ [])) (drop w win)) (bad (number r.refusal))) (bad 18))
    inside true e =
        let a = leb-true w (length win) e in
        let b : w ≤ length (win ++ m) = omega (arith, length-append win m) in
        rw (le-leb w (length (win ++ m)) b, take-append-le w win m a, drop-append-le w win m a) (fits (within r n))
    inside false e = short _

    past : (b : Bool) → leb left (length win) ≡ b
        → Beside m (cond (leb left (length (win ++ m))) (bad 17) (bad 18)) (cond b (bad 17) (bad 18))
    past true e =
        let a = leb-true left (length win) e in
        let b : left ≤ length (win ++ m) = omega (arith, length-append win m) in
        rw (le-leb left (length (win ++ m)) b) (alike 17)
    past false e = short _

    room : (b : Bool) → Beside m
        (cond b
        (cond (leb w (length (win ++ m)))
        (cond (within r (num (take w (win ++ m)))) (good (left - w) (vs ++ (num (take w (win ++ m)) ∷ [])) (drop w (win ++ m))) (bad (number r.refusal)))
        (bad 18))
        (cond (leb left (length (win ++ m))) (bad 17) (bad 18)))
        (cond b
        (cond (leb w (length win)) (cond (within r n) (good (left - w) (vs ++ (n ∷ [])) (drop w win)) (bad (number r.refusal))) (bad 18))
        (cond (leb left (length win)) (bad 17) (bad 18)))
    room true = inside (leb w (length win)) refl
    room false = past (leb left (length win)) refl

    go : (b : Bool) → Beside m (cond b (taken r left vs (win ++ m)) (good left (vs ++ (0 ∷ [])) (win ++ m)))
        (cond b (taken r left vs win) (good left (vs ++ (0 ∷ [])) win))
    go true = room (leb w left)
    go false = onwards left (vs ++ (0 ∷ [])) win

row_beside : (r : Row) (m : List ℕ) (x y : Reading) → Beside m x y → Beside m (step r x) (step r y)
unfolding step
row_beside r m _ _ (short x) = short _
row_beside r m _ _ (alike k) = alike k
row_beside r m _ _ (onwards l us rest) = one_row r l us rest m

rows_beside : (rs : List Row) (m : List ℕ) (x y : Reading) → Beside m x y → Beside m (steps rs x) (steps rs y)
unfolding steps
rows_beside [] m x y h = h
rows_beside (r ∷ rs) m x y h = rows_beside rs m (step r x) (step r y) (row_beside r m x y h)

-- what is found in the whole compared with what is found in the window
data FoundBeside (m : List ℕ) : Found → Found → Type 0 where
  missing : (x : Found) → FoundBeside m x (refused 18)
  refusal : (k : ℕ) → FoundBeside m (refused k) (refused k)
  both : (k : ℕ) (ws rest : List ℕ) → FoundBeside m (found k ws (rest ++ m)) (found k ws rest)

ended_beside : (k : ℕ) (m : List ℕ) (x y : Reading) → Beside m x y → FoundBeside m (ended k x) (ended k y)
unfolding ended
ended_beside k m _ _ (short x) = missing _
ended_beside k m _ _ (alike n) = refusal n
ended_beside k m _ _ (onwards l ws rest) = go (eqb l 0)
  where
    go : (b : Bool) → FoundBeside m (cond b (found k ws (rest ++ m)) (refused 17)) (cond b (found k ws rest) (refused 17))
    go true = both k ws rest
    go false = refusal 17

bodied_beside : (m : List ℕ) (x y : Reading) → Beside m x y → FoundBeside m (bodied x) (bodied y)
unfolding bodied
bodied_beside m _ _ (short x) = missing _
bodied_beside m _ _ (alike n) = refusal n
bodied_beside m _ _ (onwards l hs rest) = go (possible k n)
  where
    k : ℕ
    k = get_or hs 2 0

    n : ℕ
    n = get_or hs 3 0

    go : (b : Bool) → FoundBeside m (cond b (ended k (steps (body k) (good n [] (rest ++ m)))) (refused 17))
        (cond b (ended k (steps (body k) (good n [] rest))) (refused 17))
    go true = ended_beside k m _ _ (rows_beside (body k) m _ _ (onwards n [] rest))
    go false = refusal 17

-- the record of a window: its end is missing there, or it is the record of the whole
pub data Shown (d e : Record) : Type 0 where
  cut_off : e.refusal ≡ 18 → Shown d e
  whole : e ≡ d → Shown d e

valued_beside : (m : List ℕ) (len end : ℕ) (x y : Found) → len ≡ end + length m → FoundBeside m x y
    → Shown (valued len 0 x) (valued end 0 y)
unfolding valued
valued_beside m len end _ _ e (missing x) = cut_off refl
valued_beside m len end _ _ e (refusal k) = whole refl
valued_beside m len end _ _ e (both k ws rest) =
    let q : end - length rest ≡ len - length (rest ++ m) = omega (arith, length-append rest m) in
    whole (rw q refl)

pub narrow : (w : ℕ) (bs : List ℕ) → Shown (record_at bs 0) (record_at (take w bs) 0)
unfolding record_at read_record
narrow w bs = subst (λ (l : List ℕ). Shown (record_at l 0) (record_at (take w bs) 0)) (take-append-drop w bs) of_parts
  where
    of_parts : Shown (record_at (take w bs ++ drop w bs) 0) (record_at (take w bs) 0)
    of_parts =
        valued_beside (drop w bs) (length (take w bs ++ drop w bs)) (length (take w bs)) _ _ (length-append (take w bs) (drop w bs))
        (bodied_beside (drop w bs) _ _ (rows_beside head_rows (drop w bs) _ _ (onwards 5 [] (take w bs))))
