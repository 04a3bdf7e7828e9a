-- A record has at most 575 bytes, so from a window of as many, or of all that is left, the same is read as from the whole.
use mathlib.Core.Path.{◌≡◌, refl, sym, ap, ◌∙◌}
use Prim.Native.Nat.{ℕ, zero, suc, ◌+◌, ◌-◌, ◌%◌, ◌≤◌, ◌<◌}
use native.Mathlib.Nat.{le_refl, le_trans}
use native.Mathlib.Omega.{arith}
use mathlib.Core.Bool.{Bool, true, false, ◌&&◌, cond}
use mathlib.Core.List.{List, [], ◌∷◌, ◌++◌}
use lib.Dec.{leb, eqb}
use lib.ListN.{length, get_or, take, drop, length-append, length-drop, take-append-drop}
use lib.Seq.{length-take-le}
use borrow.Author.Tests.{le-leb, leb-true, leb-false}
use Rattle.refusals.specs.Numbers.{number}
use Rattle.byte_layout.specs.declared.Row.{Row}
use Rattle.byte_layout.specs.Numbers.{num}
use Rattle.byte_layout.specs.Rows.{stands, within}
use Rattle.byte_layout.specs.Reads.{Reading, bad, good, taken, step, steps}
use Rattle.byte_layout.proofs.Codec.{ands}
use Rattle.byte_layout.proofs.Low.{some_refusal}
use Rattle.trace_records.specs.Tables.{head_rows, body}
use Rattle.trace_records.specs.Records.{shortest, longest, possible, Found, refused, found, ended, bodied, read_record, valued, record_at}
use Rattle.trace_records.proofs.Rounds.{longest_few}

none : {A : Type 0} → ⊥ → A
none e = elim e [ ]

take_front : (n : ℕ) (xs ys : List ℕ) → n ≤ length xs → take n (xs ++ ys) ≡ take n xs
take_front zero xs ys h = refl
take_front (suc n) [] ys h = none (omega arith)
take_front (suc n) (x ∷ xs) ys h = ap (λ (l : List ℕ). x ∷ l) (take_front n xs ys (omega arith))

drop_front : (n : ℕ) (xs ys : List ℕ) → n ≤ length xs → drop n (xs ++ ys) ≡ drop n xs ++ ys
drop_front zero xs ys h = refl
drop_front (suc n) [] ys h = none (omega arith)
drop_front (suc n) (x ∷ xs) ys h = drop_front n xs ys (omega arith)

-- a reading with more input behind it
unfoldable pub longer : List ℕ → Reading → Reading
longer m (bad k) = bad k
longer m (good l us rest) = good l us (rest ++ m)

-- the input holds what is left of the payload, and d bytes more
pub data Holds (d : ℕ) : Reading → Type 0 where
  refusal : (k : ℕ) → Holds d (bad k)
  input : (l : ℕ) (us rest : List ℕ) → l + d ≤ length rest → Holds d (good l us rest)

pub record Same (d : ℕ) (m : List ℕ) (x y : Reading) : Type 0 where
  pub equal : x ≡ longer m y
  pub holds : Holds d y

one_row : (r : Row) (d left : ℕ) (vs win m : List ℕ) → left + d ≤ length win → Same d m (step r (good left vs (win ++ m))) (step r (good left vs win))
unfolding step taken longer
one_row r d left vs win m h = go (stands r vs)
  where
    w : ℕ
    w = r.width

    n : ℕ
    n = num (take w win)

    fits : w ≤ left → (b : Bool) → Same d m (cond b (good (left - w) (vs ++ (n ∷ [])) (drop w win ++ m)) (bad (number r.refusal))) (cond b (good (left - w) (vs ++ (n ∷ [])) (drop w win)) (bad (number r.refusal)))
    fits p true = record { equal = refl; holds = input (left - w) (vs ++ (n ∷ [])) (drop w win) (omega (arith, length-drop w win)) }
    fits p false = record { equal = refl; holds = refusal (number r.refusal) }

    room : (b : Bool) → leb w left ≡ b → Same d m
        (cond b (cond (leb w (length (win ++ m))) (cond (within r (num (take w (win ++ m)))) (good (left - w) (vs ++ (num (take w (win ++ m)) ∷ [])) (drop w (win ++ m))) (bad (number r.refusal))) (bad 18)) (cond (leb left (length (win ++ m))) (bad 17) (bad 18)))
        (cond b (cond (leb w (length win)) (cond (within r n) (good (left - w) (vs ++ (n ∷ [])) (drop w win)) (bad (number r.refusal))) (bad 18)) (cond (leb left (length win)) (bad 17) (bad 18)))
    room true e =
        let p = leb-true w left e in
        let a : w ≤ length win = omega arith in
        let b : w ≤ length (win ++ m) = omega (arith, length-append win m) in
        rw (le-leb w (length win) a, le-leb w (length (win ++ m)) b, take_front w win m a, drop_front w win m a) (fits p (within r n))
    room false e =
        let a : left ≤ length win = omega arith in
        let b : left ≤ length (win ++ m) = omega (arith, length-append win m) in
        rw (le-leb left (length win) a, le-leb left (length (win ++ m)) b) (record { equal = refl; holds = refusal 17 })

    go : (b : Bool) → Same d m (cond b (taken r left vs (win ++ m)) (good left (vs ++ (0 ∷ [])) (win ++ m))) (cond b (taken r left vs win) (good left (vs ++ (0 ∷ [])) win))
    go true = room (leb w left) refl
    go false = record { equal = refl; holds = input left (vs ++ (0 ∷ [])) win h }

row_same : (r : Row) (d : ℕ) (m : List ℕ) (x : Reading) → Holds d x → Same d m (step r (longer m x)) (step r x)
unfolding longer step
row_same r d m _ (refusal k) = record { equal = refl; holds = refusal k }
row_same r d m _ (input l us rest h) = one_row r d l us rest m h

pub rows_same : (rs : List Row) (d : ℕ) (m : List ℕ) (x : Reading) → Holds d x → Same d m (steps rs (longer m x)) (steps rs x)
unfolding steps
rows_same [] d m x h = record { equal = refl; holds = h }
rows_same (r ∷ rs) d m x h =
    let s = row_same r d m x h in
    let t = rows_same rs d m (step r x) s.holds in
    record { equal = ap (steps rs) s.equal ∙ t.equal; holds = t.holds }

-- what is found, with more input behind it
unfoldable pub beyond : List ℕ → Found → Found
beyond m (refused n) = refused n
beyond m (found k ws rest) = found k ws (rest ++ m)

ended_same : (k : ℕ) (m : List ℕ) (x : Reading) → ended k (longer m x) ≡ beyond m (ended k x)
unfolding ended longer beyond
ended_same k m (bad n) = refl
ended_same k m (good l ws rest) = go (eqb l 0)
  where
    go : (b : Bool) → cond b (found k ws (rest ++ m)) (refused 17) ≡ beyond m (cond b (found k ws rest) (refused 17))
    go true = refl
    go false = refl

possible_few : (k n : ℕ) → possible k n ≡ true → n ≤ 570
unfolding possible
possible_few k n e =
    let a = ands (leb (shortest k) n && leb n (longest k)) (eqb ((n - shortest k) % 8) 0) e in
    let b = ands (leb (shortest k) n) (leb n (longest k)) a.0 in
    omega (arith, leb-true n (longest k) b.1, longest_few k)

bodied_same : (m : List ℕ) (x : Reading) → Holds 570 x → bodied (longer m x) ≡ beyond m (bodied x)
unfolding bodied longer beyond
bodied_same m _ (refusal k) = refl
bodied_same m _ (input l hs b1 h) = go (possible (get_or hs 2 0) (get_or hs 3 0)) refl
  where
    k : ℕ
    k = get_or hs 2 0

    n : ℕ
    n = get_or hs 3 0

    go : (b : Bool) → possible k n ≡ b → cond b (ended k (steps (body k) (good n [] (b1 ++ m)))) (refused 17) ≡ beyond m (cond b (ended k (steps (body k) (good n [] b1))) (refused 17))
    go true e =
        let s = rows_same (body k) 0 m (good n [] b1) (input n [] b1 (omega (arith, possible_few k n e))) in
        ap (ended k) s.equal ∙ ended_same k m (steps (body k) (good n [] b1))
    go false e = refl

read_same : (win m : List ℕ) → 575 ≤ length win → read_record (win ++ m) ≡ beyond m (read_record win)
unfolding read_record longer
read_same win m h =
    let s = rows_same head_rows 570 m (good 5 [] win) (input 5 [] win (omega arith)) in
    ap bodied s.equal ∙ bodied_same m (steps head_rows (good 5 [] win)) s.holds

valued_same : (len end at : ℕ) (m : List ℕ) (d : Found) → len ≡ end + length m → valued len at (beyond m d) ≡ valued end at d
unfolding valued beyond
valued_same len end at m (refused n) e = refl
valued_same len end at m (found k ws rest) e = let q : len - length (rest ++ m) ≡ end - length rest = omega (arith, length-append rest m) in rw q refl

pub window : (bs : List ℕ) (at end : ℕ) → at + 575 ≤ end → record_at (take end bs) at ≡ record_at bs at
unfolding record_at
window bs at end h = go (leb end (length bs)) refl
  where
    go : (b : Bool) → leb end (length bs) ≡ b → valued (length (take end bs)) at (read_record (drop at (take end bs))) ≡ valued (length bs) at (read_record (drop at bs))
    go true e =
        let w = take end bs in
        let m = drop end bs in
        let l : length w ≡ end = length-take-le end bs (leb-true end (length bs) e) in
        let f : drop at bs ≡ drop at w ++ m = ap (drop at) (sym (take-append-drop end bs)) ∙ drop_front at w m (omega arith) in
        let c : length bs ≡ length w + length m = omega (arith, l, length-drop end bs, leb-true end (length bs) e) in
        sym (ap (λ (z : List ℕ). valued (length bs) at (read_record z)) f ∙ ap (valued (length bs) at) (read_same (drop at w) m (omega (arith, length-drop at w, l))) ∙ valued_same (length bs) (length w) at m (read_record (drop at w)) c)
    go false e = ap (λ (z : List ℕ). valued (length z) at (read_record (drop at z))) (all end bs (omega (arith, leb-false end (length bs) e)))
      where
        all : (n : ℕ) (xs : List ℕ) → length xs ≤ n → take n xs ≡ xs
        all zero [] q = refl
        all zero (x ∷ xs) q = none (omega arith)
        all (suc n) [] q = refl
        all (suc n) (x ∷ xs) q = ap (λ (l : List ℕ). x ∷ l) (all n xs (omega arith))

-- ---- a refusal is a number

-- what is found: its refusal, 1 for none
unfoldable answered : Found → ℕ
answered (refused k) = k
answered (found k ws rest) = 1

ended_answered : (k n : ℕ) (rs : List Row) (bs : List ℕ) → 0 < answered (ended k (steps rs (good n [] bs)))
unfolding answered ended
ended_answered k n rs bs = go (steps rs (good n [] bs)) refl
  where
    whole : (b : Bool) (ws rest : List ℕ) → 0 < answered (cond b (found k ws rest) (refused 17))
    whole true ws rest = omega arith
    whole false ws rest = omega arith

    go : (d : Reading) → steps rs (good n [] bs) ≡ d → 0 < answered (ended k d)
    go (bad j) e = some_refusal rs bs n j e
    go (good l ws rest) e = whole (eqb l 0) ws rest

pub refusal_numbered : (bs : List ℕ) (n : ℕ) → read_record bs ≡ refused n → 0 < n
unfolding read_record bodied answered
refusal_numbered bs n e = omega (arith, ap answered e, go (steps head_rows (good 5 [] bs)) refl)
  where
    possibly : (b : Bool) (k m : ℕ) (rest : List ℕ) → 0 < answered (cond b (ended k (steps (body k) (good m [] rest))) (refused 17))
    possibly true k m rest = ended_answered k m (body k) rest
    possibly false k m rest = omega arith

    go : (d : Reading) → steps head_rows (good 5 [] bs) ≡ d → 0 < answered (bodied d)
    go (bad j) q = some_refusal head_rows bs 5 j q
    go (good l hs rest) q = possibly (possible (get_or hs 2 0) (get_or hs 3 0)) (get_or hs 2 0) (get_or hs 3 0) rest

-- ---- reading leaves no more input than there was

unfoldable behind : Reading → ℕ
behind (bad k) = 0
behind (good l us rest) = length rest

row_behind : (r : Row) (d : Reading) → behind (step r d) ≤ behind d
unfolding behind step taken
row_behind r (bad k) = le_refl 0
row_behind r (good left vs bs) = go (stands r vs) (leb w left) (leb w (length bs)) (within r n) (leb left (length bs))
  where
    w : ℕ
    w = r.width

    n : ℕ
    n = num (take w bs)

    go : (a b c d e : Bool) → behind (cond a (cond b (cond c (cond d (good (left - w) (vs ++ (n ∷ [])) (drop w bs)) (bad (number r.refusal))) (bad 18)) (cond e (bad 17) (bad 18))) (good left (vs ++ (0 ∷ [])) bs)) ≤ length bs
    go true true true true e = omega (arith, length-drop w bs)
    go true true true false e = omega arith
    go true true false d e = omega arith
    go true false c d true = omega arith
    go true false c d false = omega arith
    go false b c d e = le_refl (length bs)

rows_behind : (rs : List Row) (d : Reading) → behind (steps rs d) ≤ behind d
unfolding steps
rows_behind [] d = le_refl (behind d)
rows_behind (r ∷ rs) d = le_trans (rows_behind rs (step r d)) (row_behind r d)

-- the bytes behind a record that is found
unfoldable pub unread : Found → ℕ
unread (refused k) = 0
unread (found k ws rest) = length rest

ended_behind : (k : ℕ) (d : Reading) → unread (ended k d) ≤ behind d
unfolding unread ended behind
ended_behind k (bad n) = le_refl 0
ended_behind k (good l ws rest) = go (eqb l 0)
  where
    go : (b : Bool) → unread (cond b (found k ws rest) (refused 17)) ≤ length rest
    go true = le_refl (length rest)
    go false = omega arith

bodied_behind : (d : Reading) → unread (bodied d) ≤ behind d
unfolding unread bodied behind
bodied_behind (bad n) = le_refl 0
bodied_behind (good l hs bs) = go (possible (get_or hs 2 0) (get_or hs 3 0))
  where
    k : ℕ
    k = get_or hs 2 0

    r : Reading
    r = good (get_or hs 3 0) [] bs

    go : (b : Bool) → unread (cond b (ended k (steps (body k) (good (get_or hs 3 0) [] bs))) (refused 17)) ≤ length bs
    go true = le_trans (ended_behind k (steps (body k) r)) (rows_behind (body k) r)
    go false = omega arith

pub unread_few : (bs : List ℕ) → unread (read_record bs) ≤ length bs
unfolding read_record behind
unread_few bs = le_trans (bodied_behind (steps head_rows (good 5 [] bs))) (rows_behind head_rows (good 5 [] bs))
