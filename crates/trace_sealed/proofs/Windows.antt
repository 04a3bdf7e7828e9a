-- A sealed record has at most 24,598 bytes, so a window of as many bytes, or of all that is left, reads the same as the
-- whole. Assumes nothing.
use mathlib.Core.Path.{◌≡◌, refl, sym, ap, ◌∙◌}
use Prim.Native.Nat.{ℕ, ◌+◌, ◌-◌, ◌≤◌}
use native.Mathlib.Omega.{arith}
use mathlib.Core.Bool.{Bool, true, false, ◌&&◌, cond}
use mathlib.Core.List.{List, [], ◌∷◌, ◌++◌}
use lib.Dec.{leb, eqb}
use lib.ListN.{length, get_or, take, drop, length-append, length-drop, take-append-drop}
use lib.Seq.{take-append-le, drop-append-le, length-take-le, take_all}
use borrow.Author.Tests.{le-leb, leb-true, leb-false, eqb-true}
use Rattle.byte_layout.specs.Numbers.{num}
use Rattle.byte_layout.specs.Reads.{Reading, good, steps}
use Rattle.crc32.specs.Checksums.{checksum_of}
use Rattle.trace_records.specs.Records.{Record, Found, refused, found, record_at}
use Rattle.trace_records.proofs.Windows.{longer, Holds, refusal, input, rows_same, beyond}
use Rattle.trace_records.proofs.Windows as of-version-1
use Rattle.trace_sealed.specs.Tables.{head_rows, field_rows, lane_bytes}
use Rattle.trace_sealed.specs.Records.{possible, tail, closed, bodied, read_sealed, is_sealed, valued, sealed_at, any_at}
use Rattle.trace_sealed.proofs.Ways.{some}
use Rattle.trace_sealed.proofs.Rounds.{possible_few, tail_facts}

tail_same : (w left i j : ℕ) → left + 4 ≤ i → left + 4 ≤ j → tail w left i ≡ tail w left j
unfolding tail
tail_same w left i j a b = go (leb w left) refl (eqb w left) refl
  where
    go : (c : Bool) → leb w left ≡ c → (d : Bool) → eqb w left ≡ d → ◌≡◌ {A = ℕ} (cond c (cond (leb w i) (cond d (cond (leb (w + 4) i) 0 18) 17) 18) (cond (leb left i) 17 18)) (cond c (cond (leb w j) (cond d (cond (leb (w + 4) j) 0 18) 17) 18) (cond (leb left j) 17 18))
    go true p true q =
        let e = eqb-true w left q in
        rw (le-leb w i (omega arith), le-leb w j (omega arith), le-leb (w + 4) i (omega arith), le-leb (w + 4) j (omega arith)) refl
    go true p false q =
        let e = leb-true w left p in
        rw (le-leb w i (omega arith), le-leb w j (omega arith)) refl
    go false p d q = rw (le-leb left i (omega arith), le-leb left j (omega arith)) refl

closed_same : (covered : List ℕ) (k : ℕ) (m : List ℕ) (x : Reading) → Holds 4 x → closed covered k (longer m x) ≡ beyond m (closed covered k x)
unfolding closed longer beyond
closed_same covered k m _ (refusal n) = refl
closed_same covered k m _ (input left vs bs h) =
    rw (tail_same w left (length (bs ++ m)) (length bs) (omega (arith, length-append bs m)) h) (go (eqb (tail w left (length bs)) 0) refl)
  where
    w : ℕ
    w = lane_bytes k vs

    summed : (b : Bool) → cond b (found k (vs ++ take w bs) (drop (w + 4) bs ++ m)) (refused 17) ≡ beyond m (cond b (found k (vs ++ take w bs) (drop (w + 4) bs)) (refused 17))
    summed true = refl
    summed false = refl

    go : (a : Bool) → eqb (tail w left (length bs)) 0 ≡ a
        → cond a (cond (eqb (num (take 4 (drop w (bs ++ m)))) (checksum_of covered)) (found k (vs ++ take w (bs ++ m)) (drop (w + 4) (bs ++ m))) (refused 17)) (refused (tail w left (length bs)))
        ≡ beyond m (cond a (cond (eqb (num (take 4 (drop w bs))) (checksum_of covered)) (found k (vs ++ take w bs) (drop (w + 4) bs)) (refused 17)) (refused (tail w left (length bs))))
    go false e = refl
    go true e =
        let z = (tail_facts w left (length bs) (eqb-true (tail w left (length bs)) 0 e)).1 in
        let a : drop w (bs ++ m) ≡ drop w bs ++ m = drop-append-le w bs m (omega arith) in
        let b : take 4 (drop w bs ++ m) ≡ take 4 (drop w bs) = take-append-le 4 (drop w bs) m (omega (arith, length-drop w bs)) in
        let c : take w (bs ++ m) ≡ take w bs = take-append-le w bs m (omega arith) in
        let d : drop (w + 4) (bs ++ m) ≡ drop (w + 4) bs ++ m = drop-append-le (w + 4) bs m (omega arith) in
        rw (a, b, c, d) (summed (eqb (num (take 4 (drop w bs))) (checksum_of covered)))

covered_same : (win m : List ℕ) (n : ℕ) → 41 ≤ n → n ≤ 24593 → 24598 ≤ length win → take (n - 1) (drop 2 (win ++ m)) ≡ take (n - 1) (drop 2 win)
covered_same win m n a b h = ap (take (n - 1)) (drop-append-le 2 win m (omega arith)) ∙ take-append-le (n - 1) (drop 2 win) m (omega (arith, length-drop 2 win))

bodied_same : (win m : List ℕ) → 24598 ≤ length win → (x : Reading) → Holds 24593 x → bodied (win ++ m) (longer m x) ≡ beyond m (bodied win x)
unfolding bodied longer beyond
bodied_same win m l _ (refusal k) = refl
bodied_same win m l _ (input i hs b1 h) = go (possible (get_or hs 2 0) (get_or hs 3 0)) refl
  where
    k : ℕ
    k = get_or hs 2 0

    n : ℕ
    n = get_or hs 3 0

    go : (b : Bool) → possible k n ≡ b → cond b (closed (take (n - 1) (drop 2 (win ++ m))) k (steps (field_rows k) (good (n - 4) [] (b1 ++ m)))) (refused 17) ≡ beyond m (cond b (closed (take (n - 1) (drop 2 win)) k (steps (field_rows k) (good (n - 4) [] b1))) (refused 17))
    go false e = refl
    go true e =
        let f = possible_few k n e in
        let g = some k n e in
        let s = rows_same (field_rows k) 4 m (good (n - 4) [] b1) (input (n - 4) [] b1 (omega arith)) in
        ap (λ (c : List ℕ). closed c k (steps (field_rows k) (good (n - 4) [] (b1 ++ m)))) (covered_same win m n g f l)
        ∙ ap (closed (take (n - 1) (drop 2 win)) k) s.equal
        ∙ closed_same (take (n - 1) (drop 2 win)) k m (steps (field_rows k) (good (n - 4) [] b1)) s.holds

read_same : (win m : List ℕ) → 24598 ≤ length win → read_sealed (win ++ m) ≡ beyond m (read_sealed win)
unfolding read_sealed longer
read_same win m h =
    let s = rows_same head_rows 24593 m (good 5 [] win) (input 5 [] win (omega arith)) in
    ap (bodied (win ++ m)) s.equal ∙ bodied_same win m h (steps head_rows (good 5 [] win)) s.holds

valued_same : (len end at : ℕ) (m : List ℕ) (d : Found) → len ≡ end + length m → valued len at (beyond m d) ≡ valued end at d
unfolding valued beyond
valued_same len end at m (refused n) e = refl
valued_same len end at m (found k ws rest) e = let q : len - length (rest ++ m) ≡ end - length rest = omega (arith, length-append rest m) in rw q refl

none : {A : Type 0} → ⊥ → A
none e = elim e [ ]

third_same : (win m : List ℕ) → 3 ≤ length win → get_or (win ++ m) 2 0 ≡ get_or win 2 0
third_same [] m h = none (omega arith)
third_same (a ∷ []) m h = none (omega arith)
third_same (a ∷ b ∷ []) m h = none (omega arith)
third_same (a ∷ b ∷ c ∷ l) m h = refl

pub window : (bs : List ℕ) (at end : ℕ) → at + 24598 ≤ end → any_at (take end bs) at ≡ any_at bs at
unfolding any_at sealed_at
window bs at end h = go (leb end (length bs)) refl
  where
    go : (b : Bool) → leb end (length bs) ≡ b → cond (is_sealed (drop at (take end bs))) (valued (length (take end bs)) at (read_sealed (drop at (take end bs)))) (record_at (take end bs) at) ≡ cond (is_sealed (drop at bs)) (valued (length bs) at (read_sealed (drop at bs))) (record_at bs at)
    go true e =
        let w = take end bs in
        let m = drop end bs in
        let l : length w ≡ end = length-take-le end bs (leb-true end (length bs) e) in
        let f : drop at bs ≡ drop at w ++ m = ap (drop at) (sym (take-append-drop end bs)) ∙ drop-append-le at w m (omega arith) in
        let c : length bs ≡ length w + length m = omega (arith, l, length-drop end bs, leb-true end (length bs) e) in
        let t : get_or (drop at bs) 2 0 ≡ get_or (drop at w) 2 0 = ap (λ (z : List ℕ). get_or z 2 0) f ∙ third_same (drop at w) m (omega (arith, length-drop at w, l)) in
        let r : valued (length bs) at (read_sealed (drop at bs)) ≡ valued (length w) at (read_sealed (drop at w)) =
        ap (λ (z : List ℕ). valued (length bs) at (read_sealed z)) f ∙ ap (valued (length bs) at) (read_same (drop at w) m (omega (arith, length-drop at w, l))) ∙ valued_same (length bs) (length w) at m (read_sealed (drop at w)) c in
        sym (ap (λ (z : ℕ). cond (leb 4 z && leb z 5) (valued (length bs) at (read_sealed (drop at bs))) (record_at bs at)) t
        ∙ ap (λ (z : Record). cond (is_sealed (drop at w)) z (record_at bs at)) r
        ∙ ap (cond (is_sealed (drop at w)) (valued (length w) at (read_sealed (drop at w)))) (sym (of-version-1.window bs at end (omega arith))))
    go false e = ap (λ (z : List ℕ). cond (is_sealed (drop at z)) (valued (length z) at (read_sealed (drop at z))) (record_at z at)) (take_all end bs (omega (arith, leb-false end (length bs) e)))
