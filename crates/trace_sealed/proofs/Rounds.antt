-- A sealed record is read back as it was written, whatever follows it, and what is read is what would be written. Assumes nothing.
use mathlib.Core.Path.{◌≡◌, refl, sym, ap, ◌∙◌, subst}
use Prim.Native.Nat.{ℕ, ◌+◌, ◌-◌, ◌*◌, ◌%◌, ◌≤◌}
use native.Mathlib.Omega.{arith}
use native.Mathlib.Nat.{add-mul-mod_self_left}
use mathlib.Core.Bool.{Bool, true, false, ◌&&◌, cond}
use mathlib.Core.List.{List, [], ◌∷◌, ◌++◌, append_assoc}
use lib.Dec.{leb, eqb, leb-zero}
use lib.ListN.{length, get_or, take, drop, length-append, length-drop, take-append-drop}
use lib.Seq.{take_at, drop_at, drop-append-le, drop-drop, length-take-le}
use borrow.Author.Tests.{le-leb, leb-true, eqb-true, eq-eqb}
use Rattle.refusals.specs.declared.Refusal.TheVariants.{Record}
use Rattle.byte_layout.specs.Numbers.{num, bytes}
use Rattle.byte_layout.specs.Rows.{row, stands, within}
use Rattle.byte_layout.specs.Reads.{Reading, bad, good, steps}
use Rattle.byte_layout.specs.Writes.{field, payload, fits, fine}
use Rattle.byte_layout.proofs.Numbers.{Small, small_drop, num_bytes, bytes_num, length_bytes}
use Rattle.byte_layout.proofs.Codec.{never, both, ands, read_written, written_read}
use Rattle.byte_layout.proofs.Lengths.{always, most, least, eights, at_most, at_least, apart}
use Rattle.crc32.specs.Checksums.{checksum_of}
use Rattle.trace_records.specs.Records.{refused, found, in_steps}
use Rattle.trace_records.specs.Writes.{head_of}
use Rattle.trace_records.proofs.Ways.{between}
use Rattle.trace_records.proofs.Rounds.{refused_found, Head, head_is, head_known, small_after}
use Rattle.trace_sealed.specs.Tables.{head_rows, given_rows, laned_rows, field_rows, lane_bytes}
use Rattle.trace_sealed.specs.Records.{possible, tail, closed, bodied, read_sealed}
use Rattle.trace_sealed.specs.Writes.{unsealed, sealed_of, sealed_kind, Sealable}
use Rattle.trace_sealed.specs.Promises.{Kept}
use Rattle.trace_sealed.proofs.Sums.{checksum_low, small_append, small_payload, small_take}
use Rattle.trace_sealed.proofs.Ways.{some, rows_sound, head_rows_sound, tail_there, closed_found}

-- ---- lengths

given_rows_lem : (least given_rows ≡ 61) × (most given_rows ≡ 93) × (eights given_rows ≡ true)
unfolding least most eights given_rows
given_rows_lem = (refl, refl, refl)

laned_rows_lem : (least laned_rows ≡ 13) × (most laned_rows ≡ 13)
unfolding least most laned_rows
laned_rows_lem = (refl, refl)

-- the frames of a block
frames : (vs : List ℕ) → fine laned_rows [] vs ≡ true → (1 ≤ get_or vs 0 0) × (get_or vs 0 0 ≤ 1024)
unfolding laned_rows fine fits within
frames [] e = never e
frames (x ∷ ws) e =
    let r = row 2 0 0 1 1024 Record in
    let f = both (within r x) (fine (drop 1 laned_rows) ([] ++ (x ∷ [])) ws) (rw (always r [] refl) at e) in
    let g = ands (leb 1 x) (leb x 1024) f.0 in
    (leb-true 1 x g.0, leb-true x 1024 g.1)

in_eights : (n t : ℕ) → n ≡ 61 + 8 * t → n ≤ 93 → in_steps (n + 0 + 4) 65 97 8 ≡ true
in_eights n t e h =
    let d : n + 0 + 4 - 65 ≡ 0 + 8 * t = omega arith in
    sym (between (n + 0 + 4) 65 97 8 (omega arith) (omega arith)) ∙ eq-eqb ((n + 0 + 4 - 65) % 8) 0 (ap (λ (z : ℕ). z % 8) d ∙ add-mul-mod_self_left 0 8 t)

in_frames : (n l f : ℕ) → n ≡ 13 → l ≡ 24 * f → 1 ≤ f → f ≤ 1024 → in_steps (n + l + 4) 41 24593 24 ≡ true
in_frames n l f e g a b =
    let d : n + l + 4 - 41 ≡ 0 + 24 * (f - 1) = omega arith in
    sym (between (n + l + 4) 41 24593 24 (omega arith) (omega arith)) ∙ eq-eqb ((n + l + 4 - 41) % 24) 0 (ap (λ (z : ℕ). z % 24) d ∙ add-mul-mod_self_left 0 24 (f - 1))

-- a length that fields and lanes have is possible
pub body_possible : (k : ℕ) (vs lanes : List ℕ) → fine (field_rows k) [] vs ≡ true → length lanes ≡ lane_bytes k vs → possible k (length (payload (field_rows k) [] vs) + length lanes + 4) ≡ true
unfolding possible
body_possible k vs lanes e l = go (eqb k 4) e l
  where
    go : (b : Bool) → fine (cond b given_rows laned_rows) [] vs ≡ true → length lanes ≡ cond b 0 (24 * get_or vs 0 0)
        → cond b (in_steps (length (payload (cond b given_rows laned_rows) [] vs) + length lanes + 4) 65 97 8) (in_steps (length (payload (cond b given_rows laned_rows) [] vs) + length lanes + 4) 41 24593 24) ≡ true
    go true f m =
        let a = apart given_rows [] vs given_rows_lem.2 f in
        rw m (in_eights (length (payload given_rows [] vs)) a.times (omega (arith, a.is, given_rows_lem.0)) (omega (arith, at_most given_rows [] vs, given_rows_lem.1)))
    go false f m =
        let g = frames vs f in
        in_frames (length (payload laned_rows [] vs)) (length lanes) (get_or vs 0 0) (omega (arith, at_most laned_rows [] vs, at_least laned_rows [] vs f, laned_rows_lem)) m g.0 g.1

pub possible_few : (k n : ℕ) → possible k n ≡ true → n ≤ 24593
unfolding possible in_steps
possible_few k n e = go (eqb k 4) e
  where
    few : (low high by : ℕ) → in_steps n low high by ≡ true → n ≤ high
    few low high by q = leb-true n high (ands (leb low n) (leb n high) (ands (leb low n && leb n high) (eqb ((n - low) % by) 0) q).0).1

    go : (b : Bool) → cond b (in_steps n 65 97 8) (in_steps n 41 24593 24) ≡ true → n ≤ 24593
    go true q = omega (arith, few 65 97 8 q)
    go false q = few 41 24593 24 q

-- ---- the head

pub head_length : (k n : ℕ) → length (payload head_rows [] (head_of k n)) ≡ 5
unfolding payload head_rows stands field bytes
head_length k n = refl

kind_true : (k : ℕ) → sealed_kind k ≡ true → (4 ≤ k) × (k ≤ 5)
kind_true k e = let h = ands (leb 4 k) (leb k 5) e in (leb-true 4 k h.0, leb-true k 5 h.1)

head_fine : (k n : ℕ) → sealed_kind k ≡ true → n ≤ 65535 → fine head_rows [] (head_of k n) ≡ true
unfolding head_rows stands fine fits within
head_fine k n e h = let q = kind_true k e in rw (le-leb 4 k q.0, le-leb k 5 q.1, leb-zero n, le-leb n 65535 h) refl

-- what the checksum covers
pub covers : (u rest : List ℕ) (m : ℕ) → length u ≡ m + 2 → take m (drop 2 (u ++ rest)) ≡ drop 2 u
covers u rest m e = ap (take m) (drop-append-le 2 u rest (omega arith)) ∙ take_at (drop 2 u) rest m (length-drop 2 u ∙ omega arith)

-- ---- whatever is written is read back as the same fields

pub read_back : (k : ℕ) (vs lanes rest : List ℕ) → Sealable k vs lanes → read_sealed (sealed_of k vs lanes ++ rest) ≡ found k (vs ++ lanes) rest
unfolding read_sealed bodied sealed_of unsealed
read_back k vs lanes rest x = go (payload (field_rows k) [] vs) refl
  where
    w : ℕ
    w = length lanes

    go : (p : List ℕ) → payload (field_rows k) [] vs ≡ p
        → (let b = p ++ lanes in let u = payload head_rows [] (head_of k (length b + 4)) ++ b in let bs = (u ++ bytes 4 (checksum_of (drop 2 u))) ++ rest in
        bodied bs (steps head_rows (good 5 [] bs)) ≡ found k (vs ++ lanes) rest)
    go p q =
        let b = p ++ lanes in
        let n = length b + 4 in
        let h = payload head_rows [] (head_of k n) in
        let u = h ++ b in
        let sum = checksum_of (drop 2 u) in
        let c = bytes 4 sum in
        let y = lanes ++ (c ++ rest) in
        let bs = (u ++ c) ++ rest in
        let lb : length b ≡ length p + w = length-append p lanes in
        let lc : length c ≡ 4 = length_bytes 4 sum in
        let lh : length h ≡ 5 = head_length k n in
        let lu : length u ≡ 5 + length b = length-append h b ∙ ap (λ (z : ℕ). z + length b) lh in
        let pos : possible k n ≡ true = ap (λ (z : ℕ). possible k (z + 4)) lb ∙ (rw q at (body_possible k vs lanes x.takes x.whole)) in
        let all : bs ≡ u ++ (c ++ rest) = append_assoc u c rest in
        let apart-h : bs ≡ h ++ (p ++ y) = all ∙ append_assoc h b (c ++ rest) ∙ ap (λ (z : List ℕ). h ++ z) (append_assoc p lanes (c ++ rest)) in
        let heads : steps head_rows (good 5 [] bs) ≡ good 0 (head_of k n) (p ++ y) =
        ap (λ (z : List ℕ). steps head_rows (good 5 [] z)) apart-h
        ∙ ap (λ (z : ℕ). steps head_rows (good z [] (h ++ (p ++ y)))) (omega arith)
        ∙ read_written head_rows [] (head_of k n) (p ++ y) 0 head_rows_sound (head_fine k n x.kind (omega (arith, possible_few k n pos))) in
        let fields : steps (field_rows k) (good (n - 4) [] (p ++ y)) ≡ good w vs y =
        ap (λ (z : ℕ). steps (field_rows k) (good z [] (p ++ y))) (omega arith)
        ∙ (rw q at (read_written (field_rows k) [] vs y w (rows_sound k) x.takes)) in
        let small : Small (drop 2 u) = small_drop 2 u (small_append h b (small_payload head_rows [] (head_of k n)) (small_append p lanes (rw q at (small_payload (field_rows k) [] vs)) x.bytes)) in
        let covered : take (n - 1) (drop 2 bs) ≡ drop 2 u = ap (λ (z : List ℕ). take (n - 1) (drop 2 z)) all ∙ covers u (c ++ rest) (n - 1) (omega arith) in
        let dw : drop w y ≡ c ++ rest = drop_at lanes (c ++ rest) w refl in
        let read : num (take 4 (drop w y)) ≡ checksum_of (take (n - 1) (drop 2 bs)) =
        ap (λ (z : List ℕ). num (take 4 z)) dw ∙ ap num (take_at c rest 4 lc) ∙ num_bytes 4 sum (checksum_low (drop 2 u) small) ∙ ap checksum_of (sym covered) in
        let ly : length y ≡ w + (4 + length rest) = length-append lanes (c ++ rest) ∙ ap (λ (z : ℕ). w + z) (length-append c rest ∙ ap (λ (z : ℕ). z + length rest) lc) in
        let there : 0 ≡ tail w w (length y) = tail_there w w (length y) (omega arith) (omega arith) refl (omega arith) in
        let after : drop (w + 4) y ≡ rest = ap (drop (w + 4)) (sym (append_assoc lanes c rest)) ∙ drop_at (lanes ++ c) rest (w + 4) (length-append lanes c ∙ ap (λ (z : ℕ). w + z) lc) in
        let ended : closed (take (n - 1) (drop 2 bs)) k (good w vs y) ≡ found k (vs ++ lanes) rest =
        closed_found (take (n - 1) (drop 2 bs)) k w vs y w (sym x.whole) there read
        ∙ ap (λ (z : List ℕ). found k (vs ++ z) (drop (w + 4) y)) (take_at lanes (c ++ rest) w refl)
        ∙ ap (λ (z : List ℕ). found k (vs ++ lanes) z) after in
        ap (bodied bs) heads ∙ rw (pos, fields) ended

-- ---- what the reader accepts, the writer writes again byte for byte

none : {A : Type 0} → ⊥ → A
none e = elim e [ ]

-- a head that is read has the kind of a sealed record
pub kind_read : (bs : List ℕ) (l : ℕ) (hs rest : List ℕ) → Small bs → steps head_rows (good 5 [] bs) ≡ good l hs rest → sealed_kind (get_or hs 2 0) ≡ true
unfolding head_rows
kind_read = head_known 4 5

pub tail_facts : (w left input : ℕ) → tail w left input ≡ 0 → (w ≡ left) × (w + 4 ≤ input)
unfolding tail
tail_facts w left input e = go (leb w left) (leb w input) (eqb w left) refl (leb (w + 4) input) refl (leb left input) e
  where
    go : (a b c : Bool) → eqb w left ≡ c → (d : Bool) → leb (w + 4) input ≡ d → (f : Bool) → ◌≡◌ {A = ℕ} (cond a (cond b (cond c (cond d 0 18) 17) 18) (cond f 17 18)) 0 → (w ≡ left) × (w + 4 ≤ input)
    go true true true p true q f g = (eqb-true w left p, leb-true (w + 4) input q)
    go true true true p false q f g = none (omega arith)
    go true true false p d q f g = none (omega arith)
    go true false c p d q f g = none (omega arith)
    go false b c p d q true g = none (omega arith)
    go false b c p d q false g = none (omega arith)

-- the end of a record: its fields, whole lanes, and the right checksum
record Closed (covered : List ℕ) (k : ℕ) (d : Reading) (j : ℕ) (ws rest : List ℕ) : Type 0 where
  vs : List ℕ
  bs : List ℕ
  same : k ≡ j
  all : d ≡ good (lane_bytes k vs) vs bs
  room : lane_bytes k vs + 4 ≤ length bs
  sum : num (take 4 (drop (lane_bytes k vs) bs)) ≡ checksum_of covered
  numbers : ws ≡ vs ++ take (lane_bytes k vs) bs
  after : rest ≡ drop (lane_bytes k vs + 4) bs

close_good : (covered : List ℕ) (k : ℕ) (d : Reading) (j : ℕ) (ws rest : List ℕ) → closed covered k d ≡ found j ws rest → Closed covered k d j ws rest
unfolding closed
close_good covered k (bad n) j ws rest e = refused_found n j ws rest e
close_good covered k (good left vs bs) j ws rest e = go (tail w left (length bs)) refl (eqb (tail w left (length bs)) 0) refl (eqb (num (take 4 (drop w bs))) (checksum_of covered)) refl e
  where
    w : ℕ
    w = lane_bytes k vs

    go : (t : ℕ) → tail w left (length bs) ≡ t → (a : Bool) → eqb (tail w left (length bs)) 0 ≡ a → (b : Bool) → eqb (num (take 4 (drop w bs))) (checksum_of covered) ≡ b
        → cond a (cond b (found k (vs ++ take w bs) (drop (w + 4) bs)) (refused 17)) (refused t) ≡ found j ws rest → Closed covered k (good left vs bs) j ws rest
    go t q false f b g h = refused_found t j ws rest h
    go t q true f false g h = refused_found 17 j ws rest h
    go t q true f true g h =
        let z = tail_facts w left (length bs) (eqb-true (tail w left (length bs)) 0 f) in
        record { vs = vs; bs = bs; same = cc; all = ap (λ (i : ℕ). good i vs bs) (sym z.0); room = z.1; sum = eqb-true (num (take 4 (drop w bs))) (checksum_of covered) g; numbers = sym (cc); after = sym (cc) }

record Opened (bs : List ℕ) (k n : ℕ) (b1 : List ℕ) (j : ℕ) (ws rest : List ℕ) : Type 0 where
  length_is : possible k n ≡ true
  closing : Closed (take (n - 1) (drop 2 bs)) k (steps (field_rows k) (good (n - 4) [] b1)) j ws rest

open_good : (bs : List ℕ) (k n : ℕ) (b1 : List ℕ) (j : ℕ) (ws rest : List ℕ) → cond (possible k n) (closed (take (n - 1) (drop 2 bs)) k (steps (field_rows k) (good (n - 4) [] b1))) (refused 17) ≡ found j ws rest → Opened bs k n b1 j ws rest
open_good bs k n b1 j ws rest e = go (possible k n) refl e
  where
    go : (b : Bool) → possible k n ≡ b → cond b (closed (take (n - 1) (drop 2 bs)) k (steps (field_rows k) (good (n - 4) [] b1))) (refused 17) ≡ found j ws rest → Opened bs k n b1 j ws rest
    go true p q = record { length_is = p; closing = close_good (take (n - 1) (drop 2 bs)) k (steps (field_rows k) (good (n - 4) [] b1)) j ws rest q }
    go false p q = refused_found 17 j ws rest q

written : (bs u c rest : List ℕ) (k : ℕ) (vs lanes : List ℕ) → bs ≡ u ++ (c ++ rest) → c ≡ bytes 4 (checksum_of (drop 2 u)) → u ≡ unsealed k vs lanes → bs ≡ sealed_of k vs lanes ++ rest
unfolding sealed_of
written bs u c rest k vs lanes a b e = a ∙ sym (append_assoc u c rest) ∙ ap (λ (q : List ℕ). (u ++ q) ++ rest) b ∙ ap (λ (q : List ℕ). (q ++ bytes 4 (checksum_of (drop 2 q))) ++ rest) e

unsealed_is : (k : ℕ) (vs lanes : List ℕ) → payload head_rows [] (head_of k (length (payload (field_rows k) [] vs ++ lanes) + 4)) ++ (payload (field_rows k) [] vs ++ lanes) ≡ unsealed k vs lanes
unfolding unsealed
unsealed_is k vs lanes = refl

pub written_again : (bs : List ℕ) (k : ℕ) (ws rest : List ℕ) → Small bs → read_sealed bs ≡ found k ws rest → Kept bs k ws rest
unfolding read_sealed bodied head_rows
written_again bs k ws rest s e = go (steps head_rows (good 5 [] bs)) refl e
  where
    parts : (hs b1 : List ℕ) → bs ≡ payload head_rows [] hs ++ b1 → Head 4 5 hs → (j n : ℕ) → j ≡ get_or hs 2 0 → n ≡ get_or hs 3 0 → Opened bs j n b1 k ws rest → Kept bs k ws rest
    parts hs b1 a f j n ej en o =
        let x = o.closing in
        let vs = x.vs in
        let b2 = x.bs in
        let w = lane_bytes j vs in
        let lanes = take w b2 in
        let z = written_read (field_rows j) (n - 4) [] b1 w vs b2 (small_after (payload head_rows [] hs) b1 (rw a at s)) x.all in
        let m : z.more ≡ vs = sym z.same in
        let p = payload (field_rows j) [] vs in
        let from : b1 ≡ p ++ b2 = z.from ∙ ap (λ (q : List ℕ). payload (field_rows j) [] q ++ b2) m in
        let count : n - 4 ≡ length p + w = z.count ∙ ap (λ (q : List ℕ). length (payload (field_rows j) [] q) + w) m in
        let small2 : Small b2 = small_after p b2 (rw from at (small_after (payload head_rows [] hs) b1 (rw a at s))) in
        let ll : length lanes ≡ w = length-take-le w b2 (omega (arith, x.room)) in
        let lb : length (p ++ lanes) ≡ length p + w = length-append p lanes ∙ ap (λ (q : ℕ). length p + q) ll in
        let n-is : n ≡ length (p ++ lanes) + 4 = omega (arith, count, lb, some j n o.length_is) in
        let h = payload head_rows [] (head_of j (length (p ++ lanes) + 4)) in
        let hs-is : payload head_rows [] hs ≡ h = ap (payload head_rows []) (f.is ∙ ap (λ (q : ℕ). head_of q (get_or hs 3 0)) (sym ej) ∙ ap (head_of j) (sym en ∙ n-is)) in
        let c = take 4 (drop w b2) in
        let split2 : b2 ≡ lanes ++ (c ++ rest) =
        sym (take-append-drop w b2) ∙ ap (λ (q : List ℕ). lanes ++ q) (sym (take-append-drop 4 (drop w b2)) ∙ ap (λ (q : List ℕ). c ++ q) (drop-drop 4 w b2 ∙ sym x.after)) in
        let u = h ++ (p ++ lanes) in
        let all : bs ≡ u ++ (c ++ rest) =
        a ∙ ap (λ (q : List ℕ). q ++ b1) hs-is ∙ ap (λ (q : List ℕ). h ++ q) (from ∙ ap (λ (q : List ℕ). p ++ q) split2 ∙ sym (append_assoc p lanes (c ++ rest))) ∙ sym (append_assoc h (p ++ lanes) (c ++ rest)) in
        let lu : length u ≡ 5 + length (p ++ lanes) = length-append h (p ++ lanes) ∙ ap (λ (q : ℕ). q + length (p ++ lanes)) (head_length j (length (p ++ lanes) + 4)) in
        let covered : take (n - 1) (drop 2 bs) ≡ drop 2 u = ap (λ (q : List ℕ). take (n - 1) (drop 2 q)) all ∙ covers u (c ++ rest) (n - 1) (omega (arith, lu, n-is)) in
        let c-is : c ≡ bytes 4 (checksum_of (drop 2 u)) =
        sym (bytes_num 4 (drop w b2) (small_drop w b2 small2) (omega (arith, length-drop w b2, x.room))) ∙ ap (bytes 4) (x.sum ∙ ap checksum_of covered) in
        let y : j ≡ k = x.same in
        subst (λ (i : ℕ). Kept bs i ws rest) y
        (record {
          numbers = vs;
          lanes = lanes;
          both = x.numbers;
          sealable = record { kind = ap sealed_kind ej ∙ f.kind; takes = rw m at z.takes; whole = ll; bytes = small_take w b2 small2 };
          same = written bs u c rest j vs lanes all c-is (unsealed_is j vs lanes);
        })

    go : (d : Reading) → steps head_rows (good 5 [] bs) ≡ d → bodied bs d ≡ found k ws rest → Kept bs k ws rest
    go (bad j) q f = refused_found j k ws rest f
    go (good l hs b1) q f =
        let w = written_read head_rows 5 [] bs l hs b1 s q in
        let y : w.more ≡ hs = sym w.same in
        parts hs b1 (w.from ∙ ap (λ (z : List ℕ). payload head_rows [] z ++ b1) y) (head_is 4 5 hs (rw y at w.takes)) (get_or hs 2 0) (get_or hs 3 0) refl refl (open_good bs (get_or hs 2 0) (get_or hs 3 0) b1 k ws rest f)
