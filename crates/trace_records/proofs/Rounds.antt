-- A record is read back as it was written, and what is read is what would be written.
use mathlib.Core.Path.{◌≡◌, refl, sym, ap, ◌∙◌}
use Prim.Native.Nat.{ℕ, suc, ◌+◌, ◌-◌, ◌*◌, ◌%◌, ◌≤◌, ◌<◌}
use native.Mathlib.Omega.{arith}
use native.Mathlib.Nat.{add-mul-mod_self_left}
use mathlib.Core.Bool.{Bool, true, false, ◌&&◌, cond}
use mathlib.Core.List.{List, [], ◌∷◌, ◌++◌, append_assoc}
use lib.Dec.{leb, eqb, leb-zero}
use lib.ListN.{length, get_or}
use borrow.Author.Tests.{le-leb, leb-true, eqb-true, eq-eqb}
use Rattle.byte_layout.specs.declared.Row.{Row}
use Rattle.byte_layout.specs.Numbers.{bytes}
use Rattle.refusals.specs.declared.Refusal.TheVariants.{Mark, Kind, Record}
use Rattle.byte_layout.specs.Rows.{row, stands, within, sound}
use Rattle.byte_layout.specs.Reads.{Reading, bad, good, steps}
use Rattle.byte_layout.specs.Writes.{field, payload, fits, fine}
use Rattle.byte_layout.proofs.Numbers.{Small}
use Rattle.byte_layout.proofs.Codec.{never, both, ands, read_written, written_read}
use Rattle.byte_layout.proofs.Lengths.{always, most, least, eights, at_most, at_least, apart}
use Rattle.trace_records.specs.Tables.{head_rows, creation_rows, frame_rows, command_rows, block_rows, body, fields}
use Rattle.trace_records.specs.Records.{shortest, longest, possible, refused, found, ended, bodied, read_record}
use Rattle.trace_records.specs.Writes.{head_of, record_of, known}
use Rattle.trace_records.specs.Promises.{Kept}

-- ---- the kinds' rows

creation_rows_lem : (least creation_rows ≡ 26) × (most creation_rows ≡ 570) × (eights creation_rows ≡ true)
unfolding least most eights creation_rows frame_rows
creation_rows_lem = (refl, refl, refl)

command_rows_lem : (least command_rows ≡ 7) × (most command_rows ≡ 47) × (eights command_rows ≡ true)
unfolding least most eights command_rows
command_rows_lem = (refl, refl, refl)

block_rows_lem : (least block_rows ≡ 37) × (most block_rows ≡ 37) × (eights block_rows ≡ true)
unfolding least most eights block_rows
block_rows_lem = (refl, refl, refl)

lengths : (k : ℕ) → (least (body k) ≡ shortest k) × (most (body k) ≡ longest k) × (eights (body k) ≡ true)
lengths k = go (eqb k 1) (eqb k 2)
  where
    go : (a b : Bool) → (least (cond a creation_rows (cond b command_rows block_rows)) ≡ cond a 26 (cond b 7 37)) × (most (cond a creation_rows (cond b command_rows block_rows)) ≡ cond a 570 (cond b 47 37)) × (eights (cond a creation_rows (cond b command_rows block_rows)) ≡ true)
    go true b = creation_rows_lem
    go false true = command_rows_lem
    go false false = block_rows_lem

pub body_sound : (k : ℕ) → sound (body k) ≡ true
unfolding sound creation_rows frame_rows command_rows block_rows
body_sound k = go (eqb k 1) (eqb k 2)
  where
    go : (a b : Bool) → sound (cond a creation_rows (cond b command_rows block_rows)) ≡ true
    go true b = refl
    go false true = refl
    go false false = refl

pub body_long : (k : ℕ) → length (body k) ≡ fields k
unfolding creation_rows frame_rows command_rows block_rows
body_long k = go (eqb k 1) (eqb k 2)
  where
    go : (a b : Bool) → length (cond a creation_rows (cond b command_rows block_rows)) ≡ cond a 77 (cond b 12 10)
    go true b = refl
    go false true = refl
    go false false = refl

pub fields_few : (k : ℕ) → fields k < 80
fields_few k = go (eqb k 1) (eqb k 2)
  where
    go : (a b : Bool) → cond a 77 (cond b 12 10) < 80
    go true b = omega arith
    go false true = omega arith
    go false false = omega arith

pub longest_few : (k : ℕ) → longest k ≤ 570
longest_few k = go (eqb k 1) (eqb k 2)
  where
    go : (a b : Bool) → cond a 570 (cond b 47 37) ≤ 570
    go true b = omega arith
    go false true = omega arith
    go false false = omega arith

pub payload_few : (k : ℕ) (ws : List ℕ) → length (payload (body k) [] ws) ≤ 570
payload_few k ws = omega (arith, at_most (body k) [] ws, (lengths k).1, longest_few k)

-- ---- a length that fields have is possible

in_steps_lem : (n m l t : ℕ) → m ≤ n → n ≤ l → n ≡ m + 8 * t → (leb m n && leb n l && eqb ((n - m) % 8) 0) ≡ true
in_steps_lem n m l t a b c =
    let d : n - m ≡ 0 + 8 * t = omega arith in
    rw (le-leb m n a, le-leb n l b, eq-eqb ((n - m) % 8) 0 (ap (λ (z : ℕ). z % 8) d ∙ add-mul-mod_self_left 0 8 t)) refl

fields_possible : (k : ℕ) (ws : List ℕ) → fine (body k) [] ws ≡ true → possible k (length (payload (body k) [] ws)) ≡ true
unfolding possible
fields_possible k ws e =
    let l = lengths k in
    let a = apart (body k) [] ws l.2 e in
    in_steps_lem (length (payload (body k) [] ws)) (shortest k) (longest k) a.times
    (omega (arith, at_least (body k) [] ws e, l.0)) (omega (arith, at_most (body k) [] ws, l.1)) (omega (arith, a.is, l.0))

-- ---- the head

pub head_length : (k n : ℕ) → length (payload head_rows [] (head_of k n)) ≡ 5
unfolding payload head_rows stands field bytes
head_length k n = refl

pub head_rows_sound : sound head_rows ≡ true
unfolding sound head_rows
head_rows_sound = refl

known_true : (k : ℕ) → known k ≡ true → (1 ≤ k) × (k ≤ 3)
known_true k e = let h = ands (leb 1 k) (leb k 3) e in (leb-true 1 k h.0, leb-true k 3 h.1)

head_fine : (k n : ℕ) → known k ≡ true → n ≤ 65535 → fine head_rows [] (head_of k n) ≡ true
unfolding head_rows stands fine fits within
head_fine k n e h = let q = known_true k e in rw (le-leb 1 k q.0, le-leb k 3 q.1, leb-zero n, le-leb n 65535 h) refl

-- ---- whatever is written is read back as the same fields

ended_found : (k : ℕ) (ws rest : List ℕ) → ended k (good 0 ws rest) ≡ found k ws rest
unfolding ended
ended_found k ws rest = refl

pub read_record_lem : (k : ℕ) (ws rest : List ℕ) → known k ≡ true → fine (body k) [] ws ≡ true → read_record (record_of k ws ++ rest) ≡ found k ws rest
unfolding read_record record_of bodied
read_record_lem k ws rest y e = go (payload (body k) [] ws) refl
  where
    go : (p : List ℕ) → payload (body k) [] ws ≡ p → bodied (steps head_rows (good 5 [] ((payload head_rows [] (head_of k (length p)) ++ p) ++ rest))) ≡ found k ws rest
    go p q =
        let n = length p in
        let f : possible k n ≡ true = rw q at (fields_possible k ws e) in
        let h = read_written head_rows [] (head_of k n) (p ++ rest) 0 head_rows_sound (head_fine k n y (omega (arith, ap length q, payload_few k ws))) in
        let g : steps head_rows (good 5 [] (payload head_rows [] (head_of k n) ++ (p ++ rest))) ≡ good 0 (head_of k n) (p ++ rest) = ap (λ (z : ℕ). steps head_rows (good z [] (payload head_rows [] (head_of k n) ++ (p ++ rest)))) (omega (arith, head_length k n)) ∙ h in
        let j = read_written (body k) [] ws rest 0 (body_sound k) e in
        let i : steps (body k) (good n [] (p ++ rest)) ≡ good 0 ws rest = ap (λ (z : ℕ). steps (body k) (good z [] (p ++ rest))) (omega arith) ∙ (rw q at j) in
        rw (append_assoc (payload head_rows [] (head_of k n)) p rest, g, f, i) (ended_found k ws rest)

-- ---- what the reader accepts, the writer writes again byte for byte

pub row_always : (r : Row) (rs : List Row) (vs ws : List ℕ) (x : ℕ) → r.low ≡ 0 → fine (r ∷ rs) vs (x ∷ ws) ≡ true → (within r x ≡ true) × (fine rs (vs ++ (x ∷ [])) ws ≡ true)
unfolding fine fits
row_always r rs vs ws x l e = both (within r x) (fine rs (vs ++ (x ∷ [])) ws) (rw (always r vs l) at e)

pub one : (r : Row) (x : ℕ) → within r x ≡ true → (r.least ≤ x) × (x ≤ r.most)
unfolding within
one r x e = let h = ands (leb r.least x) (leb x r.most) e in (leb-true r.least x h.0, leb-true x r.most h.1)

-- the rows of a head with a kind from lo to hi
abbrev pub heads : ℕ → ℕ → List Row
heads lo hi = row 1 0 0 165 165 Mark ∷ row 1 0 0 29 29 Mark ∷ row 1 0 0 lo hi Kind ∷ row 2 0 0 0 65535 Record ∷ []

-- an accepted head: mark, a kind, a length
pub record Head (lo hi : ℕ) (hs : List ℕ) : Type 0 where
  pub is : hs ≡ head_of (get_or hs 2 0) (get_or hs 3 0)
  pub kind : (leb lo (get_or hs 2 0) && leb (get_or hs 2 0) hi) ≡ true

module _ (lo hi : ℕ) where
  abbrev first : List Row
  first = row 1 0 0 29 29 Mark ∷ row 1 0 0 lo hi Kind ∷ row 2 0 0 0 65535 Record ∷ []

  abbrev second : List Row
  second = row 1 0 0 lo hi Kind ∷ row 2 0 0 0 65535 Record ∷ []

  abbrev size_row : Row
  size_row = row 2 0 0 0 65535 Record

  pub head_is : (hs : List ℕ) → fine (heads lo hi) [] hs ≡ true → Head lo hi hs
  unfolding fine
  head_is [] e = never e
  head_is (a ∷ []) e = never (row_always (row 1 0 0 165 165 Mark) first [] [] a refl e).1
  head_is (a ∷ b ∷ []) e = never (row_always (row 1 0 0 29 29 Mark) second (a ∷ []) [] b refl (row_always (row 1 0 0 165 165 Mark) first [] (b ∷ []) a refl e).1).1
  head_is (a ∷ b ∷ c ∷ []) e =
      never (row_always (row 1 0 0 lo hi Kind) (size_row ∷ []) (a ∷ b ∷ []) [] c refl (row_always (row 1 0 0 29 29 Mark) second (a ∷ []) (c ∷ []) b refl (row_always (row 1 0 0 165 165 Mark) first [] (b ∷ c ∷ []) a refl e).1).1).1
  head_is (a ∷ b ∷ c ∷ d ∷ ws) e =
      let h0 = row_always (row 1 0 0 165 165 Mark) first [] (b ∷ c ∷ d ∷ ws) a refl e in
      let h1 = row_always (row 1 0 0 29 29 Mark) second (a ∷ []) (c ∷ d ∷ ws) b refl h0.1 in
      let h2 = row_always (row 1 0 0 lo hi Kind) (size_row ∷ []) (a ∷ b ∷ []) (d ∷ ws) c refl h1.1 in
      let h3 = row_always size_row [] (a ∷ b ∷ c ∷ []) ws d refl h2.1 in
      let ea : a ≡ 165 = omega (arith, one (row 1 0 0 165 165 Mark) a h0.0) in
      let eb : b ≡ 29 = omega (arith, one (row 1 0 0 29 29 Mark) b h1.0) in
      let ec = one (row 1 0 0 lo hi Kind) c h2.0 in
      record { is = rw (ea, eb, no_more (a ∷ b ∷ c ∷ d ∷ []) ws h3.1) refl; kind = rw (le-leb lo c ec.0, le-leb c hi ec.1) refl }
    where
      no_more : (vs ws : List ℕ) → fine [] vs ws ≡ true → ws ≡ []
      no_more vs [] f = refl
      no_more vs (x ∷ ws) f = never f

  -- a head that is read has a kind in the range
  pub head_known : (bs : List ℕ) (l : ℕ) (hs rest : List ℕ) → Small bs → steps (heads lo hi) (good 5 [] bs) ≡ good l hs rest → (leb lo (get_or hs 2 0) && leb (get_or hs 2 0) hi) ≡ true
  head_known bs l hs rest s e =
      let w = written_read (heads lo hi) 5 [] bs l hs rest s e in
      let y : w.more ≡ hs = sym w.same in
      (head_is hs (rw y at w.takes)).kind

pub small_after : (xs ys : List ℕ) → Small (xs ++ ys) → Small ys
small_after [] ys h = h
small_after (x ∷ xs) ys h = small_after xs ys (λ i. h (suc i))

pub refused_found : {A : Type 0} (n k : ℕ) (ws rest : List ℕ) → refused n ≡ found k ws rest → A
refused_found n k ws rest e = let z : ◌≡◌ {A = ℕ} 0 1 = cc in none (omega arith)
  where
    none : {A : Type 0} → ⊥ → A
    none e = elim e [ ]

-- an accepted body: the kind is the head's, and nothing is left
record Body (k : ℕ) (d : Reading) (j : ℕ) (ws rest : List ℕ) : Type 0 where
  same : k ≡ j
  all : d ≡ good 0 ws rest

body_good : (k n j : ℕ) (bs ws rest : List ℕ) → cond (possible k n) (ended k (steps (body k) (good n [] bs))) (refused 17) ≡ found j ws rest → Body k (steps (body k) (good n [] bs)) j ws rest
unfolding ended
body_good k n j bs ws rest e = go (possible k n) (steps (body k) (good n [] bs)) e
  where
    left : (l : ℕ) (us r : List ℕ) (b : Bool) → eqb l 0 ≡ b → cond b (found k us r) (refused 17) ≡ found j ws rest → Body k (good l us r) j ws rest
    left l us r false f g = refused_found 17 j ws rest g
    left l us r true f g =
        let z = eqb-true l 0 f in
        let u : us ≡ ws = cc in
        let v : r ≡ rest = cc in
        record { same = cc; all = rw (z, u, v) refl }

    go : (b : Bool) (d : Reading) → cond b (ended k d) (refused 17) ≡ found j ws rest → Body k d j ws rest
    go false d f = refused_found 17 j ws rest f
    go true (bad i) f = refused_found i j ws rest f
    go true (good l us r) f = left l us r (eqb l 0) refl f

pub written_record : (bs : List ℕ) (k : ℕ) (ws rest : List ℕ) → Small bs → read_record bs ≡ found k ws rest → Kept bs k ws rest
unfolding read_record bodied record_of head_rows
written_record bs k ws rest s e = go (steps head_rows (good 5 [] bs)) refl e
  where
    both_parts : (hs b1 : List ℕ) → bs ≡ payload head_rows [] hs ++ b1 → Head 1 3 hs → get_or hs 2 0 ≡ k → steps (body k) (good (get_or hs 3 0) [] b1) ≡ good 0 ws rest → Kept bs k ws rest
    both_parts hs b1 a f y g =
        let n = get_or hs 3 0 in
        let w = written_read (body k) n [] b1 0 ws rest (small_after (payload head_rows [] hs) b1 (rw a at s)) g in
        let m = w.more in
        let x : m ≡ ws = sym w.same in
        let p = payload (body k) [] ws in
        let c : n ≡ length p = (let i : n ≡ length (payload (body k) [] m) + 0 = w.count in let u : length (payload (body k) [] m) ≡ length p = ap (λ (q : List ℕ). length (payload (body k) [] q)) x in omega arith) in
        let b : b1 ≡ p ++ rest = w.from ∙ ap (λ (q : List ℕ). payload (body k) [] q ++ rest) x in
        let h : hs ≡ head_of k (length p) = f.is ∙ ap (λ (q : ℕ). head_of q n) y ∙ ap (head_of k) c in
        record {
          kind = ap known (sym y) ∙ f.kind;
          takes = rw x at w.takes;
          same = a ∙ ap (λ (q : List ℕ). payload head_rows [] q ++ b1) h ∙ ap (λ (q : List ℕ). payload head_rows [] (head_of k (length p)) ++ q) b ∙ sym (append_assoc (payload head_rows [] (head_of k (length p))) p rest);
        }

    go : (d : Reading) → steps head_rows (good 5 [] bs) ≡ d → bodied d ≡ found k ws rest → Kept bs k ws rest
    go (bad j) q f = refused_found j k ws rest f
    go (good l hs b1) q f =
        let w = written_read head_rows 5 [] bs l hs b1 s q in
        let y : w.more ≡ hs = sym w.same in
        let g = body_good (get_or hs 2 0) (get_or hs 3 0) k b1 ws rest f in
        let i : steps (body k) (good (get_or hs 3 0) [] b1) ≡ good 0 ws rest = ap (λ (z : ℕ). steps (body z) (good (get_or hs 3 0) [] b1)) (sym g.same) ∙ g.all in
        both_parts hs b1 (w.from ∙ ap (λ (z : List ℕ). payload head_rows [] z ++ b1) y) (head_is 1 3 hs (rw y at w.takes)) g.same i
