-- The results that the reading of a sealed record can have, from the tests of the code. Assumes nothing.
use mathlib.Core.Path.{◌≡◌, refl, sym, ap, ◌∙◌}
use Prim.Native.Nat.{ℕ, ◌+◌, ◌-◌, ◌*◌, ◌%◌, ◌≤◌, ◌<◌}
use native.Mathlib.Omega.{arith}
use mathlib.Core.Bool.{Bool, true, false, ◌&&◌, cond}
use mathlib.Core.List.{List, [], ◌∷◌, ◌++◌}
use lib.Dec.{eqb, leb}
use lib.ListN.{length, get_or, take, drop, replicate, length-replicate, length-drop, take-append-drop}
use lib.Seq.{get_or-take, get_or-drop, length-take-le, drop-drop, take_at}
use Rattle.std.proofs.lemmas.List.{drop-replicate}
use borrow.Author.Tests.{eq-eqb, ne_eqb, le-leb, lt-leb, leb-true}
use Rattle.std.specs.Prelude.{Ok, Err}
use Rattle.refusals.specs.declared.Refusal.{Refusal}
use Rattle.refusals.specs.declared.Refusal.TheVariants as refusal
use Rattle.refusals.specs.Numbers.{number}
use Rattle.byte_layout.specs.declared.Row.{Row}
use Rattle.byte_layout.specs.declared.Parsed.{Parsed}
use Rattle.byte_layout.specs.Numbers.{num}
use Rattle.byte_layout.specs.Rows.{sound}
use Rattle.byte_layout.specs.Reads.{bad, good, steps, view}
use Rattle.byte_layout.proofs.Codec.{ands}
use Rattle.byte_layout.proofs.Low.{numbered}
use Rattle.byte_layout.proofs.Ways.{begun}
use Rattle.crc32.specs.Checksums.{checksum_of}
use Rattle.trace_records.specs.declared.Record as Answer
use Rattle.trace_records.specs.Records.{Record, record_read, refused, found, in_steps, record_at}
use Rattle.trace_records.proofs.Ways.{Start}
use Rattle.trace_sealed.specs.Tables.{head_rows, given_rows, laned_rows, field_rows, field_count, lane_bytes}
use Rattle.trace_sealed.specs.Records.{Fields, possible, tail, closed, bodied, read_sealed, is_sealed, valued, sealed_at, any_at}
use Rattle.trace_sealed.proofs.Firsts.{first_low}

-- ---- the tables

pub head_rows_sound : sound head_rows ≡ true
unfolding sound head_rows
head_rows_sound = refl

pub rows_sound : (k : ℕ) → sound (field_rows k) ≡ true
unfolding sound given_rows laned_rows
rows_sound k = go (eqb k 4)
  where
    go : (b : Bool) → sound (cond b given_rows laned_rows) ≡ true
    go true = refl
    go false = refl

pub rows_long : (k : ℕ) → length (field_rows k) ≡ field_count k
unfolding given_rows laned_rows
rows_long k = go (eqb k 4)
  where
    go : (b : Bool) → length (cond b given_rows laned_rows) ≡ cond b 17 5
    go true = refl
    go false = refl

pub count_few : (k : ℕ) → field_count k < 80
count_few k = go (eqb k 4)
  where
    go : (b : Bool) → cond b 17 5 < 80
    go true = omega arith
    go false = omega arith

-- ---- lengths

module _ (n low high by : ℕ) where
  pub at_least : in_steps n low high by ≡ true → low ≤ n
  unfolding in_steps
  at_least e = leb-true low n (ands (leb low n) (leb n high) (ands (leb low n && leb n high) (eqb ((n - low) % by) 0) e).0).0

-- a possible payload is longer than its checksum
pub some : (k n : ℕ) → possible k n ≡ true → 41 ≤ n
unfolding possible
some k n e = go (eqb k 4) e
  where
    go : (b : Bool) → cond b (in_steps n 65 97 8) (in_steps n 41 24593 24) ≡ true → 41 ≤ n
    go true q = omega (arith, at_least n 65 97 8 q)
    go false q = at_least n 41 24593 24 q

-- ---- the tail

module _ (w left input : ℕ) where
  pub lanes_missing : w ≤ left → input < w → 18 ≡ tail w left input
  unfolding tail
  lanes_missing a b = rw (le-leb w left a, lt-leb w input b) refl

  pub not_at_the_checksum : w ≤ left → w ≤ input → (w ≡ left → ⊥) → 17 ≡ tail w left input
  unfolding tail
  not_at_the_checksum a b c = rw (le-leb w left a, le-leb w input b, ne_eqb w left c) refl

  pub checksum_missing : w ≤ left → w ≤ input → w ≡ left → input - w < 4 → 18 ≡ tail w left input
  unfolding tail
  checksum_missing a b c d = rw (le-leb w left a, le-leb w input b, eq-eqb w left c, lt-leb (w + 4) input (omega arith)) refl

  pub tail_there : w ≤ left → w ≤ input → w ≡ left → 4 ≤ input - w → 0 ≡ tail w left input
  unfolding tail
  tail_there a b c d = rw (le-leb w left a, le-leb w input b, eq-eqb w left c, le-leb (w + 4) input (omega arith)) refl

  pub in_the_checksum : left < w → left ≤ input → 17 ≡ tail w left input
  unfolding tail
  in_the_checksum a b = rw (lt-leb w left a, le-leb left input b) refl

  pub payload_missing : left < w → input < left → 18 ≡ tail w left input
  unfolding tail
  payload_missing a b = rw (lt-leb w left a, lt-leb left input b) refl

  -- nothing is refused only if lanes and checksum are there
  pub tail_room : tail w left input ≡ 0 → w + 4 ≤ input
  unfolding tail
  tail_room e = go (leb w left) (leb w input) (eqb w left) (leb (w + 4) input) refl (leb left input) e
    where
      none : {A : Type 0} → ⊥ → A
      none e = elim e [ ]

      go : (a b c d : Bool) → leb (w + 4) input ≡ d → (f : Bool) → ◌≡◌ {A = ℕ} (cond a (cond b (cond c (cond d 0 18) 17) 18) (cond f 17 18)) 0 → w + 4 ≤ input
      go true true true true q f g = leb-true (w + 4) input q
      go true true true false q f g = none (omega arith)
      go true true false d q f g = none (omega arith)
      go true false c d q f g = none (omega arith)
      go false b c d q true g = none (omega arith)
      go false b c d q false g = none (omega arith)

-- ---- what follows the fields

abbrev Got : ℕ → ℕ → List ℕ → Record
Got k a v = record { refusal = 0; kind = k; next = a; values = v }

abbrev Answered : ℕ → ℕ → List ℕ → Answer.Record
Answered k a v = record { kind = k; next = a; values = v }

module _ (covered : List ℕ) (k left : ℕ) (vs bs : List ℕ) (w : ℕ) (e : lane_bytes k vs ≡ w) where
  pub closed_refused : (t : ℕ) → t ≡ tail w left (length bs) → 0 < t → closed covered k (good left vs bs) ≡ refused t
  unfolding closed
  closed_refused t f h = rw (e, ← f, ne_eqb t 0 (λ z. omega arith)) refl

  pub closed_wrong : 0 ≡ tail w left (length bs) → (num (take 4 (drop w bs)) ≡ checksum_of covered → ⊥) → closed covered k (good left vs bs) ≡ refused 17
  unfolding closed
  closed_wrong f h = rw (e, ← f, ne_eqb (num (take 4 (drop w bs))) (checksum_of covered) h) refl

  pub closed_found : 0 ≡ tail w left (length bs) → num (take 4 (drop w bs)) ≡ checksum_of covered → closed covered k (good left vs bs) ≡ found k (vs ++ take w bs) (drop (w + 4) bs)
  unfolding closed
  closed_found f h = rw (e, ← f, eq-eqb (num (take 4 (drop w bs))) (checksum_of covered) h) refl

pub lanes_are : (k : ℕ) (vals : List ℕ) → lane_bytes k (take (field_count k) vals) ≡ cond (eqb k 4) 0 (24 * get_or vals 0 0)
lanes_are k vals = go (eqb k 4)
  where
    go : (b : Bool) → cond b 0 (24 * get_or (take (cond b 17 5) vals) 0 0) ≡ cond b 0 (24 * get_or vals 0 0)
    go true = refl
    go false = ap (λ (z : ℕ). 24 * z) (get_or-take 5 vals 0 0 (omega arith))

module _ (s : List ℕ) (at k n : ℕ) (p : Parsed) (x : Fields s at k n p) (w : ℕ) (e : w ≡ cond (eqb k 4) 0 (24 * get_or p.values 0 0)) where
  abbrev bs : List ℕ
  bs = drop p.at s

  abbrev vs : List ℕ
  vs = take (field_count k) p.values

  abbrev covered : List ℕ
  covered = take (n - 1) (drop 2 (drop at s))

  lanes : lane_bytes k vs ≡ w
  lanes = lanes_are k p.values ∙ sym e

  tailed : (t : ℕ) → t ≡ tail w p.left (length s - p.at) → t ≡ tail w p.left (length bs)
  tailed t f = f ∙ ap (tail w p.left) (sym (length-drop p.at s))

  pub tail_wrong : (r : Refusal) → number r ≡ tail w p.left (length s - p.at) → record_read at (Err r) ≡ valued (length s) at (closed covered k (good p.left vs bs))
  unfolding valued
  tail_wrong r f = sym (ap (valued (length s) at) (closed_refused covered k p.left vs bs w lanes (number r) (tailed (number r) f) (numbered r)))

  module _ (f : 0 ≡ tail w p.left (length s - p.at)) where
    nothing : 0 ≡ tail w p.left (length bs)
    nothing = tailed 0 f

    pub room : p.at + w + 4 ≤ length s
    room = omega (arith, tail_room w p.left (length s - p.at) (sym f), x.inside)

    place : (i : ℕ) → drop i (drop p.at s) ≡ drop (p.at + i) s
    place i = drop-drop i p.at s

    module _ (sum wanted : ℕ) (a : sum ≡ num (take 4 (drop (p.at + w) s))) (b : wanted ≡ checksum_of (take (n - 1) (drop (at + 2) s))) where
      sum_is : sum ≡ num (take 4 (drop w bs))
      sum_is = a ∙ ap (λ (z : List ℕ). num (take 4 z)) (sym (place w))

      wanted_is : wanted ≡ checksum_of covered
      wanted_is = b ∙ ap (λ (z : List ℕ). checksum_of (take (n - 1) z)) (sym (drop-drop 2 at s))

      pub sum_wrong : (sum ≡ wanted → ⊥) → record_read at (Err refusal.Record) ≡ valued (length s) at (closed covered k (good p.left vs bs))
      unfolding valued
      sum_wrong h = sym (ap (valued (length s) at) (closed_wrong covered k p.left vs bs w lanes nothing (λ z. h (sum_is ∙ z ∙ sym wanted_is))))

      pub sum_right : sum ≡ wanted → record_read at (Ok (Answered k (p.at + w + 4) p.values)) ≡ valued (length s) at (closed covered k (good p.left vs bs))
      unfolding valued
      sum_right h =
          let m = field_count k in
          let y : length p.values - m ≡ 80 - m = sym (length-drop m p.values) ∙ ap length x.zeros ∙ length-replicate (80 - m) 0 in
          let o : length vs ≡ m = length-take-le m p.values (omega (arith, count_few k)) in
          let u : take m (vs ++ take w bs) ++ replicate (80 - m) 0 ≡ p.values = ap (λ (z : List ℕ). z ++ replicate (80 - m) 0) (take_at vs (take w bs) m o) ∙ ap (λ (z : List ℕ). vs ++ z) (sym x.zeros) ∙ take-append-drop m p.values in
          let v : length s - length (drop (w + 4) bs) ≡ p.at + w + 4 = omega (arith, length-drop (w + 4) bs, length-drop p.at s, room) in
          sym (ap (valued (length s) at) (closed_found covered k p.left vs bs w lanes nothing (sym sum_is ∙ h ∙ wanted_is)) ∙ ap (λ (z : ℕ). Got k z (take m (vs ++ take w bs) ++ replicate (80 - m) 0)) v ∙ ap (Got k (p.at + w + 4)) u)

-- ---- the record

module _ (s : List ℕ) (at : ℕ) where
  refuses : (x : Refusal) (n : ℕ) → n ≡ number x → read_sealed (drop at s) ≡ refused n → record_read at (Err x) ≡ sealed_at s at
  unfolding sealed_at valued
  refuses x n g e = rw (e, g) refl

  pub no_head : (x : Refusal) → bad (number x) ≡ steps head_rows (good 5 [] (drop at s)) → record_read at (Err x) ≡ sealed_at s at
  unfolding read_sealed bodied
  no_head x e = refuses x (number x) refl (ap (bodied (drop at s)) (sym e))

  module _ (h : Parsed) (e : good h.left (take 4 h.values) (drop h.at s) ≡ steps head_rows (good 5 [] (drop at s))) (k n : ℕ) (kind : get_or h.values 2 0 ≡ k) (size : get_or h.values 3 0 ≡ n) where
    summed : List ℕ
    summed = take (n - 1) (drop 2 (drop at s))

    judged : read_sealed (drop at s) ≡ cond (possible k n) (closed summed k (steps (field_rows k) (good (n - 4) [] (drop h.at s)))) (refused 17)
    unfolding read_sealed bodied summed
    judged = ap (bodied (drop at s)) (sym e) ∙ rw (get_or-take 4 h.values 2 0 (omega arith), get_or-take 4 h.values 3 0 (omega arith), kind, size) refl

    pub no_length : false ≡ possible k n → record_read at (Err refusal.Record) ≡ sealed_at s at
    no_length p = refuses refusal.Record 17 refl (judged ∙ rw (← p) refl)

    module _ (p : true ≡ possible k n) (t : List Row) (rows : t ≡ field_rows k) (q : Parsed) (start : q ≡ Start h.at (n - 4)) where
      judged_body : read_sealed (drop at s) ≡ closed summed k (steps t (view s 0 (Ok q)))
      judged_body = judged ∙ rw (← p) (ap (λ z. closed summed k (steps z (good (n - 4) [] (drop h.at s)))) (sym rows) ∙ ap (λ z. closed summed k (steps t z)) (sym (begun s h.at (n - 4) q start)))

      pub no_fields : (x : Refusal) → bad (number x) ≡ steps t (view s 0 (Ok q)) → record_read at (Err x) ≡ sealed_at s at
      unfolding closed
      no_fields x z = refuses x (number x) refl (judged_body ∙ ap (closed summed k) (sym z))

      module _ (r : Parsed) (z : good r.left (take (length t) r.values) (drop r.at s) ≡ steps t (view s 0 (Ok q))) where
        long : length t ≡ field_count k
        long = ap length rows ∙ rows_long k

        pub closes : (a : Record) → a ≡ valued (length s) at (closed (take (n - 1) (drop 2 (drop at s))) k (good r.left (take (field_count k) r.values) (drop r.at s))) → a ≡ sealed_at s at
        unfolding sealed_at summed
        closes a f = f ∙ sym (ap (valued (length s) at) (judged_body ∙ ap (closed summed k) (sym z) ∙ ap (λ m. closed summed k (good r.left (take m r.values) (drop r.at s))) long))

        pub fields_read : at + 2 < length s → r.at ≤ length s → drop (length t) r.values ≡ drop (length t) q.values → Fields s at k n r
        fields_read a i d =
            let m = field_count k in
            let y : steps (field_rows k) (good (n - 4) [] (drop h.at s)) ≡ good r.left (take m r.values) (drop r.at s) =
            ap (λ z. steps z (good (n - 4) [] (drop h.at s))) (sym rows) ∙ ap (steps t) (sym (begun s h.at (n - 4) q start)) ∙ sym z ∙ ap (λ c. good r.left (take c r.values) (drop r.at s)) long in
            let l = first_low k (n - 4) r.left (drop h.at s) (take m r.values) (drop r.at s) y in
            record {
              place = omega arith;
              some = omega (arith, some k n (sym p));
              inside = i;
              low = omega (arith, l, get_or-take m r.values 0 0 (positive k));
              zeros = ap (λ c. drop c r.values) (sym long) ∙ d ∙ ap (λ v. drop (length t) v.values) start ∙ drop-replicate (length t) 80 0 ∙ ap (λ c. replicate (80 - c) 0) long;
            }
          where
            positive : (k : ℕ) → 0 < field_count k
            positive k = go (eqb k 4)
              where
                go : (b : Bool) → 0 < cond b 17 5
                go true = omega arith
                go false = omega arith

-- ---- any kind

module _ (s : List ℕ) (at : ℕ) where
  no_third : (l : List ℕ) → length l < 3 → get_or l 2 0 ≡ 0
  no_third [] h = refl
  no_third (a ∷ []) h = refl
  no_third (a ∷ b ∷ []) h = refl
  no_third (a ∷ b ∷ c ∷ l) h = none (omega arith)
    where
      none : {A : Type 0} → ⊥ → A
      none e = elim e [ ]

  pub too_few : length s - at < 3 → false ≡ is_sealed (drop at s)
  too_few h = rw (no_third (drop at s) (omega (arith, length-drop at s))) refl

  pub third : (leb 4 (get_or s (at + 2) 0) && leb (get_or s (at + 2) 0) 5) ≡ is_sealed (drop at s)
  third = ap (λ (z : ℕ). leb 4 z && leb z 5) (sym (get_or-drop at s 2 0))

  pub is_sealed_lem : (r : Record) → true ≡ is_sealed (drop at s) → r ≡ sealed_at s at → r ≡ any_at s at
  unfolding any_at
  is_sealed_lem r e f = f ∙ rw (← e) refl

  pub is_open : (r : Record) → false ≡ is_sealed (drop at s) → r ≡ record_at s at → r ≡ any_at s at
  unfolding any_at
  is_open r e f = f ∙ rw (← e) refl
