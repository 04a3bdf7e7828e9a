-- The results that a write of a sealed record can have, from the tests of the code. Assumes nothing.
use mathlib.Core.Path.{◌≡◌, refl, sym, ap, ◌∙◌}
use Prim.Native.Nat.{ℕ, ◌+◌, ◌-◌, ◌*◌, ◌≤◌, ◌<◌}
use native.Mathlib.Omega.{arith}
use mathlib.Core.Bool.{Bool, true, false, cond}
use mathlib.Core.List.{List, [], ◌∷◌, ◌++◌, append_assoc}
use lib.Dec.{eqb}
use lib.ListN.{length, get_or, take, drop, length-append}
use lib.Seq.{sets, sets-eq, take_all, drop_at, drop-drop, length-take-le, get_or-take}
use borrow.Author.Tests.{le-leb, lt-leb, eq-eqb, ne_eqb}
use Rattle.byte_layout.specs.declared.Row.{Row}
use Rattle.byte_layout.specs.Numbers.{bytes}
use Rattle.refusals.specs.declared.Refusal.TheVariants.{Record}
use Rattle.byte_layout.specs.Rows.{row, stands}
use Rattle.byte_layout.specs.Writes.{field, payload, fine}
use Rattle.byte_layout.proofs.Numbers.{length_bytes}
use Rattle.byte_layout.proofs.Puts.{sets_append}
use Rattle.crc32.specs.Checksums.{checksum_of}
use Rattle.trace_records.specs.Tables as of-version-1
use Rattle.trace_records.specs.Tables.{fields}
use Rattle.trace_records.specs.Writes.{head_of, Written, write_record}
use Rattle.trace_sealed.specs.declared.layouts.Kind.{Kind}
use Rattle.trace_sealed.specs.declared.layouts.Kind.TheVariants.{Given, Laned}
use Rattle.trace_sealed.specs.Tables.{kind_number, head_rows, given_rows, laned_rows, field_rows, field_count, lane_bytes}
use Rattle.trace_sealed.specs.Writes.{body_of, unsealed, sealed_of, sealed_kind, write_sealed, write_any}
use Rattle.trace_records.proofs.Rounds.{row_always, one}
use Rattle.trace_sealed.proofs.Ways.{rows_long, lanes_are}
use Rattle.trace_sealed.proofs.Rounds.{head_length, covers, body_possible, possible_few}

-- what is said by a kind's rows, said by the kind
by_kind : {A : Type 0} (f : List Row → List ℕ → A) (t : List Row) (k : ℕ) (vals : List ℕ) → t ≡ field_rows k → f t (take (length t) vals) ≡ f (field_rows k) (take (field_count k) vals)
by_kind f t k vals e = ap (λ z. f z (take (length z) vals)) e ∙ ap (λ n. f (field_rows k) (take n vals)) (rows_long k)

pub kind_sealed : (k : Kind) → true ≡ sealed_kind (kind_number k)
kind_sealed Given = refl
kind_sealed Laned = refl

-- the head's bytes do not depend on the kinds that a head may have
pub head_same : (k n : ℕ) → payload of-version-1.head_rows [] (head_of k n) ≡ payload head_rows [] (head_of k n)
unfolding payload field stands head_rows of-version-1.head_rows
head_same k n = refl

-- ---- the first number

fine_low : (k : ℕ) (vs : List ℕ) → fine (field_rows k) [] vs ≡ true → get_or vs 0 0 ≤ 4294967295
unfolding given_rows laned_rows
fine_low k [] e = omega arith
fine_low k (x ∷ ws) e = go (eqb k 4) e
  where
    go : (b : Bool) → fine (cond b given_rows laned_rows) [] (x ∷ ws) ≡ true → x ≤ 4294967295
    go true q = omega (arith, one (row 4 0 0 0 4294967295 Record) x (row_always (row 4 0 0 0 4294967295 Record) (drop 1 given_rows) [] ws x refl q).0)
    go false q = omega (arith, one (row 2 0 0 1 1024 Record) x (row_always (row 2 0 0 1 1024 Record) (drop 1 laned_rows) [] ws x refl q).0)

pub first_fits : (k : ℕ) (t : List Row) (vals : List ℕ) → t ≡ field_rows k → true ≡ fine t [] (take (length t) vals) → get_or vals 0 0 ≤ 4294967295
first_fits k t vals r e =
    omega (arith, fine_low k (take (field_count k) vals) (sym (e ∙ by_kind (λ z. fine z []) t k vals r)), get_or-take (field_count k) vals 0 0 (positive (eqb k 4)))
  where
    positive : (b : Bool) → 0 < cond b 17 5
    positive true = omega arith
    positive false = omega arith

-- ---- the bytes written one after the other

unsealed_as : (k n : ℕ) (vs lanes : List ℕ) → n ≡ length (payload (field_rows k) [] vs ++ lanes) + 4 → payload head_rows [] (head_of k n) ++ (payload (field_rows k) [] vs ++ lanes) ≡ unsealed k vs lanes
unfolding unsealed
unsealed_as k n vs lanes e = ap (λ (z : ℕ). payload head_rows [] (head_of k z) ++ (payload (field_rows k) [] vs ++ lanes)) e

sealed_as : (k : ℕ) (vs lanes : List ℕ) → unsealed k vs lanes ++ bytes 4 (checksum_of (drop 2 (unsealed k vs lanes))) ≡ sealed_of k vs lanes
unfolding sealed_of
sealed_as k vs lanes = refl

-- the size of a payload, and of its fields by the rows
abbrev Long : ℕ → List ℕ → List ℕ → ℕ → Type 0
Long k vals lanes n = n ≡ length (payload (field_rows k) [] (take (field_count k) vals)) + length lanes + 4

pub rows_size : (k : ℕ) (t : List Row) (vals : List ℕ) → t ≡ field_rows k → length (payload t [] (take (length t) vals)) ≡ length (payload (field_rows k) [] (take (field_count k) vals))
rows_size k t vals r = by_kind (λ z ws. length (payload z [] ws)) t k vals r

-- the offset after the fields: the lanes and the checksum are left
pub fields_end : (k : ℕ) (t : List Row) (vals lanes : List ℕ) (at n a b : ℕ) → t ≡ field_rows k → Long k vals lanes n → a ≡ at + 5 → b ≡ a + length (payload t [] (take (length t) vals)) → b + length lanes + 4 ≡ at + 5 + n
fields_end k t vals lanes at n a b r e q s = omega (arith, rows_size k t vals r)

pub sealing : (buf : List ℕ) (at k n : ℕ) (t : List Row) (vals lanes : List ℕ) → at + 5 + n ≤ length buf → Long k vals lanes n → t ≡ field_rows k
    → (head two three four : List ℕ) (a b sum : ℕ) → head ≡ sets buf at (payload of-version-1.head_rows [] (head_of k n)) → a ≡ at + 5
    → two ≡ sets head a (payload t [] (take (length t) vals)) → b ≡ a + length (payload t [] (take (length t) vals))
    → three ≡ sets two b (take (length lanes - 0) (drop 0 lanes)) → sum ≡ checksum_of (take (n - 1) (drop (at + 2) three))
    → four ≡ sets three (b + length lanes) (bytes 4 sum) → four ≡ sets buf at (sealed_of k (take (field_count k) vals) lanes)
sealing buf at k n rows vals lanes room e same head two three four a b sum p q r s t u v =
    let vs = take (field_count k) vals in
    let f = payload (field_rows k) [] vs in
    let h = payload head_rows [] (head_of k n) in
    let x = unsealed k vs lanes in
    let lh : length h ≡ 5 = head_length k n in
    let lf : length (f ++ lanes) ≡ length f + length lanes = length-append f lanes in
    let x-is : h ++ (f ++ lanes) ≡ x = unsealed_as k n vs lanes (omega arith) in
    let lx : length x ≡ n + 1 = ap length (sym x-is) ∙ length-append h (f ++ lanes) ∙ omega arith in
    let two_is : two ≡ sets buf at (h ++ f) =
    r ∙ by_kind (λ z ws. sets head a (payload z [] ws)) rows k vals same ∙ ap (λ (z : ℕ). sets head z f) (omega arith) ∙ ap (λ (z : List ℕ). sets z (at + length h) f) (p ∙ ap (sets buf at) (head_same k n)) ∙ sym (sets_append buf at h f) in
    let b-is : b ≡ at + length (h ++ f) = omega (arith, length-append h f, rows_size k rows vals same) in
    let three-is : three ≡ sets buf at x =
    t ∙ ap (sets two b) (take_all (length lanes - 0) lanes (omega arith)) ∙ ap (λ (z : ℕ). sets two z lanes) b-is ∙ ap (λ (z : List ℕ). sets z (at + length (h ++ f)) lanes) two_is
    ∙ sym (sets_append buf at (h ++ f) lanes) ∙ ap (sets buf at) (append_assoc h f lanes ∙ x-is) in
    let rest = drop (at + length x) buf in
    let laid : three ≡ take at buf ++ (x ++ rest) = three-is ∙ sets-eq x buf at (omega arith) ∙ append_assoc (take at buf) x rest in
    let after : drop (at + 2) three ≡ drop 2 (x ++ rest) =
    sym (drop-drop 2 at three) ∙ ap (drop 2) (ap (drop at) laid ∙ drop_at (take at buf) (x ++ rest) at (length-take-le at buf (omega arith))) in
    let sum_is : sum ≡ checksum_of (drop 2 x) = u ∙ ap checksum_of (ap (take (n - 1)) after ∙ covers x rest (n - 1) (omega arith)) in
    v ∙ ap (λ (z : ℕ). sets three z (bytes 4 sum)) (omega (arith, b-is, length-append h f)) ∙ ap (λ (z : List ℕ). sets z (at + length x) (bytes 4 sum)) three-is
    ∙ sym (sets_append buf at x (bytes 4 sum)) ∙ ap (λ (z : ℕ). sets buf at (x ++ bytes 4 z)) sum_is ∙ ap (sets buf at) (sealed_as k vs lanes)

-- ---- the write

abbrev outcome : ℕ → ℕ → List ℕ → Written
outcome k a b = record { number = k; next = a; buffer = b }

-- numbers and lanes that are written: m bytes of fields, and w of lanes
pub record Whole (k : ℕ) (vals lanes : List ℕ) (w m : ℕ) : Type 0 where
  pub fits : true ≡ fine (field_rows k) [] (take (field_count k) vals)
  pub wide : lane_bytes k (take (field_count k) vals) ≡ w
  pub equal : length lanes ≡ w
  pub fields : m ≡ length (payload (field_rows k) [] (take (field_count k) vals))

pub whole : (k : ℕ) (t : List Row) (vals lanes : List ℕ) (w m : ℕ) → t ≡ field_rows k → true ≡ fine t [] (take (length t) vals) → w ≡ cond (eqb k 4) 0 (24 * get_or vals 0 0) → length lanes ≡ w
    → m ≡ length (payload t [] (take (length t) vals)) → Whole k vals lanes w m
whole k t vals lanes w m r f e g i =
    record {
      fits = f ∙ by_kind (λ z. fine z []) t k vals r;
      wide = lanes_are k vals ∙ sym e;
      equal = g;
      fields = i ∙ rows_size k t vals r;
    }

pub few : (k : ℕ) (vals lanes : List ℕ) (w m : ℕ) → Whole k vals lanes w m → m + w + 4 ≤ 24593
few k vals lanes w m x =
    let p = possible_few k (length (payload (field_rows k) [] (take (field_count k) vals)) + length lanes + 4) (body_possible k (take (field_count k) vals) lanes (sym x.fits) (x.equal ∙ sym x.wide)) in
    omega (arith, x.equal, x.fields)

module _ (buf : List ℕ) (at k : ℕ) (vals lanes : List ℕ) where
  abbrev vs : List ℕ
  vs = take (field_count k) vals

  module _ (t : List Row) (r : t ≡ field_rows k) where
    pub unfit : false ≡ fine t [] (take (length t) vals) → outcome 17 at buf ≡ write_sealed buf at k vs lanes
    unfolding write_sealed
    unfit e = rw (← (e ∙ by_kind (λ z. fine z []) t k vals r)) refl

    pub not_whole : true ≡ fine t [] (take (length t) vals) → (w : ℕ) → w ≡ cond (eqb k 4) 0 (24 * get_or vals 0 0) → (length lanes ≡ w → ⊥) → outcome 17 at buf ≡ write_sealed buf at k vs lanes
    unfolding write_sealed
    not_whole f w e h = rw (← (f ∙ by_kind (λ z. fine z []) t k vals r), lanes_are k vals ∙ sym e, ne_eqb (length lanes) w h) refl

  module _ (w m : ℕ) (x : Whole k vals lanes w m) where
    size : length (sealed_of k vs lanes) ≡ 5 + (m + w + 4)
    unfolding sealed_of unsealed
    size =
        length-append (unsealed k vs lanes) (bytes 4 (checksum_of (drop 2 (unsealed k vs lanes))))
        ∙ (let a = length-append (payload head_rows [] (head_of k (length (body_of k vs lanes) + 4))) (body_of k vs lanes) in
        let b = length-append (payload (field_rows k) [] vs) lanes in
        let c = length_bytes 4 (checksum_of (drop 2 (unsealed k vs lanes))) in
        let d = head_length k (length (body_of k vs lanes) + 4) in
        omega (arith, a, b, c, d, x.equal, x.fields))

    pub no_room : length buf - at < 5 + (m + w + 4) → outcome 19 at buf ≡ write_sealed buf at k vs lanes
    unfolding write_sealed
    no_room h = rw (← x.fits, x.wide, eq-eqb (length lanes) w x.equal, lt-leb (length (sealed_of k vs lanes)) (length buf - at) (omega (arith, size))) refl

    pub written : 5 + (m + w + 4) ≤ length buf - at → (new : List ℕ) (next : ℕ) → new ≡ sets buf at (sealed_of k vs lanes) → next ≡ at + 5 + (m + w + 4) → outcome 0 next new ≡ write_sealed buf at k vs lanes
    unfolding write_sealed
    written h new next p q =
        rw (← x.fits, x.wide, eq-eqb (length lanes) w x.equal, le-leb (length (sealed_of k vs lanes)) (length buf - at) (omega (arith, size)))
        (ap (λ (x : ℕ). outcome 0 x new) (omega (arith, size)) ∙ ap (λ (x : List ℕ). outcome 0 (at + length (sealed_of k vs lanes)) x) (p ∙ sets-eq (sealed_of k vs lanes) buf at (omega (arith, size))))

  pub sealed_way : (x : Written) → true ≡ sealed_kind k → x ≡ write_sealed buf at k vs lanes → x ≡ write_any buf at k vals lanes
  unfolding write_any
  sealed_way x e f = f ∙ rw (← e) refl

  pub open_way : (x : Written) → false ≡ sealed_kind k → x ≡ write_record buf at k (take (fields k) vals) → x ≡ write_any buf at k vals lanes
  unfolding write_any
  open_way x e f = f ∙ rw (← e) refl
