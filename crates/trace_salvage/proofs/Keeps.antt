-- Kept and skipped bytes are all bytes; the effect of one iteration on the rest.
use mathlib.Core.Path.{◌≡◌, refl, sym, ap, subst, ◌∙◌}
use Prim.Native.Nat.{ℕ, zero, suc, ◌+◌, ◌-◌, ◌≤◌, ◌<◌}
use native.Mathlib.Omega.{arith}
use mathlib.Core.Bool.{Bool, true, false, cond}
use mathlib.Core.List.{List, [], ◌∷◌, ◌++◌}
use lib.Dec.{eqb}
use lib.ListN.{length, get_or, take, drop, length-append, length-drop, drop_of_length-le}
use lib.Seq.{drop-cons, drop-drop, sets, length-sets, length-take-le}
use Rattle.byte_layout.specs.declared.Row.{Row}
use Rattle.byte_layout.specs.Reads.{Reading, bad, good, steps}
use Rattle.byte_layout.proofs.Low.{some_refusal}
use Rattle.byte_layout.proofs.Numbers.{Small, small_drop}
use Rattle.byte_layout.proofs.Puts.{sets_append}
use Rattle.trace_salvage.specs.declared.Salvaging.{Salvaging}
use borrow.Author.Tests.{eqb-false, ne_eqb, eq-eqb, lt-ltb, le-ltb}
use Rattle.std.specs.Prelude.{Some, unwrap_or, Err}
use Rattle.refusals.specs.declared.Refusal.{Refusal}
use Rattle.trace_records.specs.Records.{Record, record_read, Found, refused, found, read_record, valued, record_at}
use Rattle.trace_sealed.specs.Records as sealed
use Rattle.trace_records.proofs.Windows.{refusal_numbered}
use Rattle.trace_sealed.specs.Tables.{head_rows, field_rows, lane_bytes}
use Rattle.trace_sealed.specs.Records.{possible, tail, closed, bodied, is_sealed, read_sealed, read_any, read_by, sealed_at, any_at}
use Rattle.trace_sealed.proofs.Readers.{by_1, by_2, opens_by, unmarked_by}
use Rattle.trace_salvage.specs.Salvage.{kept, skipped, records, first, size_in, size_by, Ends, placed, Salvages, Salvaged, salvage_by}

none : {A : Type 0} → ⊥ → A
none e = elim e [ ]

module _ (size : List ℕ → ℕ) where
  pub all_bytes : (bs : List ℕ) (k : ℕ) → length (kept size bs k) + skipped size bs k ≡ length bs
  unfolding kept skipped
  all_bytes [] k = omega arith
  all_bytes (b ∷ bs) (suc k) = omega (arith, all_bytes bs k)
  all_bytes (b ∷ bs) zero = go (eqb (size (b ∷ bs)) 0) (all_bytes bs 0) (all_bytes bs (size (b ∷ bs) - 1))
    where
      go : (t : Bool) → length (kept size bs 0) + skipped size bs 0 ≡ length bs → length (kept size bs (size (b ∷ bs) - 1)) + skipped size bs (size (b ∷ bs) - 1) ≡ length bs
          → length (cond t (kept size bs 0) (b ∷ kept size bs (size (b ∷ bs) - 1))) + cond t (suc (skipped size bs 0)) (skipped size bs (size (b ∷ bs) - 1)) ≡ suc (length bs)
      go true e f = omega arith
      go false e f = omega arith

  -- a record is copied to its end
  split : (bs : List ℕ) (k : ℕ) → k ≤ length bs → kept size bs k ≡ take k bs ++ kept size (drop k bs) 0
  unfolding kept
  split bs zero h = refl
  split [] (suc k) h = refl
  split (b ∷ bs) (suc k) h = ap (λ (l : List ℕ). b ∷ l) (split bs k (omega arith))

  passed_over : (bs : List ℕ) (k : ℕ) → k ≤ length bs → skipped size bs k ≡ skipped size (drop k bs) 0
  unfolding skipped
  passed_over bs zero h = refl
  passed_over [] (suc k) h = refl
  passed_over (b ∷ bs) (suc k) h = passed_over bs k (omega arith)

  counted_over : (bs : List ℕ) (k : ℕ) → k ≤ length bs → records size bs k ≡ records size (drop k bs) 0
  unfolding records
  counted_over bs zero h = refl
  counted_over [] (suc k) h = refl
  counted_over (b ∷ bs) (suc k) h = counted_over bs k (omega arith)

  placed_over : (at : ℕ) (bs : List ℕ) (k : ℕ) → k ≤ length bs → first size at bs k ≡ first size (at + k) (drop k bs) 0
  unfolding first
  placed_over at bs zero h = let e : at + 0 ≡ at = omega arith in rw e refl
  placed_over at [] (suc k) h = none (omega arith)
  placed_over at (b ∷ bs) (suc k) h = let e : suc at + k ≡ at + suc k = omega arith in placed_over (suc at) bs k (omega arith) ∙ ap (λ (z : ℕ). first size z (drop k bs) 0) e

-- the iterations of the code
pub record Keep (size : List ℕ → ℕ) (at : ℕ) (bs : List ℕ) : Type 0 where
  pub bytes : kept size bs 0 ≡ take (size bs) bs ++ kept size (drop (size bs) bs) 0
  pub skips : skipped size bs 0 ≡ skipped size (drop (size bs) bs) 0
  pub count : records size bs 0 ≡ suc (records size (drop (size bs) bs) 0)
  pub place : first size at bs 0 ≡ first size (at + size bs) (drop (size bs) bs) 0

pub turn_keep : (size : List ℕ → ℕ) (at : ℕ) (bs : List ℕ) → 0 < size bs → size bs ≤ length bs → Keep size at bs
unfolding kept skipped records first
turn_keep size at [] p h = none (omega arith)
turn_keep size at (b ∷ bs) p h = go (size (b ∷ bs) - 1) (omega arith)
  where
    go : (k : ℕ) → size (b ∷ bs) ≡ suc k → Keep size at (b ∷ bs)
    go k q =
        let f : suc k - 1 ≡ k = omega arith in
        let n : eqb (suc k) 0 ≡ false = ne_eqb (suc k) 0 (λ z. omega arith) in
        let l : k ≤ length bs = omega arith in
        let m : suc at + k ≡ at + suc k = omega arith in
        record {
          bytes = rw (q, n, f) (ap (λ (x : List ℕ). b ∷ x) (split size bs k l));
          skips = rw (q, n, f) (passed_over size bs k l);
          count = rw (q, n, f) (ap suc (counted_over size bs k l));
          place = rw (q, n, f) (placed_over size (suc at) bs k l ∙ ap (λ (z : ℕ). first size z (drop k bs) 0) m);
        }

pub record Skip (size : List ℕ → ℕ) (at : ℕ) (bs : List ℕ) : Type 0 where
  pub bytes : kept size bs 0 ≡ kept size (drop 1 bs) 0
  pub skips : skipped size bs 0 ≡ suc (skipped size (drop 1 bs) 0)
  pub count : records size bs 0 ≡ records size (drop 1 bs) 0
  pub place : first size at bs 0 ≡ at

pub turn_skip : (size : List ℕ → ℕ) (at : ℕ) (bs : List ℕ) → 0 < length bs → size bs ≤ 0 → Skip size at bs
unfolding kept skipped records first
turn_skip size at [] p h = none (omega arith)
turn_skip size at (b ∷ bs) p h = let q : size (b ∷ bs) ≡ 0 = omega arith in record { bytes = rw q refl; skips = rw q refl; count = rw q refl; place = rw q refl }

size_in_le : (n : ℕ) (d : Found) → size_in n d ≤ n
unfolding size_in
size_in_le n (refused k) = omega arith
size_in_le n (found l ws rest) = omega arith

pub size_le : (v : ℕ) (s : List ℕ) (at : ℕ) → size_by v (drop at s) ≤ length s - at
unfolding size_by
size_le v s at = omega (arith, size_in_le (length (drop at s)) (read_by v (drop at s)), length-drop at s)

-- ---- a refusal that a reader finds is a number

unfoldable numbers : Found → ℕ
numbers (refused k) = k
numbers (found l ws rest) = 1

closed_numbered : (covered : List ℕ) (k n : ℕ) (rs : List Row) (bs : List ℕ) → 0 < numbers (closed covered k (steps rs (good n [] bs)))
unfolding closed numbers
closed_numbered covered k n rs bs = go (steps rs (good n [] bs)) refl
  where
    summed : (b : Bool) (ws rest : List ℕ) → 0 < numbers (cond b (found k ws rest) (refused 17))
    summed true ws rest = omega arith
    summed false ws rest = omega arith

    tailed : (c : Bool) (t : ℕ) → eqb t 0 ≡ c → (b : Bool) (ws rest : List ℕ) → 0 < numbers (cond c (cond b (found k ws rest) (refused 17)) (refused t))
    tailed true t e b ws rest = summed b ws rest
    tailed false t e b ws rest = omega (arith, eqb-false t 0 e)

    go : (d : Reading) → steps rs (good n [] bs) ≡ d → 0 < numbers (closed covered k d)
    go (bad j) e = some_refusal rs bs n j e
    go (good l vs rest) e = tailed (eqb (tail (lane_bytes k vs) l (length rest)) 0) (tail (lane_bytes k vs) l (length rest)) refl _ _ _

sealed_numbered : (bs : List ℕ) (n : ℕ) → read_sealed bs ≡ refused n → 0 < n
unfolding read_sealed bodied numbers
sealed_numbered bs n e = omega (arith, ap numbers e, go (steps head_rows (good 5 [] bs)) refl)
  where
    possibly : (b : Bool) (covered : List ℕ) (k m : ℕ) (rest : List ℕ) → 0 < numbers (cond b (closed covered k (steps (field_rows k) (good m [] rest))) (refused 17))
    possibly true covered k m rest = closed_numbered covered k m (field_rows k) rest
    possibly false covered k m rest = omega arith

    go : (d : Reading) → steps head_rows (good 5 [] bs) ≡ d → 0 < numbers (bodied bs d)
    go (bad j) q = some_refusal head_rows bs 5 j q
    go (good l hs rest) q = possibly (possible (get_or hs 2 0) (get_or hs 3 0)) (take (get_or hs 3 0 - 1) (drop 2 bs)) (get_or hs 2 0) (get_or hs 3 0 - 4) rest

any_numbered : (bs : List ℕ) (n : ℕ) → read_any bs ≡ refused n → 0 < n
unfolding read_any
any_numbered bs n = go (is_sealed bs)
  where
    go : (b : Bool) → cond b (read_sealed bs) (read_record bs) ≡ refused n → 0 < n
    go true e = sealed_numbered bs n e
    go false e = refusal_numbered bs n e

numbered_by : (v : ℕ) (bs : List ℕ) (n : ℕ) → read_by v bs ≡ refused n → 0 < n
unfolding read_by
numbered_by v bs n = go (eqb v 1)
  where
    go : (b : Bool) → cond b (read_record bs) (read_any bs) ≡ refused n → 0 < n
    go true e = refusal_numbered bs n e
    go false e = any_numbered bs n e

-- ---- the record at an offset

-- the length of a record that was read at an offset
abbrev taken_up : ℕ → Record → ℕ
taken_up at r = cond (eqb r.refusal 0) (r.next - at) 0

nothing_taken : (at k : ℕ) → cond (eqb k 0) (at - at) 0 ≡ 0
nothing_taken at k = go (eqb k 0)
  where
    go : (t : Bool) → cond t (at - at) 0 ≡ 0
    go true = omega arith
    go false = refl

-- the refusal of what is found, 0 for none
unfoldable refusal_in : Found → ℕ
refusal_in (refused k) = k
refusal_in (found l ws rest) = 0

-- the size and the refusal of the record that a reader found at an offset
pub record Read (v : ℕ) (s : List ℕ) (at : ℕ) (r : Record) : Type 0 where
  pub size : taken_up at r ≡ size_by v (drop at s)
  refusal : r.refusal ≡ refusal_in (read_by v (drop at s))

record In (at n : ℕ) (r : Record) (d : Found) : Type 0 where
  size : taken_up at r ≡ size_in n d
  refusal : r.refusal ≡ refusal_in d

valued_in : (len at n : ℕ) (d : Found) → n ≡ len - at → In at n (valued len at d) d
unfolding valued size_in refusal_in
valued_in len at n (refused k) e = record { size = nothing_taken at k; refusal = refl }
valued_in len at n (found k ws rest) e = record { size = omega arith; refusal = refl }

sealed_in : (len at n : ℕ) (d : Found) → n ≡ len - at → In at n (sealed.valued len at d) d
unfolding sealed.valued size_in refusal_in
sealed_in len at n (refused k) e = record { size = nothing_taken at k; refusal = refl }
sealed_in len at n (found k ws rest) e = record { size = omega arith; refusal = refl }

in_1 : (s : List ℕ) (at : ℕ) → In at (length (drop at s)) (record_at s at) (read_record (drop at s))
unfolding record_at
in_1 s at = valued_in (length s) at (length (drop at s)) (read_record (drop at s)) (length-drop at s)

in_2 : (s : List ℕ) (at : ℕ) → In at (length (drop at s)) (any_at s at) (read_any (drop at s))
unfolding any_at sealed_at read_any
in_2 s at = go (is_sealed (drop at s))
  where
    go : (t : Bool) → In at (length (drop at s)) (cond t (sealed.valued (length s) at (read_sealed (drop at s))) (record_at s at)) (cond t (read_sealed (drop at s)) (read_record (drop at s)))
    go true = sealed_in (length s) at (length (drop at s)) (read_sealed (drop at s)) (length-drop at s)
    go false = in_1 s at

read_in : (v : ℕ) (s : List ℕ) (at : ℕ) (r : Record) → In at (length (drop at s)) r (read_by v (drop at s)) → Read v s at r
unfolding size_by
read_in v s at r i = record { size = i.size; refusal = i.refusal }

pub read_1 : (v : ℕ) (s : List ℕ) (at : ℕ) (r : Record) → v ≡ 1 → r ≡ record_at s at → Read v s at r
read_1 v s at r h e =
    read_in v s at r (subst (λ d. In at (length (drop at s)) r d) (sym (by_1 v (drop at s) (eq-eqb v 1 h))) (subst (λ x. In at (length (drop at s)) x (read_record (drop at s))) (sym e) (in_1 s at)))

pub read_2 : (v : ℕ) (s : List ℕ) (at : ℕ) (r : Record) → (v ≡ 1 → ⊥) → r ≡ any_at s at → Read v s at r
read_2 v s at r h e =
    read_in v s at r (subst (λ d. In at (length (drop at s)) r d) (sym (by_2 v (drop at s) (ne_eqb v 1 h))) (subst (λ x. In at (length (drop at s)) x (read_any (drop at s))) (sym e) (in_2 s at)))

pub none_read : (v : ℕ) (s : List ℕ) (at : ℕ) (e : Refusal) → Read v s at (record_read at (Err e)) → 0 ≡ size_by v (drop at s)
none_read v s at e h = sym (nothing_taken at _) ∙ h.size

-- a record that is read ends after its offset
pub ends : (v : ℕ) (s : List ℕ) (at : ℕ) (r : Record) → Small s → r.refusal ≡ 0 → Read v s at r → Ends v s at (Some r.next)
unfolding size_by size_in refusal_in
ends v s at r m z h = go (read_by v (drop at s)) refl
  where
    size : r.next - at ≡ size_by v (drop at s)
    size = rw z at h.size

    go : (d : Found) → read_by v (drop at s) ≡ d → (at < r.next) × (r.next - at ≡ size_by v (drop at s))
    go (refused n) e = none (omega (arith, numbered_by v (drop at s) n e, ap refusal_in e, h.refusal, z))
    go (found k ws rest) e =
        let o = opens_by v (drop at s) k ws rest (small_drop at s m) e in
        let l : length (drop at s) ≡ length o.front + length rest = ap length o.same ∙ length-append o.front rest in
        let n : size_by v (drop at s) ≡ length (drop at s) - length rest = ap (size_in (length (drop at s))) e in
        (omega (arith, size, n, l, o.some), size)

-- no record begins past the end, or with another byte than A5
pub size_past : (v : ℕ) (s : List ℕ) (at : ℕ) → length s ≤ at → 0 ≡ size_by v (drop at s)
size_past v s at h = omega (arith, size_le v s at)

pub size_unmarked : (v : ℕ) (s : List ℕ) (at : ℕ) → at < length s → (get_or s at 0 ≡ 165 → ⊥) → 0 ≡ size_by v (drop at s)
unfolding size_by size_in
size_unmarked v s at l h = rw (drop-cons s at 0 l, unmarked_by v (get_or s at 0) (drop (suc at) s) h) refl

module _ (v : ℕ) (s out : List ℕ) (t : Salvaging) (a : t.at < length s) (b : t.w ≤ t.at) (c : t.skip ≤ t.at) (g : t.records ≤ t.at) where
  pub keeps : (new : List ℕ) (end n : ℕ) → t.at + n ≡ end → n ≡ size_by v (drop t.at s) → 0 < n → new ≡ sets out t.w (take n (drop t.at s))
      → Salvages v s out new t (record { at = end; w = t.w + n; skip = t.skip; records = t.records + 1; first = t.first })
  keeps new end n i e p x =
      let bs = drop t.at s in
      let l : length bs ≡ length s - t.at = length-drop t.at s in
      let h = size_le v s t.at in
      let k = turn_keep (size_by v) t.at bs (omega (arith, e)) (omega (arith, h, l)) in
      let d : drop (size_by v bs) bs ≡ drop (t.at + n) s = drop-drop (size_by v bs) t.at s ∙ ap (λ (z : ℕ). drop (t.at + z) s) (sym e) in
      let y : length (take n bs) ≡ n = length-take-le n bs (omega (arith, e, h, l)) in
      let z : kept (size_by v) bs 0 ≡ take n bs ++ kept (size_by v) (drop (t.at + n) s) 0 = k.bytes ∙ ap (λ (u : ℕ). take u bs ++ kept (size_by v) (drop (size_by v bs) bs) 0) (sym e) ∙ ap (λ (u : List ℕ). take n bs ++ kept (size_by v) u 0) d in
      let o : records (size_by v) bs 0 ≡ suc (records (size_by v) (drop (t.at + n) s) 0) = k.count ∙ ap (λ (u : List ℕ). suc (records (size_by v) u 0)) d in
      let f : first (size_by v) t.at bs 0 ≡ first (size_by v) (t.at + n) (drop (t.at + n) s) 0 = k.place ∙ ap (λ (u : ℕ). first (size_by v) (t.at + u) (drop (size_by v bs) bs) 0) (sym e) ∙ ap (λ (u : List ℕ). first (size_by v) (t.at + n) u 0) d in
      subst (λ (z : ℕ). Salvages v s out new t (record { at = z; w = t.w + n; skip = t.skip; records = t.records + 1; first = t.first })) i
      (record {
        inside = omega (arith, e, h);
        on = omega arith;
        room = omega arith;
        few = omega arith;
        some = omega arith;
        long = ap length x ∙ simp length-sets;
        same = rw (x, z) (ap (λ (u : ℕ). sets (sets out t.w (take n bs)) (t.w + u) (kept (size_by v) (drop (t.at + n) s) 0)) (sym y) ∙ sym (sets_append out t.w (take n bs) (kept (size_by v) (drop (t.at + n) s) 0)));
        count = ap (λ (u : ℕ). t.skip + u) (sym (k.skips ∙ ap (λ (u : List ℕ). skipped (size_by v) u 0) d));
        whole = omega (arith, o);
        place = ap (unwrap_or t.first) (sym f);
      })

  pub skips : (f : ℕ) → size_by v (drop t.at s) ≤ 0 → f ≡ unwrap_or t.first t.at → Salvages v s out out t (record { at = t.at + 1; w = t.w; skip = t.skip + 1; records = t.records; first = Some f })
  skips f p y =
      let bs = drop t.at s in
      let k = turn_skip (size_by v) t.at bs (omega (arith, length-drop t.at s)) p in
      let d : drop 1 bs ≡ drop (t.at + 1) s = drop-drop 1 t.at s in
      let j : skipped (size_by v) bs 0 ≡ suc (skipped (size_by v) (drop (t.at + 1) s) 0) = k.skips ∙ ap (λ (u : List ℕ). suc (skipped (size_by v) u 0)) d in
      let o : records (size_by v) bs 0 ≡ records (size_by v) (drop (t.at + 1) s) 0 = k.count ∙ ap (λ (u : List ℕ). records (size_by v) u 0) d in
      record {
        inside = omega arith;
        on = omega arith;
        room = omega arith;
        few = omega arith;
        some = omega arith;
        long = refl;
        same = ap (λ (u : List ℕ). sets out t.w u) (sym (k.bytes ∙ ap (λ (u : List ℕ). kept (size_by v) u 0) d));
        count = omega (arith, j);
        whole = ap (λ (u : ℕ). t.records + u) (sym o);
        place = y ∙ ap (unwrap_or t.first) (sym k.place);
      }

-- the whole loop
abbrev done : ℕ → ℕ → ℕ → ℕ → List ℕ → Salvaged
done k c n f l = record { number = k; count = c; skip = n; place = f; output = l }

pub refused_short : (v : ℕ) (s out : List ℕ) → length out < length s → done 25 0 0 0 out ≡ salvage_by v s out
unfolding salvage_by
refused_short v s out h = rw (lt-ltb (length out) (length s) h) refl

pub saved : (v : ℕ) (s out new : List ℕ) (t : Salvaging) (f : ℕ) → length s ≤ length out → length s ≤ t.at → sets new t.w (kept (size_by v) (drop t.at s) 0) ≡ sets out 0 (kept (size_by v) s 0)
    → t.skip + skipped (size_by v) (drop t.at s) 0 ≡ skipped (size_by v) s 0 → t.records + records (size_by v) (drop t.at s) 0 ≡ records (size_by v) s 0 → placed v t s ≡ first (size_by v) 0 s 0
    → f ≡ unwrap_or t.first t.at → done 0 t.records t.skip f new ≡ salvage_by v s out
unfolding salvage_by kept skipped records first
saved v s out new t f h e p q r w y =
    let d : drop t.at s ≡ [] = drop_of_length-le s e in
    let x : new ≡ sets out 0 (kept (size_by v) s 0) = rw d at p in
    let m : t.skip + 0 ≡ skipped (size_by v) s 0 = rw d at q in
    let n : t.skip ≡ skipped (size_by v) s 0 = omega arith in
    let i : t.records + 0 ≡ records (size_by v) s 0 = rw d at r in
    let j : t.records ≡ records (size_by v) s 0 = omega arith in
    let u : unwrap_or t.first t.at ≡ first (size_by v) 0 s 0 = rw d at w in
    rw (le-ltb (length out) (length s) h)
    (ap (λ (z : ℕ). done 0 z t.skip f new) j ∙ ap (λ (z : ℕ). done 0 (records (size_by v) s 0) z f new) n ∙ ap (λ (z : ℕ). done 0 (records (size_by v) s 0) (skipped (size_by v) s 0) z new) (y ∙ u) ∙ ap (λ (z : List ℕ). done 0 (records (size_by v) s 0) (skipped (size_by v) s 0) (first (size_by v) 0 s 0) z) x)
