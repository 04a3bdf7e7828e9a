-- What salvage makes of a trace, in the terms of its reader: each law by induction on the bytes, in each iteration a record is kept or a byte is skipped.
use mathlib.Core.Path.{◌≡◌, refl, sym, ap, ◌∙◌}
use Prim.Native.Nat.{ℕ, zero, suc, ◌+◌, ◌-◌, ◌≤◌, ◌<◌}
use native.Mathlib.Omega.{arith}
use mathlib.Core.Bool.{Bool, true, false, cond}
use mathlib.Core.List.{List, [], ◌∷◌, ◌++◌, append_assoc}
use lib.Dec.{eqb}
use lib.ListN.{length, take, drop, length-append}
use lib.Seq.{take_at, drop_at}
use Rattle.byte_layout.proofs.Numbers.{Small, small_drop}
use Rattle.byte_layout.proofs.Codec.{never}
use Rattle.trace_records.specs.Records.{Found, refused, found}
use Rattle.trace_records.specs.Traces.{Entry, Story, and_then, read_all_by, entries, is_whole}
use Rattle.trace_records.proofs.Rounds.{small_after}
use Rattle.trace_records.proofs.Traces.{Opens, one_first, by_refused}
use Rattle.trace_sealed.specs.Records.{read_by}
use Rattle.trace_sealed.proofs.Readers.{opens_by}
use Rattle.trace_salvage.specs.Salvage.{kept, skipped, records, first, size_in, size_by}
use Rattle.trace_salvage.specs.Promises.{story, Same, Mended, Before}
use Rattle.trace_salvage.proofs.Keeps.{turn_keep, Skip, turn_skip}

none : {A : Type 0} → ⊥ → A
none e = elim e [ ]

abbrev entry : ℕ → List ℕ → Entry
entry k ws = record { kind = k; numbers = ws }

-- what bytes begin with: nothing that is read, or a record that is read whatever follows it
data Opening (v : ℕ) (bs : List ℕ) : Type 0 where
  hole : (n : ℕ) → read_by v bs ≡ refused n → size_by v bs ≤ 0 → Opening v bs
  whole : (k : ℕ) (ws rest : List ℕ) → Opens (read_by v) bs k ws rest → Opening v bs

opening : (v : ℕ) (bs : List ℕ) → Small bs → Opening v bs
unfolding size_by size_in
opening v bs s = go (read_by v bs) refl
  where
    go : (d : Found) → read_by v bs ≡ d → Opening v bs
    go (refused n) e = hole n e (rw e (omega arith))
    go (found k ws rest) e = whole k ws rest (opens_by v bs k ws rest s e)

-- a record that the reader finds, whatever follows it
record One (v k : ℕ) (ws r : List ℕ) : Type 0 where
  some : 0 < length r
  reads : (more : List ℕ) → read_by v (r ++ more) ≡ found k ws more

size_record : (v k : ℕ) (ws r rest : List ℕ) → One v k ws r → size_by v (r ++ rest) ≡ length r
unfolding size_by size_in
size_record v k ws r rest o = rw (o.reads rest) (omega (arith, length-append r rest))

-- it is kept
record Took (v at : ℕ) (r rest : List ℕ) : Type 0 where
  bytes : kept (size_by v) (r ++ rest) 0 ≡ r ++ kept (size_by v) rest 0
  skips : skipped (size_by v) (r ++ rest) 0 ≡ skipped (size_by v) rest 0
  count : records (size_by v) (r ++ rest) 0 ≡ suc (records (size_by v) rest 0)
  place : first (size_by v) at (r ++ rest) 0 ≡ first (size_by v) (at + length r) rest 0

took : (v at k : ℕ) (ws r rest : List ℕ) → One v k ws r → Took v at r rest
took v at k ws r rest o =
    let size = size_by v in
    let bs = r ++ rest in
    let n : size bs ≡ length r = size_record v k ws r rest o in
    let t = turn_keep size at bs (omega (arith, n, o.some)) (omega (arith, n, length-append r rest)) in
    let x : take (size bs) bs ≡ r = ap (λ (z : ℕ). take z bs) n ∙ take_at r rest (length r) refl in
    let d : drop (size bs) bs ≡ rest = ap (λ (z : ℕ). drop z bs) n ∙ drop_at r rest (length r) refl in
    record {
      bytes = t.bytes ∙ ap (λ (z : List ℕ). z ++ kept size (drop (size bs) bs) 0) x ∙ ap (λ (z : List ℕ). r ++ kept size z 0) d;
      skips = t.skips ∙ ap (λ (z : List ℕ). skipped size z 0) d;
      count = t.count ∙ ap (λ (z : List ℕ). suc (records size z 0)) d;
      place = t.place ∙ ap (λ (z : ℕ). first size (at + z) (drop (size bs) bs) 0) n ∙ ap (λ (z : List ℕ). first size (at + length r) z 0) d;
    }

read_one : (v k : ℕ) (ws r rest : List ℕ) → One v k ws r → story v (r ++ rest) ≡ and_then (entry k ws) (story v rest)
read_one v k ws r rest o = one_first (read_by v) k ws r rest (o.reads rest) o.some

-- ---- by induction on the bytes

-- what holds of no bytes, of a hole's bytes if of those after the first, and of a record and the rest if of the rest, holds of all
record Turns (v : ℕ) (P : List ℕ → Type 0) : Type 0 where
  empty : P []
  skip : (b : ℕ) (bs : List ℕ) (n : ℕ) → read_by v (b ∷ bs) ≡ refused n → Skip (size_by v) 0 (b ∷ bs) → P bs → P (b ∷ bs)
  keep : (k : ℕ) (ws r rest : List ℕ) → One v k ws r → Took v 0 r rest → P rest → P (r ++ rest)

module _ (v : ℕ) (P : List ℕ → Type 0) (t : Turns v P) where
  one_turn : (n : ℕ) (bs : List ℕ) → length bs ≤ suc n → Small bs → ((l : List ℕ) → length l ≤ n → Small l → P l) → P bs
  one_turn n [] h s ih = t.empty
  one_turn n (b ∷ bs) h s ih = go (opening v (b ∷ bs) s)
    where
      go : Opening v (b ∷ bs) → P (b ∷ bs)
      go (hole k e z) = t.skip b bs k e (turn_skip (size_by v) 0 (b ∷ bs) (omega arith) z) (ih bs (omega arith) (small_drop 1 (b ∷ bs) s))
      go (whole k ws rest x) =
          let r = x.front in
          let o : One v k ws r = record { some = x.some; reads = x.reads } in
          let l : suc (length bs) ≡ length r + length rest = ap length x.same ∙ length-append r rest in
          rw x.same (t.keep k ws r rest o (took v 0 k ws r rest o) (ih rest (omega (arith, l, x.some)) (small_after r rest (rw x.same at s))))

  no_bytes : (bs : List ℕ) → length bs ≤ 0 → P bs
  no_bytes [] h = t.empty
  no_bytes (b ∷ bs) h = none (omega arith)

  turns : (n : ℕ) (bs : List ℕ) → length bs ≤ n → Small bs → P bs
  turns zero bs h s = no_bytes bs h
  turns (suc n) bs h s = one_turn n bs h s (λ l g e. turns n l g e)

  all_turns : (bs : List ℕ) → Small bs → P bs
  all_turns bs s = turns (length bs) bs (omega arith) s

-- ---- running it on its own output changes nothing

abbrev Again : ℕ → List ℕ → Type 0
Again v bs = (kept (size_by v) (kept (size_by v) bs 0) 0 ≡ kept (size_by v) bs 0) × (skipped (size_by v) (kept (size_by v) bs 0) 0 ≡ 0)

again_turns : (v : ℕ) → Turns v (Again v)
unfolding kept skipped
again_turns v =
    record {
      empty = (refl, refl);
      skip = λ b bs n e k i. rw k.bytes i;
      keep = λ k ws r rest o t i.
          let w = took v 0 k ws r (kept (size_by v) rest 0) o in
          rw t.bytes (w.bytes ∙ ap (λ (z : List ℕ). r ++ z) i.0, w.skips ∙ i.1);
    }

pub again : (v : ℕ) (bs : List ℕ) → Small bs → Again v bs
again v = all_turns v (Again v) (again_turns v)

-- ---- the output is a trace that is read to its end

mended_turns : (v : ℕ) → Turns v (Mended v)
unfolding kept records read_all_by entries is_whole
mended_turns v =
    record {
      empty = record { to_the_end = refl; count = refl };
      skip = λ b bs n e k i. record { to_the_end = ap (λ (l : List ℕ). is_whole (story v l)) k.bytes ∙ i.to_the_end; count = ap (λ (l : List ℕ). length (entries (story v l))) k.bytes ∙ i.count ∙ sym k.count };
      keep = λ k ws r rest o t i.
          let q : story v (kept (size_by v) (r ++ rest) 0) ≡ and_then (entry k ws) (story v (kept (size_by v) rest 0)) = ap (story v) t.bytes ∙ read_one v k ws r (kept (size_by v) rest 0) o in
          record { to_the_end = ap is_whole q ∙ i.to_the_end; count = ap (λ (z : Story). length (entries z)) q ∙ ap suc i.count ∙ sym t.count };
    }

pub mended : (v : ℕ) (bs : List ℕ) → Small bs → Mended v bs
mended v = all_turns v (Mended v) (mended_turns v)

-- ---- the first byte skipped

shifted : (size : List ℕ → ℕ) (at : ℕ) (bs : List ℕ) (k : ℕ) → first size at bs k ≡ at + first size 0 bs k
unfolding first
shifted size at [] k = omega arith
shifted size at (b ∷ bs) (suc k) = omega (arith, shifted size (suc at) bs k, shifted size 1 bs k)
shifted size at (b ∷ bs) zero = go (eqb (size (b ∷ bs)) 0) (shifted size (suc at) bs (size (b ∷ bs) - 1)) (shifted size 1 bs (size (b ∷ bs) - 1))
  where
    go : (t : Bool) → first size (suc at) bs (size (b ∷ bs) - 1) ≡ suc at + first size 0 bs (size (b ∷ bs) - 1) → first size 1 bs (size (b ∷ bs) - 1) ≡ 1 + first size 0 bs (size (b ∷ bs) - 1)
        → cond t at (first size (suc at) bs (size (b ∷ bs) - 1)) ≡ at + cond t 0 (first size 1 bs (size (b ∷ bs) - 1))
    go true e f = omega arith
    go false e f = omega arith

moved : (v : ℕ) (r rest : List ℕ) → first (size_by v) 0 (r ++ rest) 0 ≡ first (size_by v) (0 + length r) rest 0 → first (size_by v) 0 (r ++ rest) 0 ≡ length r + first (size_by v) 0 rest 0
moved v r rest e = omega (arith, e, shifted (size_by v) (0 + length r) rest 0)

take_over : (r rest : List ℕ) (p : ℕ) → take (length r + p) (r ++ rest) ≡ r ++ take p rest
take_over [] rest p = let e : 0 + p ≡ p = omega arith in ap (λ (z : ℕ). take z rest) e
take_over (b ∷ r) rest p = let e : suc (length r) + p ≡ suc (length r + p) = omega arith in rw e (ap (λ (l : List ℕ). b ∷ l) (take_over r rest p))

drop_over : (r rest : List ℕ) (p : ℕ) → drop (length r + p) (r ++ rest) ≡ drop p rest
drop_over [] rest p = let e : 0 + p ≡ p = omega arith in ap (λ (z : ℕ). drop z rest) e
drop_over (b ∷ r) rest p = let e : suc (length r) + p ≡ suc (length r + p) = omega arith in rw e (drop_over r rest p)

-- an undamaged trace comes out equal
abbrev Undamaged : ℕ → List ℕ → Type 0
Undamaged v bs = is_whole (story v bs) ≡ true → Same v bs

same_turns : (v : ℕ) → Turns v (Undamaged v)
unfolding kept skipped first read_all_by is_whole
same_turns v =
    record {
      empty = λ w. record { bytes = refl; none = refl; place = refl };
      skip = λ b bs n e k i w. never (sym (ap is_whole (by_refused (read_by v) b bs n e)) ∙ w);
      keep = λ k ws r rest o t i w.
          let j = i (sym (ap is_whole (read_one v k ws r rest o)) ∙ w) in
          record { bytes = t.bytes ∙ ap (λ (z : List ℕ). r ++ z) j.bytes; none = t.skips ∙ j.none; place = omega (arith, moved v r rest t.place, j.place, length-append r rest) };
    }

pub whole_kept : (v : ℕ) (bs : List ℕ) → Small bs → Undamaged v bs
whole_kept v = all_turns v (Undamaged v) (same_turns v)

-- every record before the first hole is kept
abbrev BeforeIt : ℕ → List ℕ → Type 0
BeforeIt v bs = Before v bs (first (size_by v) 0 bs 0)

before_turns : (v : ℕ) → Turns v (BeforeIt v)
unfolding kept first read_all_by entries is_whole
before_turns v =
    record {
      empty = record { to_the_hole = refl; all = refl; kept_first = refl };
      skip = λ b bs n e k i. rw k.place (record { to_the_hole = refl; all = ap entries (by_refused (read_by v) b bs n e); kept_first = refl });
      keep = λ k ws r rest o t i.
          let size = size_by v in
          let p = first size 0 rest 0 in
          let q : story v (r ++ take p rest) ≡ and_then (entry k ws) (story v (take p rest)) = read_one v k ws r (take p rest) o in
          let z : first size 0 (r ++ rest) 0 ≡ length r + p = moved v r rest t.place in
          let x : take (first size 0 (r ++ rest) 0) (r ++ rest) ≡ r ++ take p rest = ap (λ (u : ℕ). take u (r ++ rest)) z ∙ take_over r rest p in
          let d : drop (first size 0 (r ++ rest) 0) (r ++ rest) ≡ drop p rest = ap (λ (u : ℕ). drop u (r ++ rest)) z ∙ drop_over r rest p in
          record {
            to_the_hole = ap (λ (u : List ℕ). is_whole (story v u)) x ∙ ap is_whole q ∙ i.to_the_hole;
            all = ap entries (read_one v k ws r rest o) ∙ ap (λ (u : List Entry). entry k ws ∷ u) i.all ∙ sym (ap (λ (u : List ℕ). entries (story v u)) x ∙ ap entries q);
            kept_first = t.bytes ∙ ap (λ (u : List ℕ). r ++ u) i.kept_first ∙ sym (append_assoc r (take p rest) (kept size (drop p rest) 0)) ∙ ap (λ (u : List ℕ). u ++ kept size (drop p rest) 0) (sym x) ∙ ap (λ (u : List ℕ). take (first size 0 (r ++ rest) 0) (r ++ rest) ++ kept size u 0) (sym d);
          };
    }

pub before_hole : (v : ℕ) (bs : List ℕ) → Small bs → BeforeIt v bs
before_hole v = all_turns v (BeforeIt v) (before_turns v)
