-- What the readers find, and find again whatever follows it. Assumes nothing.
use mathlib.Core.Path.{◌≡◌, refl, sym, ap, ◌∙◌}
use Prim.Native.Nat.{ℕ, ◌+◌, ◌%◌, ◌<◌}
use native.Mathlib.Omega.{arith}
use mathlib.Core.Bool.{Bool, true, false, ◌&&◌, cond}
use mathlib.Core.List.{List, [], ◌∷◌, ◌++◌}
use lib.Dec.{leb, eqb}
use lib.ListN.{length, get_or, drop, length-append}
use borrow.Author.Tests.{leb-true, le-leb, lt-leb}
use Rattle.byte_layout.specs.Numbers.{num, bytes}
use Rattle.byte_layout.specs.Rows.{stands, within}
use Rattle.byte_layout.specs.Reads.{taken, step, steps}
use Rattle.byte_layout.specs.Writes.{field, payload}
use Rattle.byte_layout.proofs.Numbers.{Small}
use Rattle.byte_layout.proofs.Codec.{ands}
use Rattle.crc32.specs.Checksums.{checksum_of}
use Rattle.trace_records.specs.Records.{refused, found, read_record}
use Rattle.trace_records.specs.Writes.{head_of, record_of, known}
use Rattle.trace_records.proofs.Marks as marks
use Rattle.trace_records.proofs.Rounds.{read_record_lem, written_record}
use Rattle.trace_records.proofs.Traces.{Opens, record_some, opens}
use Rattle.trace_sealed.specs.Tables.{head_rows}
use Rattle.trace_sealed.specs.Records.{bodied, read_sealed, is_sealed, read_any, read_by}
use Rattle.trace_sealed.specs.Writes.{body_of, unsealed, sealed_of, sealed_kind, Sealable}
use Rattle.trace_sealed.specs.Promises.{Begins, Kept, Old}
use Rattle.trace_sealed.proofs.Rounds.{read_back, written_again, head_length}

third : (k : ℕ) (vs lanes rest : List ℕ) → get_or (sealed_of k vs lanes ++ rest) 2 0 ≡ k % 256
unfolding sealed_of unsealed payload head_rows stands field bytes
third k vs lanes rest = refl

is_sealed_lem : (k : ℕ) (vs lanes rest : List ℕ) → sealed_kind k ≡ true → is_sealed (sealed_of k vs lanes ++ rest) ≡ true
is_sealed_lem k vs lanes rest e =
    let h = ands (leb 4 k) (leb k 5) e in
    let l = leb-true k 5 h.1 in
    let z : k % 256 ≡ k = omega arith in
    ap (λ (i : ℕ). leb 4 i && leb i 5) (third k vs lanes rest ∙ z) ∙ e

pub read_any_lem : (k : ℕ) (vs lanes rest : List ℕ) → Sealable k vs lanes → read_any (sealed_of k vs lanes ++ rest) ≡ found k (vs ++ lanes) rest
unfolding read_any
read_any_lem k vs lanes rest x = ap (λ (b : Bool). cond b (read_sealed (sealed_of k vs lanes ++ rest)) (read_record (sealed_of k vs lanes ++ rest))) (is_sealed_lem k vs lanes rest x.kind) ∙ read_back k vs lanes rest x

sealed_read : (bs : List ℕ) → is_sealed bs ≡ true → read_any bs ≡ read_sealed bs
unfolding read_any
sealed_read bs e = ap (λ (b : Bool). cond b (read_sealed bs) (read_record bs)) e

pub as_reader_1 : (bs : List ℕ) → Old bs → read_any bs ≡ read_record bs
unfolding read_any
as_reader_1 bs e = ap (λ (b : Bool). cond b (read_sealed bs) (read_record bs)) e

pub again : (bs : List ℕ) (k : ℕ) (ws rest : List ℕ) → Begins bs k ws rest → Kept bs k ws rest
again bs k ws rest x = written_again bs k ws rest x.bytes (sym (sealed_read bs x.sealed) ∙ x.reads)

-- ---- the record at the beginning of bytes

sealed_some : (k : ℕ) (vs lanes : List ℕ) → 0 < length (sealed_of k vs lanes)
unfolding sealed_of unsealed
sealed_some k vs lanes =
    let b = body_of k vs lanes in
    let h = payload head_rows [] (head_of k (length b + 4)) in
    omega (arith, length-append (h ++ b) (bytes 4 (checksum_of (drop 2 (h ++ b)))), length-append h b, head_length k (length b + 4))

old_kind : (k : ℕ) (ws rest : List ℕ) → known k ≡ true → Old (record_of k ws ++ rest)
old_kind k ws rest e =
    let h = ands (leb 1 k) (leb k 3) e in
    let l = leb-true k 3 h.1 in
    let z : k % 256 ≡ k = omega arith in
    ap (λ (i : ℕ). leb 4 i && leb i 5) (marks.third k ws rest ∙ z) ∙ rw (lt-leb 4 k (omega arith)) refl

opens_any : (bs : List ℕ) (k : ℕ) (ws rest : List ℕ) → Small bs → read_any bs ≡ found k ws rest → Opens read_any bs k ws rest
opens_any bs k ws rest s e = go (is_sealed bs) refl
  where
    go : (b : Bool) → is_sealed bs ≡ b → Opens read_any bs k ws rest
    go true q =
        let x = written_again bs k ws rest s (sym (sealed_read bs q) ∙ e) in
        record {
          front = sealed_of k x.numbers x.lanes;
          some = sealed_some k x.numbers x.lanes;
          same = x.same;
          reads = λ more. read_any_lem k x.numbers x.lanes more x.sealable ∙ ap (λ (z : List ℕ). found k z more) (sym x.both);
        }
    go false q =
        let x = written_record bs k ws rest s (sym (as_reader_1 bs q) ∙ e) in
        record {
          front = record_of k ws;
          some = omega (arith, record_some k ws);
          same = x.same;
          reads = λ more. as_reader_1 (record_of k ws ++ more) (old_kind k ws more x.kind) ∙ read_record_lem k ws more x.kind x.takes;
        }

-- reader 1, and any other
pub by_1 : (v : ℕ) (bs : List ℕ) → eqb v 1 ≡ true → read_by v bs ≡ read_record bs
unfolding read_by
by_1 v bs e = rw e refl

pub by_2 : (v : ℕ) (bs : List ℕ) → eqb v 1 ≡ false → read_by v bs ≡ read_any bs
unfolding read_by
by_2 v bs e = rw e refl

pub opens_by : (v : ℕ) (bs : List ℕ) (k : ℕ) (ws rest : List ℕ) → Small bs → read_by v bs ≡ found k ws rest → Opens (read_by v) bs k ws rest
opens_by v bs k ws rest s e = go (eqb v 1) refl
  where
    go : (b : Bool) → eqb v 1 ≡ b → Opens (read_by v) bs k ws rest
    go true q =
        let o = opens bs k ws rest s (sym (by_1 v bs q) ∙ e) in
        record { front = o.front; some = o.some; same = o.same; reads = λ more. by_1 v (o.front ++ more) q ∙ o.reads more }
    go false q =
        let o = opens_any bs k ws rest s (sym (by_2 v bs q) ∙ e) in
        record { front = o.front; some = o.some; same = o.same; reads = λ more. by_2 v (o.front ++ more) q ∙ o.reads more }

-- ---- bytes that do not begin with A5

sealed_unmarked : (b : ℕ) (bs : List ℕ) → (b ≡ 165 → ⊥) → read_sealed (b ∷ bs) ≡ refused 15
unfolding read_sealed bodied steps step taken stands within num head_rows
sealed_unmarked b bs h = let x : b + 0 ≡ b = omega arith in rw (x, marks.not_a5 b h, le-leb 1 (length (b ∷ bs)) (omega arith)) refl

any_unmarked : (b : ℕ) (bs : List ℕ) → (b ≡ 165 → ⊥) → read_any (b ∷ bs) ≡ refused 15
any_unmarked b bs h = go (is_sealed (b ∷ bs)) refl
  where
    go : (t : Bool) → is_sealed (b ∷ bs) ≡ t → read_any (b ∷ bs) ≡ refused 15
    go true q = sealed_read (b ∷ bs) q ∙ sealed_unmarked b bs h
    go false q = as_reader_1 (b ∷ bs) q ∙ marks.unmarked b bs h

pub unmarked_by : (v b : ℕ) (bs : List ℕ) → (b ≡ 165 → ⊥) → read_by v (b ∷ bs) ≡ refused 15
unmarked_by v b bs h = go (eqb v 1) refl
  where
    go : (t : Bool) → eqb v 1 ≡ t → read_by v (b ∷ bs) ≡ refused 15
    go true q = by_1 v (b ∷ bs) q ∙ marks.unmarked b bs h
    go false q = by_2 v (b ∷ bs) q ∙ any_unmarked b bs h
