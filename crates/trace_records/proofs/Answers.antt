-- Round trips over what `read` and `write` promise: a record that was read is written again as its own bytes, and one that was written is read back. Assumes nothing.
use mathlib.Core.Path.{◌≡◌, refl, sym, ap, ◌∙◌}
use Prim.Native.Nat.{ℕ, suc, ◌+◌, ◌-◌, ◌≤◌}
use native.Mathlib.Omega.{arith}
use mathlib.Core.Bool.{true, cond}
use mathlib.Core.List.{List, [], ◌∷◌, ◌++◌, append_assoc}
use lib.Dec.{leb}
use lib.ListN.{length, take, drop, replicate, length-append, length-drop}
use lib.Seq.{take_at, drop_at, length-take-le}
use Rattle.byte_layout.specs.declared.Row.{Row}
use Rattle.byte_layout.specs.Rows.{stands}
use Rattle.byte_layout.specs.Writes.{fits, fine}
use Rattle.byte_layout.proofs.Numbers.{Small, small_drop}
use Rattle.byte_layout.proofs.Codec.{never, both, ands}
use Rattle.trace_records.specs.Tables.{body, fields}
use Rattle.trace_records.specs.Records.{Found, refused, found, read_record, valued, record_at}
use Rattle.trace_records.specs.Writes.{record_of, known, Written, write_record}
use Rattle.trace_records.specs.Promises.{copied}
use Rattle.trace_records.proofs.Rounds.{body_long, read_record_lem, written_record}
use Rattle.trace_records.proofs.Traces.{record_some, written_one, put_length}
use Rattle.trace_records.proofs.Windows.{refusal_numbered}

none : {A : Type 0} → ⊥ → A
none e = elim e [ ]

-- ---- a kind has as many numbers as fields

fine_long : (rs : List Row) (vs ws : List ℕ) → fine rs vs ws ≡ true → length ws ≡ length rs
unfolding fine
fine_long [] vs [] e = refl
fine_long [] vs (x ∷ ws) e = never e
fine_long (r ∷ rs) vs [] e = never e
fine_long (r ∷ rs) vs (x ∷ ws) e = ap suc (fine_long rs (vs ++ (x ∷ [])) ws (both (fits (stands r vs) r x) (fine rs (vs ++ (x ∷ [])) ws) e).1)

numbers_long : (k : ℕ) (ws : List ℕ) → fine (body k) [] ws ≡ true → length ws ≡ fields k
numbers_long k ws e = fine_long (body k) [] ws e ∙ body_long k

-- ---- read, then written

-- n bytes x put into a buffer, or 19
abbrev putting : List ℕ → ℕ → ℕ → List ℕ → Written
putting buf at n x =
    cond (leb n (length buf - at)) (record { number = 0; next = at + n; buffer = take at buf ++ x ++ drop (at + n) buf }) (record { number = 19; next = at; buffer = buf })

accepted_write : (buf : List ℕ) (at k : ℕ) (ws : List ℕ) → known k ≡ true → fine (body k) [] ws ≡ true → write_record buf at k ws ≡ putting buf at (length (record_of k ws)) (record_of k ws)
unfolding write_record
accepted_write buf at k ws y f = rw (y, f) refl

pub answer_written : (bs : List ℕ) (at : ℕ) (buf : List ℕ) (to : ℕ) → Small bs → (record_at bs at).refusal ≡ 0
    → let r = record_at bs at in write_record buf to r.kind (take (fields r.kind) r.values) ≡ copied buf to (r.next - at) (drop at bs)
unfolding record_at valued
answer_written bs at buf to s z = go (read_record (drop at bs)) refl z
  where
    go : (d : Found) → read_record (drop at bs) ≡ d → (valued (length bs) at d).refusal ≡ 0
        → let r = valued (length bs) at d in write_record buf to r.kind (take (fields r.kind) r.values) ≡ copied buf to (r.next - at) (drop at bs)
    go (refused n) e q = none (omega (arith, q, refusal_numbered (drop at bs) n e))
    go (found k ws rest) e q =
        let w = written_record (drop at bs) k ws rest (small_drop at bs s) e in
        let r = record_of k ws in
        let l : length (drop at bs) ≡ length r + length rest = ap length w.same ∙ length-append r rest in
        let n : length bs - length rest - at ≡ length r = omega (arith, l, length-drop at bs, record_some k ws) in
        let v : take (fields k) (ws ++ replicate (80 - length ws) 0) ≡ ws = take_at ws (replicate (80 - length ws) 0) (fields k) (numbers_long k ws w.takes) in
        let b : take (length r) (drop at bs) ≡ r = ap (take (length r)) w.same ∙ take_at r rest (length r) refl in
        ap (write_record buf to k) v
        ∙ accepted_write buf to k ws w.kind w.takes
        ∙ ap (putting buf to (length r)) (sym b)
        ∙ ap (λ (m : ℕ). copied buf to m (drop at bs)) (sym n)

-- ---- written, then read

pub written_answer : (buf : List ℕ) (at k : ℕ) (vs : List ℕ)
    → let w = write_record buf at k (take (fields k) vs) in
    w.number ≡ 0 → record_at w.buffer at ≡ record { refusal = 0; kind = k; next = w.next; values = take (fields k) vs ++ replicate (80 - fields k) 0 }
unfolding record_at valued
written_answer buf at k vs z =
    let ws = take (fields k) vs in
    let w = write_record buf at k ws in
    let o = written_one buf at (record { kind = k; numbers = ws }) z in
    let f = ands (known k) (fine (body k) [] ws) o.takes in
    let r = record_of k ws in
    let a = take at buf in
    let d = drop (at + length r) buf in
    let h : at ≤ length buf = omega (arith, o.room, record_some k ws) in
    let t : drop at w.buffer ≡ r ++ d = ap (drop at) (o.buffer ∙ append_assoc a r d) ∙ drop_at a (r ++ d) at (length-take-le at buf h) in
    let e : read_record (drop at w.buffer) ≡ found k ws d = ap read_record t ∙ read_record_lem k ws d f.0 f.1 in
    let l : length w.buffer ≡ length buf = ap length o.buffer ∙ put_length buf at r o.room in
    let n : length w.buffer - length d ≡ w.next = omega (arith, l, length-drop (at + length r) buf, o.next, o.room) in
    ap (valued (length w.buffer) at) e
    ∙ ap (λ (m : ℕ). record { refusal = 0; kind = k; next = m; values = ws ++ replicate (80 - length ws) 0 }) n
    ∙ ap (λ (m : ℕ). record { refusal = 0; kind = k; next = w.next; values = ws ++ replicate (80 - m) 0 }) (numbers_long k ws f.1)
