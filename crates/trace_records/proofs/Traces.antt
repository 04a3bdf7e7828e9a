-- Whole traces: what is written record by record is read back as those records, and what is read to its end would be written again.
use mathlib.Core.Path.{◌≡◌, refl, sym, ap, ◌∙◌}
use Prim.Native.Nat.{ℕ, zero, suc, ◌+◌, ◌-◌, ◌≤◌, ◌<◌}
use native.Mathlib.Omega.{arith}
use mathlib.Core.Bool.{Bool, true, false, cond}
use mathlib.Core.List.{List, [], ◌∷◌, ◌++◌, append_assoc, append-nil}
use lib.Dec.{leb, eqb}
use lib.ListN.{length, take, drop, length-append, take-append-drop, length-drop}
use lib.Seq.{take_at, drop_at, drop-drop, length-take-le}
use borrow.Author.Tests.{leb-true, eqb-true}
use Rattle.byte_layout.specs.Writes.{payload, fine}
use Rattle.byte_layout.proofs.Numbers.{Small}
use Rattle.byte_layout.proofs.Codec.{never, ands}
use Rattle.trace_records.specs.Tables.{head_rows, body}
use Rattle.trace_records.specs.Records.{Found, refused, found, read_record}
use Rattle.trace_records.specs.Writes.{head_of, record_of, known, Written, write_record}
use Rattle.trace_records.specs.Traces.{Entry, trace_of, takes, takes_all, write_all, Story, broken, and_then, onward, read_all_by, read_all, entries, is_whole}
use Rattle.trace_records.specs.Promises.{Reads, Appended}
use Rattle.trace_records.proofs.Rounds.{head_length, read_record_lem, written_record, small_after}

none : {A : Type 0} → ⊥ → A
none e = elim e [ ]

abbrev entry : ℕ → List ℕ → Entry
entry k ws = record { kind = k; numbers = ws }

pub record_some : (k : ℕ) (ws : List ℕ) → 5 ≤ length (record_of k ws)
unfolding record_of
record_some k ws = let p = payload (body k) [] ws in omega (arith, length-append (payload head_rows [] (head_of k (length p))) p, head_length k (length p))

-- ---- by any reader

-- the record that a reader finds at the beginning of bytes, and finds there whatever follows it
pub record Opens (read : List ℕ → Found) (bs : List ℕ) (k : ℕ) (ws rest : List ℕ) : Type 0 where
  pub front : List ℕ
  pub some : 0 < length front
  pub same : bs ≡ front ++ rest
  pub reads : (more : List ℕ) → read (front ++ more) ≡ found k ws more

module _ (read : List ℕ → Found) where
  -- a record begun is passed
  passed : (r t : List ℕ) → read_all_by read (length r) (r ++ t) ≡ read_all_by read 0 t
  unfolding read_all_by
  passed [] t = refl
  passed (b ∷ r) t = passed r t

  -- one record, then the rest
  pub one_first : (k : ℕ) (ws r rest : List ℕ) → read (r ++ rest) ≡ found k ws rest → 0 < length r → read_all_by read 0 (r ++ rest) ≡ and_then (entry k ws) (read_all_by read 0 rest)
  unfolding read_all_by onward
  one_first k ws [] rest f h = none (omega arith)
  one_first k ws (b ∷ r) rest f h =
      let n : length (r ++ rest) - length rest ≡ length r = omega (arith, length-append r rest) in
      rw (f, n) (ap (and_then (entry k ws)) (passed r rest))

  pub by_refused : (b : ℕ) (bs : List ℕ) (n : ℕ) → read (b ∷ bs) ≡ refused n → read_all_by read 0 (b ∷ bs) ≡ broken n
  unfolding read_all_by onward
  by_refused b bs n e = rw e refl

-- ---- by reader 1

pub read_one : (k : ℕ) (ws rest : List ℕ) → known k ≡ true → fine (body k) [] ws ≡ true → read_all 0 (record_of k ws ++ rest) ≡ and_then (entry k ws) (read_all 0 rest)
read_one k ws rest y e = one_first read_record k ws (record_of k ws) rest (read_record_lem k ws rest y e) (omega (arith, record_some k ws))

-- the record at the beginning of bytes
pub read_found : (bs : List ℕ) (k : ℕ) (ws rest : List ℕ) → Small bs → read_record bs ≡ found k ws rest → read_all 0 bs ≡ and_then (entry k ws) (read_all 0 rest)
read_found bs k ws rest s e = let w = written_record bs k ws rest s e in ap (read_all 0) w.same ∙ read_one k ws rest w.kind w.takes

pub read_refused : (b : ℕ) (bs : List ℕ) (n : ℕ) → read_record (b ∷ bs) ≡ refused n → read_all 0 (b ∷ bs) ≡ broken n
read_refused = by_refused read_record

pub opens : (bs : List ℕ) (k : ℕ) (ws rest : List ℕ) → Small bs → read_record bs ≡ found k ws rest → Opens read_record bs k ws rest
opens bs k ws rest s e =
    let w = written_record bs k ws rest s e in
    record { front = record_of k ws; some = omega (arith, record_some k ws); same = w.same; reads = λ more. read_record_lem k ws more w.kind w.takes }

-- records written one after the other read back as that list
pub read_trace : (es : List Entry) → takes_all es ≡ true → Reads (trace_of es) es
unfolding trace_of takes_all read_all_by entries is_whole
read_trace [] h = record { to_the_end = refl; same = refl }
read_trace (e ∷ es) h =
    let g = ands (takes e) (takes_all es) h in
    let f = ands (known e.kind) (fine (body e.kind) [] e.numbers) g.0 in
    let q = read_one e.kind e.numbers (trace_of es) f.0 f.1 in
    let i = read_trace es g.1 in
    record { to_the_end = rw q i.to_the_end; same = rw q (ap (λ (l : List Entry). e ∷ l) i.same) }

-- a trace that is read to its end is the bytes of what was read
abbrev Again : List ℕ → Type 0
Again l = Small l → is_whole (read_all 0 l) ≡ true → l ≡ trace_of (entries (read_all 0 l))

nothing_again : (bs : List ℕ) → length bs ≤ 0 → Again bs
unfolding trace_of entries read_all_by
nothing_again [] h s w = refl
nothing_again (b ∷ bs) h s w = none (omega arith)

one_again : (n : ℕ) (bs : List ℕ) → length bs ≤ suc n → ((l : List ℕ) → length l ≤ n → Again l) → Again bs
unfolding trace_of entries is_whole read_all_by
one_again n [] h ih s w = refl
one_again n (b ∷ bs) h ih s w = go (read_record (b ∷ bs)) refl
  where
    go : (d : Found) → read_record (b ∷ bs) ≡ d → b ∷ bs ≡ trace_of (entries (read_all 0 (b ∷ bs)))
    go (refused k) e = never (sym (ap is_whole (read_refused b bs k e)) ∙ w)
    go (found k ws rest) e =
        let x = written_record (b ∷ bs) k ws rest s e in
        let q = read_found (b ∷ bs) k ws rest s e in
        let l : length (b ∷ bs) ≡ length (record_of k ws) + length rest = ap length x.same ∙ length-append (record_of k ws) rest in
        let i = ih rest (omega (arith, l, record_some k ws)) (small_after (record_of k ws) rest (rw x.same at s)) (sym (ap is_whole q) ∙ w) in
        x.same ∙ ap (λ (z : List ℕ). record_of k ws ++ z) i ∙ sym (ap (λ (z : Story). trace_of (entries z)) q)

again : (n : ℕ) (bs : List ℕ) → length bs ≤ n → Again bs
again zero bs h = nothing_again bs h
again (suc n) bs h = one_again n bs h (λ l g. again n l g)

pub written_trace : (bs : List ℕ) → Small bs → is_whole (read_all 0 bs) ≡ true → bs ≡ trace_of (entries (read_all 0 bs))
written_trace bs = again (length bs) bs (omega arith)

-- ---- records written into a buffer

-- bytes put into a buffer
abbrev pub put : List ℕ → ℕ → List ℕ → List ℕ
put buf at p = (take at buf ++ p) ++ drop (at + length p) buf

pub record One (buf : List ℕ) (at : ℕ) (e : Entry) (w : Written) : Type 0 where
  pub takes : takes e ≡ true
  pub room : at + length (record_of e.kind e.numbers) ≤ length buf
  pub next : w.next ≡ at + length (record_of e.kind e.numbers)
  pub buffer : w.buffer ≡ put buf at (record_of e.kind e.numbers)

pub written_one : (buf : List ℕ) (at : ℕ) (e : Entry) → (write_record buf at e.kind e.numbers).number ≡ 0 → One buf at e (write_record buf at e.kind e.numbers)
unfolding write_record
written_one buf at e z = go (known e.kind) (fine (body e.kind) [] e.numbers) (leb (length r) (length buf - at)) refl refl refl z
  where
    r : List ℕ
    r = record_of e.kind e.numbers

    no : (a b c : Bool) → Written
    no a b c =
        cond a
        (cond b
        (cond c
        (record { number = 0; next = at + length r; buffer = (take at buf ++ r) ++ drop (at + length r) buf })
        (record { number = 19; next = at; buffer = buf }))
        (record { number = 17; next = at; buffer = buf }))
        (record { number = 16; next = at; buffer = buf })

    go : (a b c : Bool) → known e.kind ≡ a → fine (body e.kind) [] e.numbers ≡ b → leb (length r) (length buf - at) ≡ c → (no a b c).number ≡ 0 → One buf at e (no a b c)
    go true true true p q s f =
        record { takes = rw (p, q) refl; room = omega (arith, leb-true (length r) (length buf - at) s, record_some e.kind e.numbers); next = refl; buffer = refl }
    go true true false p q s f = none (omega arith)
    go true false c p q s f = none (omega arith)
    go false b c p q s f = none (omega arith)

-- one part put behind another
put_put : (buf : List ℕ) (at : ℕ) (p q : List ℕ) → at + length p ≤ length buf → put (put buf at p) (at + length p) q ≡ put buf at (p ++ q)
put_put buf at p q h =
    let a = take at buf in
    let n = at + length p in
    let d = drop n buf in
    let l : length (a ++ p) ≡ n = length-append a p ∙ ap (λ (z : ℕ). z + length p) (length-take-le at buf (omega arith)) in
    let f : take n ((a ++ p) ++ d) ≡ a ++ p = take_at (a ++ p) d n l in
    let g : drop (n + length q) ((a ++ p) ++ d) ≡ drop (n + length q) buf =
    sym (drop-drop (length q) n ((a ++ p) ++ d)) ∙ ap (drop (length q)) (drop_at (a ++ p) d n l) ∙ drop-drop (length q) n buf in
    let m : n + length q ≡ at + length (p ++ q) = omega (arith, length-append p q) in
    ap (λ (z : List ℕ). (z ++ q) ++ drop (n + length q) ((a ++ p) ++ d)) f
    ∙ ap (λ (z : List ℕ). ((a ++ p) ++ q) ++ z) g
    ∙ ap (λ (z : List ℕ). z ++ drop (n + length q) buf) (append_assoc a p q)
    ∙ ap (λ (z : ℕ). (a ++ (p ++ q)) ++ drop z buf) m

pub put_length : (buf : List ℕ) (at : ℕ) (p : List ℕ) → at + length p ≤ length buf → length (put buf at p) ≡ length buf
put_length buf at p h =
    let a = take at buf in
    let d = drop (at + length p) buf in
    length-append (a ++ p) d ∙ omega (arith, length-append a p, length-take-le at buf (omega arith), length-drop (at + length p) buf)

record All (buf : List ℕ) (at : ℕ) (es : List Entry) (w : Written) : Type 0 where
  takes : takes_all es ≡ true
  room : length (trace_of es) ≤ length buf - at
  next : w.next ≡ at + length (trace_of es)
  buffer : w.buffer ≡ put buf at (trace_of es)

written_all : (buf : List ℕ) (at : ℕ) (es : List Entry) → (write_all buf at es).number ≡ 0 → All buf at es (write_all buf at es)
unfolding write_all trace_of takes_all
written_all buf at [] z =
    let n : at + 0 ≡ at = omega arith in
    record { takes = refl; room = omega arith; next = sym n; buffer = sym (take-append-drop at buf) ∙ ap (λ (k : ℕ). take at buf ++ drop k buf) (sym n) ∙ ap (λ (l : List ℕ). l ++ drop (at + 0) buf) (sym (append-nil (take at buf))) }
written_all buf at (e ∷ es) z = go (eqb w.number 0) refl z (λ b a y. written_all b a es y)
  where
    w : Written
    w = write_record buf at e.kind e.numbers

    r : List ℕ
    r = record_of e.kind e.numbers

    go : (t : Bool) → eqb w.number 0 ≡ t → (cond t (write_all w.buffer w.next es) w).number ≡ 0
        → ((b : List ℕ) (a : ℕ) → (write_all b a es).number ≡ 0 → All b a es (write_all b a es)) → All buf at (e ∷ es) (cond t (write_all w.buffer w.next es) w)
    go true q f ih =
        let o = written_one buf at e (eqb-true w.number 0 q) in
        let i = ih w.buffer w.next f in
        let t = trace_of es in
        let l : length w.buffer ≡ length buf = ap length o.buffer ∙ put_length buf at r o.room in
        record {
          takes = rw o.takes i.takes;
          room = omega (arith, i.room, l, o.next, o.room, length-append r t);
          next = i.next ∙ omega (arith, o.next, length-append r t);
          buffer = i.buffer ∙ ap (λ (l : List ℕ). put l w.next t) o.buffer ∙ ap (λ (k : ℕ). put (put buf at r) k t) o.next ∙ put_put buf at r t o.room;
        }
    go false q f ih = never (sym q ∙ ap (λ (k : ℕ). eqb k 0) f)

-- a trace may be appended to: what was there stays, and what is written reads back
some_appended : (buf : List ℕ) (at : ℕ) (es : List Entry) (w : Written) → at ≤ length buf → All buf at es w → Appended buf at es w.next w.buffer
some_appended buf at es w h i =
    let a = take at buf in
    let x = trace_of es in
    let n = at + length x in
    let d = drop n buf in
    let l : length a ≡ at = length-take-le at buf h in
    let m : length (a ++ x) ≡ n = length-append a x ∙ ap (λ (z : ℕ). z + length x) l in
    let s : (a ++ x) ++ d ≡ a ++ (x ++ d) = append_assoc a x d in
    let y : n - at ≡ length x = omega arith in
    let t : take (n - at) (drop at ((a ++ x) ++ d)) ≡ x = ap (λ (z : List ℕ). take (n - at) (drop at z)) s ∙ ap (take (n - at)) (drop_at a (x ++ d) at l) ∙ ap (λ (z : ℕ). take z (x ++ d)) y ∙ take_at x d (length x) refl in
    rw (i.next, i.buffer)
    (record { before = ap (take at) s ∙ take_at a (x ++ d) at l; behind = drop_at (a ++ x) d n m; trace = rw t (read_trace es i.takes) })

pub appended : (buf : List ℕ) (at : ℕ) (es : List Entry) → (write_all buf at es).number ≡ 0 → Appended buf at es (write_all buf at es).next (write_all buf at es).buffer
unfolding write_all trace_of takes_all
appended buf at [] z = let y : at - at ≡ 0 = omega arith in record { before = refl; behind = refl; trace = rw y (read_trace [] refl) }
appended buf at (e ∷ es) z =
    let i = written_all buf at (e ∷ es) z in
    some_appended buf at (e ∷ es) (write_all buf at (e ∷ es)) (omega (arith, i.room, length-append (record_of e.kind e.numbers) (trace_of es), record_some e.kind e.numbers)) i
