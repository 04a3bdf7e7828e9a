-- One record of the bytes: the end, a refused record, a record played.
use mathlib.Core.Path.{◌≡◌, refl, sym, ap, ◌∙◌, subst}
use Prim.Native.Nat.{ℕ, ◌-◌, ◌≤◌}
use native.Mathlib.Nat.{le_refl}
use native.Mathlib.Omega.{arith}
use mathlib.Core.Bool.{Bool, true, false}
use mathlib.Core.List.{List, [], ◌∷◌}
use lib.ListN.{length, drop, length-drop, drop_of_length-le}
use borrow.Author.Tests.{eq-eqb, ne_eqb}
use Rattle.trace_records.specs.Records.{Record, Found, refused, found, read_record, valued, record_at}
use Rattle.trace_records.proofs.Windows.{unread, unread_few}
use Rattle.trace_lines.specs.Lines.{refused_line}
use Rattle.trace_replay.specs.Runs.{Replay, after, Step, judged, step_of}

none : {A : Type 0} → ⊥ → A
none e = elim e [ ]

abbrev pub step : Replay → List ℕ → ℕ → Bool → Step
step c l n b = record { replay = c; line = l; size = n; over = b }

-- a record, with the next offset counted from its own
abbrev near : Record → ℕ → Record
near r at = record { refusal = r.refusal; kind = r.kind; next = r.next - at; values = r.values }

near_valued : (len at n : ℕ) (d : Found) → n ≡ len - at → valued n 0 d ≡ near (valued len at d) at
unfolding valued
near_valued len at n (refused k) e = let q : 0 ≡ at - at = omega arith in rw (← q) refl
near_valued len at n (found k ws rest) e = let q : n - length rest ≡ len - length rest - at = omega arith in rw q refl

read_here : (s : List ℕ) (at b : ℕ) (bs : List ℕ) (r : Record) → drop at s ≡ b ∷ bs → r ≡ record_at s at → record_at (b ∷ bs) 0 ≡ near r at
unfolding record_at
read_here s at b bs r q e =
    let n : length (b ∷ bs) ≡ length s - at = sym (ap length q) ∙ length-drop at s in
    near_valued (length s) at (length (b ∷ bs)) (read_record (b ∷ bs)) n
    ∙ sym (ap (λ (x : Record). near x at) (e ∙ ap (λ (l : List ℕ). valued (length s) at (read_record l)) q))

pub at_end_lem : (c : Replay) (place at : ℕ) (s : List ℕ) → at ≡ length s → step c [] (at - at) true ≡ step_of c place (drop at s)
unfolding step_of
at_end_lem c place at s e =
    let h : length s ≤ at = omega arith in
    let d : drop at s ≡ [] = drop_of_length-le s h in
    let q : at - at ≡ 0 = omega arith in
    ap (λ (n : ℕ). step c [] n true) q ∙ sym (ap (step_of c place) d)

module _ (c : Replay) (place at : ℕ) (s : List ℕ) (r : Record) (e : r ≡ record_at s at) (h : at ≤ length s) (g : at ≡ length s → ⊥) where
  -- the result for the record there is the result for the bytes
  here : (x : Step) → x ≡ judged c place (near r at) → x ≡ step_of c place (drop at s)
  unfolding step_of
  here x f = go (drop at s) refl
    where
      go : (l : List ℕ) → drop at s ≡ l → x ≡ step_of c place l
      go [] q = none (g (omega (arith, ap length q, length-drop at s)))
      go (b ∷ bs) q = f ∙ sym (ap (judged c place) (read_here s at b bs r q e))

  pub turned_back : (l : List ℕ) → (r.refusal ≡ 0 → ⊥) → l ≡ refused_line r.refusal place → step c l (at - at) true ≡ step_of c place (drop at s)
  unfolding judged
  turned_back l z f =
      let q : at - at ≡ 0 = omega arith in
      here (step c l (at - at) true) (rw (ne_eqb r.refusal 0 z) (ap (λ (n : ℕ). step c l n true) q ∙ ap (λ (x : List ℕ). step c x 0 true) f))

  pub played : (d : Replay) (l : List ℕ) → r.refusal ≡ 0 → d ≡ (after c r.kind r.values).replay → l ≡ (after c r.kind r.values).line → step d l (r.next - at) false ≡ step_of c place (drop at s)
  unfolding judged
  played d l z f k =
      here (step d l (r.next - at) false)
      (rw (eq-eqb r.refusal 0 z) (ap (λ (x : Replay). step x l (r.next - at) false) f ∙ ap (λ (x : List ℕ). step (after c r.kind r.values).replay x (r.next - at) false) k))

-- a record lies within the bytes it was read from
in_bytes : (len at : ℕ) (d : Found) → at ≤ len → (valued len at d).next ≤ len
unfolding valued
in_bytes len at (refused n) h = h
in_bytes len at (found k ws rest) h = omega arith

pub next_in : (s : List ℕ) (at : ℕ) (r : Record) → at ≤ length s → r ≡ record_at s at → r.next ≤ length s
unfolding record_at
next_in s at r h e = omega (arith, ap (λ (x : Record). x.next) e, in_bytes (length s) at (read_record (drop at s)) h)

-- and does not begin before its offset
on_bytes : (len at : ℕ) (d : Found) → at ≤ len → unread d ≤ len - at → at ≤ (valued len at d).next
unfolding valued unread
on_bytes len at (refused n) h k = le_refl at
on_bytes len at (found k ws rest) h i = omega arith

pub next_on : (s : List ℕ) (at : ℕ) (r : Record) → at ≤ length s → r ≡ record_at s at → at ≤ r.next
unfolding record_at
next_on s at r h e =
    let u : unread (read_record (drop at s)) ≤ length s - at = subst (λ (n : ℕ). unread (read_record (drop at s)) ≤ n) (length-drop at s) (unread_few (drop at s)) in
    omega (arith, ap (λ (x : Record). x.next) e, on_bytes (length s) at (read_record (drop at s)) h u)
