-- The ways that a write can go, from the tests of the code.
use mathlib.Core.Path.{◌≡◌, refl, sym, ap, ◌∙◌}
use Prim.Native.Nat.{ℕ, ◌+◌, ◌-◌, ◌≤◌, ◌<◌}
use native.Mathlib.Omega.{arith}
use mathlib.Core.Bool.{true, false}
use mathlib.Core.List.{List, [], ◌++◌}
use lib.ListN.{length, take, drop, length-append}
use lib.Seq.{sets, sets-eq}
use borrow.Author.Tests.{le-leb, lt-leb}
use Rattle.byte_layout.specs.declared.Row.{Row}
use Rattle.byte_layout.specs.Writes.{payload, fine}
use Rattle.byte_layout.proofs.Puts.{sets_append}
use Rattle.trace_records.specs.declared.tables.Kind.{Kind}
use Rattle.trace_records.specs.declared.tables.Kind.TheVariants.{Creation, Commands, Block}
use Rattle.trace_records.specs.Tables.{head_rows, body, fields, kind_number}
use Rattle.trace_records.specs.Writes.{head_of, record_of, known, Written, write_record}
use Rattle.trace_records.proofs.Rounds.{body_long, head_length, payload_few}

kind_known : (k : Kind) → true ≡ known (kind_number k)
kind_known Creation = refl
kind_known Commands = refl
kind_known Block = refl

-- the rows of a number's kind
pub record Chosen (k : ℕ) (t : List Row) : Type 0 where
  pub kind : true ≡ known k
  pub rows : t ≡ body k

pub chosen : (n : ℕ) (k : Kind) (t : List Row) → n ≡ kind_number k → t ≡ body (kind_number k) → Chosen n t
chosen n k t e r = record { kind = kind_known k ∙ ap known (sym e); rows = r ∙ ap body (sym e) }

abbrev outcome : ℕ → ℕ → List ℕ → Written
outcome k a b = record { number = k; next = a; buffer = b }

pub no_kind : (buf : List ℕ) (at k : ℕ) (ws : List ℕ) → false ≡ known k → outcome 16 at buf ≡ write_record buf at k ws
unfolding write_record
no_kind buf at k ws e = rw (← e) refl

-- a write by the rows of the kind
module _ (k : ℕ) (t : List Row) (c : Chosen k t) (vals : List ℕ) where
  abbrev ws : List ℕ
  ws = take (fields k) vals

  by_kind : {A : Type 0} (f : List Row → List ℕ → A) → f t (take (length t) vals) ≡ f (body k) ws
  by_kind f = ap (λ z. f z (take (length z) vals)) c.rows ∙ ap (λ n. f (body k) (take n vals)) (body_long k)

  pub unfit : (buf : List ℕ) (at : ℕ) → false ≡ fine t [] (take (length t) vals) → outcome 17 at buf ≡ write_record buf at k ws
  unfolding write_record
  unfit buf at e = rw (← c.kind, ← (e ∙ by_kind (λ z. fine z []))) refl

  module _ (f : true ≡ fine t [] (take (length t) vals)) (n : ℕ) (l : n ≡ length (payload t [] (take (length t) vals))) where
    fits : true ≡ fine (body k) [] ws
    fits = f ∙ by_kind (λ z. fine z [])

    long : n ≡ length (payload (body k) [] ws)
    long = l ∙ by_kind (λ z vs. length (payload z [] vs))

    pub few : n ≤ 570
    few = omega (arith, long, payload_few k ws)

    size : length (record_of k ws) ≡ 5 + n
    unfolding record_of
    size = length-append (payload head_rows [] (head_of k (length (payload (body k) [] ws)))) (payload (body k) [] ws) ∙ omega (arith, head_length k (length (payload (body k) [] ws)), long)

    module _ (buf : List ℕ) (at : ℕ) where
      pub no_room : length buf - at < 5 + n → outcome 19 at buf ≡ write_record buf at k ws
      unfolding write_record
      no_room h = rw (← c.kind, ← fits, lt-leb (length (record_of k ws)) (length buf - at) (omega (arith, size))) refl

      joined : payload head_rows [] (head_of k n) ++ payload (body k) [] ws ≡ record_of k ws
      unfolding record_of
      joined = ap (λ (z : ℕ). payload head_rows [] (head_of k z) ++ payload (body k) [] ws) long

      -- the head written, then the payload
      pub written : 5 + n ≤ length buf - at → (one two : List ℕ) (a b : ℕ) → one ≡ sets buf at (payload head_rows [] (head_of k n)) → a ≡ at + 5
          → two ≡ sets one a (payload t [] (take (length t) vals)) → b ≡ a + length (payload t [] (take (length t) vals)) → outcome 0 b two ≡ write_record buf at k ws
      unfolding write_record
      written h one two a b p q r s =
          rw (← c.kind, ← fits, le-leb (length (record_of k ws)) (length buf - at) (omega (arith, size)))
          (ap (λ (x : ℕ). outcome 0 x two) (omega (arith, size, s, q, l)) ∙ ap (λ (x : List ℕ). outcome 0 (at + length (record_of k ws)) x) stored)
        where
          place : a ≡ at + length (payload head_rows [] (head_of k n))
          place = omega (arith, q, head_length k n)

          stored : two ≡ take at buf ++ record_of k ws ++ drop (at + length (record_of k ws)) buf
          stored =
              r ∙ by_kind (λ z vs. sets one a (payload z [] vs)) ∙ ap (λ (x : ℕ). sets one x (payload (body k) [] ws)) place
              ∙ ap (λ (x : List ℕ). sets x (at + length (payload head_rows [] (head_of k n))) (payload (body k) [] ws)) p
              ∙ sym (sets_append buf at (payload head_rows [] (head_of k n)) (payload (body k) [] ws)) ∙ ap (λ (x : List ℕ). sets buf at x) joined
              ∙ sets-eq (record_of k ws) buf at (omega (arith, size))
