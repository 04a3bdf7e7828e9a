-- The ways that the reading of a record can go, from the tests of the code.
use mathlib.Core.Path.{◌≡◌, refl, sym, ap, ◌∙◌}
use Prim.Native.Nat.{ℕ, ◌-◌, ◌%◌, ◌≤◌, ◌<◌}
use lib.Dec.{eqb}
use native.Mathlib.Omega.{arith}
use mathlib.Core.Bool.{true, false, cond}
use mathlib.Core.List.{List, [], ◌++◌}
use lib.ListN.{length, get_or, take, drop, replicate, length-replicate, length-drop, take-append-drop, drop_of_length-le}
use lib.Seq.{get_or-take, length-take-le}
use borrow.Author.Tests.{eq-eqb, ne_eqb, lt-leb, le-leb}
use Rattle.std.proofs.lemmas.List.{drop-replicate}
use Rattle.std.specs.Prelude.{Ok, Err}
use Rattle.refusals.specs.declared.Refusal.{Refusal}
use Rattle.refusals.specs.declared.Refusal.TheVariants as refusal
use Rattle.refusals.specs.Numbers.{number}
use Rattle.byte_layout.specs.declared.Row.{Row}
use Rattle.byte_layout.specs.declared.Parsed.{Parsed}
use Rattle.byte_layout.specs.Rows.{stands}
use Rattle.byte_layout.specs.Reads.{bad, good, taken, step, steps, view}
use Rattle.byte_layout.proofs.Ways.{begun}
use Rattle.trace_records.specs.declared.Record as Answer
use Rattle.trace_records.specs.Tables.{head_rows, body, fields}
use Rattle.trace_records.specs.Records.{in_steps, possible, refused, found, ended, bodied, read_record, valued, record_at, Record, record_read}
use Rattle.trace_records.proofs.Rounds.{body_long, fields_few}

-- ---- a length in steps

module _ (n low high by : ℕ) where
  pub too_short : n < low → false ≡ in_steps n low high by
  unfolding in_steps
  too_short h = rw (lt-leb low n h) refl

  module _ (g : low ≤ n) where
    pub too_long : high < n → false ≡ in_steps n low high by
    unfolding in_steps
    too_long h = rw (le-leb low n g, lt-leb n high h) refl

    pub between : n ≤ high → eqb ((n - low) % by) 0 ≡ in_steps n low high by
    unfolding in_steps
    between h = rw (le-leb low n g, le-leb n high h) refl

-- ---- a record

abbrev pub Start : ℕ → ℕ → Parsed
Start at n = record { at = at; left = n; values = replicate 80 0 }

abbrev Got : ℕ → ℕ → List ℕ → Record
Got k a v = record { refusal = 0; kind = k; next = a; values = v }

abbrev Answered : ℕ → ℕ → List ℕ → Answer.Record
Answered k a v = record { kind = k; next = a; values = v }

module _ (s : List ℕ) (at : ℕ) where
  refuses : (x : Refusal) (n : ℕ) → n ≡ number x → read_record (drop at s) ≡ refused n → record_read at (Err x) ≡ record_at s at
  unfolding record_at valued
  refuses x n g e = rw (e, g) refl

  nothing : read_record [] ≡ refused 18
  unfolding read_record bodied head_rows steps step stands taken
  nothing = refl

  pub no_place : length s < at → record_read at (Err refusal.Truncated) ≡ record_at s at
  no_place h = refuses refusal.Truncated 18 refl (rw (drop_of_length-le s {i = at} (omega arith)) nothing)

  pub no_head : (x : Refusal) → bad (number x) ≡ steps head_rows (good 5 [] (drop at s)) → record_read at (Err x) ≡ record_at s at
  unfolding read_record bodied
  no_head x e = refuses x (number x) refl (ap bodied (sym e))

  module _ (h : Parsed) (e : good h.left (take 4 h.values) (drop h.at s) ≡ steps head_rows (good 5 [] (drop at s))) (k n : ℕ) (kind : get_or h.values 2 0 ≡ k) (size : get_or h.values 3 0 ≡ n) where
    judged : read_record (drop at s) ≡ cond (possible k n) (ended k (steps (body k) (good n [] (drop h.at s)))) (refused 17)
    unfolding read_record bodied
    judged = ap bodied (sym e) ∙ rw (get_or-take 4 h.values 2 0 (omega arith), get_or-take 4 h.values 3 0 (omega arith), kind, size) refl

    pub no_length : false ≡ possible k n → record_read at (Err refusal.Record) ≡ record_at s at
    no_length p = refuses refusal.Record 17 refl (judged ∙ rw (← p) refl)

    module _ (p : true ≡ possible k n) (t : List Row) (rows : t ≡ body k) (q : Parsed) (start : q ≡ Start h.at n) where
      judged_body : read_record (drop at s) ≡ ended k (steps t (view s 0 (Ok q)))
      judged_body = judged ∙ rw (← p) (ap (λ z. ended k (steps z (good n [] (drop h.at s)))) (sym rows) ∙ ap (λ z. ended k (steps t z)) (sym (begun s h.at n q start)))

      pub no_fields : (x : Refusal) → bad (number x) ≡ steps t (view s 0 (Ok q)) → record_read at (Err x) ≡ record_at s at
      unfolding ended
      no_fields x z = refuses x (number x) refl (judged_body ∙ ap (ended k) (sym z))

      module _ (r : Parsed) (z : good r.left (take (length t) r.values) (drop r.at s) ≡ steps t (view s 0 (Ok q))) where
        pub goes_on : 0 < r.left → record_read at (Err refusal.Record) ≡ record_at s at
        unfolding ended
        goes_on l = refuses refusal.Record 17 refl (judged_body ∙ ap (ended k) (sym z) ∙ rw (ne_eqb r.left 0 (λ x. omega arith)) refl)

        pub read_found : r.left ≤ 0 → r.at ≤ length s → drop (length t) r.values ≡ drop (length t) q.values → record_read at (Ok (Answered k r.at r.values)) ≡ record_at s at
        unfolding ended record_at valued
        read_found l i d =
            let m = length t in
            let c : m ≡ fields k = ap length rows ∙ body_long k in
            let u = take m r.values in
            let w : drop m r.values ≡ replicate (80 - m) 0 = d ∙ ap (λ (v : Parsed). drop m v.values) start ∙ drop-replicate m 80 0 in
            let y : length r.values - m ≡ 80 - m = sym (length-drop m r.values) ∙ ap length w ∙ length-replicate (80 - m) 0 in
            let o : length u ≡ m = length-take-le m r.values (omega (arith, c, fields_few k)) in
            let x : read_record (drop at s) ≡ found k u (drop r.at s) = judged_body ∙ ap (ended k) (sym z) ∙ rw (eq-eqb r.left 0 (omega arith)) refl in
            let a : u ++ replicate (80 - length u) 0 ≡ r.values = ap (λ v. u ++ replicate (80 - v) 0) o ∙ ap (λ v. u ++ v) (sym w) ∙ take-append-drop m r.values in
            let b : length s - length (drop r.at s) ≡ r.at = omega (arith, length-drop r.at s) in
            sym (ap (valued (length s) at) x ∙ ap (λ v. Got k v (u ++ replicate (80 - length u) 0)) b ∙ ap (Got k r.at) a)
