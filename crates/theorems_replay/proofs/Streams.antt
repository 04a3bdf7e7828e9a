-- What is printed of a trace, one record at a time from a window.
use mathlib.Core.Path.{◌≡◌, refl, sym, ap, ◌∙◌}
use Prim.Native.Nat.{ℕ, zero, suc, ◌+◌, ◌-◌, ◌≤◌}
use native.Mathlib.Omega.{arith}
use mathlib.Core.Bool.{Bool, true, false, cond}
use mathlib.Core.List.{List, [], ◌∷◌, ◌++◌}
use lib.ListN.{length, drop, length-append}
use borrow.Author.Tests.{ne_eqb}
use Rattle.byte_layout.proofs.Numbers.{Small}
use Rattle.byte_layout.proofs.Codec.{never}
use Rattle.trace_records.specs.Records.{Record, Found, refused, found, read_record, valued, record_at}
use Rattle.trace_records.specs.Writes.{record_of}
use Rattle.trace_records.proofs.Rounds.{written_record}
use Rattle.trace_records.proofs.Traces.{record_some}
use Rattle.trace_records.proofs.Windows.{window, refusal_numbered}
use Rattle.trace_replay.specs.Runs.{Replay, Step, judged, step_of, printed}
use Rattle.theorems_replay.specs.Streams.{Streams}

none : {A : Type 0} → ⊥ → A
none e = elim e [ ]

-- the bytes of the current record are skipped
pub run_on : (c : Replay) (at : ℕ) (bs : List ℕ) (k : ℕ) → k ≤ length bs → printed c at k bs ≡ printed c (at + k) 0 (drop k bs)
unfolding printed
run_on c at bs zero h = let e : at ≡ at + 0 = omega arith in ap (λ (z : ℕ). printed c z 0 bs) e
run_on c at [] (suc k) h = none (omega arith)
run_on c at (b ∷ bs) (suc k) h = let e : suc at + k ≡ at + suc k = omega arith in run_on c (suc at) bs k (omega arith) ∙ ap (λ (z : ℕ). printed c z 0 (drop k bs)) e

-- a run that continues has read a record
pub record Sized (s : Step) (n : ℕ) : Type 0 where
  pub some : 1 ≤ s.size
  pub few : s.size ≤ n

pub sized : (c : Replay) (at : ℕ) (bs : List ℕ) → Small bs → (judged c at (record_at bs 0)).over ≡ false → Sized (judged c at (record_at bs 0)) (length bs)
unfolding judged record_at valued
sized c at bs s o = go (read_record bs) refl o
  where
    go : (d : Found) → read_record bs ≡ d → (judged c at (valued (length bs) 0 d)).over ≡ false → Sized (judged c at (valued (length bs) 0 d)) (length bs)
    go (refused n) e f = never (sym f ∙ rw (ne_eqb n 0 (λ z. omega (arith, z, refusal_numbered bs n e))) refl)
    go (found k ws rest) e f =
        let w = written_record bs k ws rest s e in
        let l : length bs ≡ length (record_of k ws) + length rest = ap length w.same ∙ length-append (record_of k ws) rest in
        record { some = omega (arith, l, record_some k ws); few = omega arith }

-- the first line, then the rest
abbrev firstly : ℕ → List ℕ → Step → List ℕ
firstly at bs s = s.line ++ cond s.over [] (printed s.replay (at + s.size) 0 (drop s.size bs))

first_line : (at b : ℕ) (bs : List ℕ) (s : Step) → (s.over ≡ false → Sized s (suc (length bs))) → s.line ++ cond s.over [] (printed s.replay (suc at) (s.size - 1) bs) ≡ firstly at (b ∷ bs) s
first_line at b bs s h = ap (λ (l : List ℕ). s.line ++ l) (go s.over refl)
  where
    go : (t : Bool) → s.over ≡ t → cond t [] (printed s.replay (suc at) (s.size - 1) bs) ≡ cond t [] (printed s.replay (at + s.size) 0 (drop s.size (b ∷ bs)))
    go true e = refl
    go false e =
        let z = h e in
        let n = s.size - 1 in
        let q : suc n ≡ s.size = omega (arith, z.some) in
        let p : suc at + n ≡ at + s.size = omega (arith, z.some) in
        run_on s.replay (suc at) bs n (omega (arith, z.few))
        ∙ ap (λ (x : ℕ). printed s.replay x 0 (drop n bs)) p
        ∙ ap (λ (x : ℕ). printed s.replay (at + s.size) 0 (drop x (b ∷ bs))) q

pub streams : Streams
unfolding printed step_of
streams c at zero bs x = none (let h = x.wide in omega arith)
streams c at (suc w) [] x = refl
streams c at (suc w) (b ∷ bs) x =
    let h = x.wide in
    first_line at b bs (judged c at (record_at (b ∷ bs) 0)) (sized c at (b ∷ bs) x.bytes)
    ∙ sym (ap (λ (r : Record). firstly at (b ∷ bs) (judged c at r)) (window (b ∷ bs) 0 (suc w) (omega arith)))
