-- What is printed for a trace depends on a sound only through its frame count: two traces whose records differ only in
-- the samples of their creations print the same lines. So a trace can be replayed and audited without its sound.
use Rattle.std.specs.Prelude.{ℕ, zero, suc, ◌-◌, ◌≡◌, cond, List, [], ◌∷◌, map, eqb}
use Rattle.trace_records.specs.Records.{Record, record_at}
use Rattle.trace_replay.specs.Runs.{replayed}

-- the records that a replay reads, with k bytes of the current record still left; a refused record is the last
unfoldable pub records : ℕ → List ℕ → List Record
records k [] = []
records (suc k) (b ∷ bs) = records k bs
records zero (b ∷ bs) =
    let r = record_at (b ∷ bs) 0 in
    r ∷ cond (eqb r.refusal 0) (records (r.next - 1) bs) []

-- 0 in place of all numbers except the first n
abbrev pub zero_after : ℕ → List ℕ → List ℕ
zero_after zero vs = map (λ (v : ℕ). 0) vs
zero_after (suc n) [] = []
zero_after (suc n) (v ∷ vs) = v ∷ zero_after n vs

-- the record without samples: a creation's first thirteen numbers are settings and frame count, the others are frames
abbrev pub muted_record : Record → Record
muted_record r =
    record {
      refusal = r.refusal;
      kind = r.kind;
      next = r.next;
      values = cond (eqb r.kind 1) (zero_after 13 r.values) r.values;
    }

-- hypothesis
abbrev pub SameButForSamples : List ℕ → List ℕ → Type 0
SameButForSamples bs cs = map muted_record (records 0 bs) ≡ map muted_record (records 0 cs)

abbrev pub LinesAlike : Type 0
LinesAlike = (bs cs : List ℕ) → SameButForSamples bs cs → replayed bs ≡ replayed cs
