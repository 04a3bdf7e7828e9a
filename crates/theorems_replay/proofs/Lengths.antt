-- What is printed depends on the records, and a record without samples leads to a run that differs only in samples (crates/theorems_sound_length).
-- By induction on the bytes, then on the records. Assumes nothing.
use mathlib.Core.Path.{◌≡◌, refl, sym, ap, ap₂, ◌∙◌}
use Prim.Native.Nat.{ℕ, zero, suc, ◌+◌, ◌-◌, ◌*◌, ◌<◌}
use native.Mathlib.Omega.{arith}
use mathlib.Core.Bool.{Bool, true, false, cond}
use mathlib.Core.List.{List, [], ◌∷◌, ◌++◌, map}
use lib.Dec.{eqb}
use lib.ListN.{length, get_or, take, drop, replicate}
use Rattle.numbers.specs.Words.{positive_zero}
use Rattle.sound_creation.specs.declared.Settings.{Settings}
use Rattle.sound_creation.specs.Creation.{Created, created}
use Rattle.sound_commands.specs.Commands.{CommandsAnswer}
use Rattle.sound_slow_path.specs.Plays.{BlockAnswer}
use Rattle.trace_inputs.specs.Inputs.{at_most, settings_of, stereo, samples_of, commands_of, block_of}
use Rattle.trace_lines.specs.Lines.{refused_line}
use Rattle.trace_records.specs.Records.{Record, record_at}
use Rattle.trace_replay.specs.Runs.{Replay, blank, more, lanes_of, answered, line_of, AfterRecord, after_creation, after_commands, after_block, after, Step, judged, step_of, printed}
use Rattle.theorems_sound_length.specs.Muted.{muted, muted_created}
use Rattle.theorems_sound_length.specs.Lengths.{OtherSound}
use Rattle.theorems_sound_length.proofs.Calls.{creation_alike, commands_alike, blocks_alike}
use Rattle.theorems_replay.specs.Lengths.{records, zero_after, muted_record, LinesAlike}

-- ---- a creation's numbers without its frames

kept : (n i : ℕ) (vs : List ℕ) → i < n → get_or (zero_after n vs) i 0 ≡ get_or vs i 0
kept zero i vs h = elim absurd [ ]
  where
    absurd : ⊥
    absurd = omega (arith, h)
kept (suc n) i [] h = refl
kept (suc n) zero (v ∷ vs) h = refl
kept (suc n) (suc i) (v ∷ vs) h = kept n i vs (omega (arith, h))

frames_zero : (n : ℕ) (vs : List ℕ) → drop n (zero_after n vs) ≡ map (λ (v : ℕ). 0) (drop n vs)
frames_zero zero vs = refl
frames_zero (suc n) [] = refl
frames_zero (suc n) (v ∷ vs) = frames_zero n vs

stereo_long : (n : ℕ) (xs : List ℕ) → length (stereo (take n xs)) ≡ length (stereo (take n (map (λ (v : ℕ). 0) xs)))
unfolding stereo
stereo_long zero xs = refl
stereo_long (suc n) [] = refl
stereo_long (suc n) (x ∷ xs) = ap (λ (k : ℕ). suc (suc k)) (stereo_long n xs)

settings_kept : (vs : List ℕ) → settings_of (zero_after 13 vs) ≡ settings_of vs
unfolding settings_of
settings_kept vs =
    rw
    (k 0 (omega arith), k 1 (omega arith), k 2 (omega arith), k 3 (omega arith), k 4 (omega arith), k 5 (omega arith), k 6 (omega arith), k 7 (omega arith), k 8 (omega arith), k 9 (omega arith), k 10 (omega arith), k 11 (omega arith))
    refl
  where
    k : (i : ℕ) → i < 13 → get_or (zero_after 13 vs) i 0 ≡ get_or vs i 0
    k i h = kept 13 i vs h

samples_long : (vs : List ℕ) → length (samples_of vs) ≡ length (samples_of (zero_after 13 vs))
samples_long vs =
    stereo_long (at_most 64 (get_or vs 12 0)) (drop 13 vs)
    ∙ ap₂ (λ (n : ℕ) (xs : List ℕ). length (stereo (take (at_most 64 n) xs))) (sym (kept 13 12 vs (omega arith))) (sym (frames_zero 13 vs))

-- ---- runs that differ only in samples

record Alike (c d : Replay) : Type 0 where
  voices : muted c.voice ≡ muted d.voice
  sounds : length c.sound ≡ length d.sound
  blocks : c.blocks ≡ d.blocks

record TurnAlike (t u : AfterRecord) : Type 0 where
  replay : Alike t.replay u.replay
  line : t.line ≡ u.line

other_sound_lem : (c d : Replay) → Alike c d → OtherSound c.sound d.sound c.voice d.voice
other_sound_lem c d h = record { samples = h.sounds; voices = h.voices }

creation_turn : (c d : Replay) (vs : List ℕ) → Alike c d → TurnAlike (after_creation c vs) (after_creation d (zero_after 13 vs))
creation_turn c d vs h =
    let ws = zero_after 13 vs in
    let made : muted_created (created (samples_of vs) (settings_of vs)) ≡ muted_created (created (samples_of ws) (settings_of ws)) =
    creation_alike (samples_of vs) (samples_of ws) (settings_of vs) (samples_long vs)
    ∙ ap (λ (s : Settings). muted_created (created (samples_of ws) s)) (sym (settings_kept vs))
    in
    record { replay = record { voices = ap (λ (a : Created). a.voice) made; sounds = samples_long vs; blocks = h.blocks }; line = refl }

commands_turn : (c d : Replay) (vs : List ℕ) → Alike c d → TurnAlike (after_commands c vs) (after_commands d vs)
commands_turn c d vs h =
    let e = commands_alike c.sound d.sound c.voice d.voice (commands_of vs) (other_sound_lem c d h) in
    record { replay = record { voices = ap (λ (a : CommandsAnswer). a.voice) e; sounds = h.sounds; blocks = h.blocks }; line = refl }

block_turn : (c d : Replay) (vs : List ℕ) → Alike c d → TurnAlike (after_block c vs) (after_block d vs)
unfolding answered line_of
block_turn c d vs h =
    let b = block_of vs in
    let out = replicate (2 * b.frames) positive_zero in
    let e = blocks_alike c.sound d.sound c.voice d.voice b.time_step (lanes_of b) b.signals out out (record { sound = other_sound_lem c d h; output = refl }) in
    record {
      replay = record { voices = ap (λ (a : BlockAnswer). a.voice) e; sounds = h.sounds; blocks = ap more h.blocks };
      line = ap₂ (λ (n : ℕ) (a : BlockAnswer). line_of (more n) b.frames a) h.blocks e;
    }

turn_alike : (c d : Replay) (k : ℕ) (vs : List ℕ) → Alike c d → TurnAlike (after c k vs) (after d k (cond (eqb k 1) (zero_after 13 vs) vs))
unfolding after
turn_alike c d k vs h = go (eqb k 1)
  where
    other : (b : Bool) → TurnAlike (cond b (after_commands c vs) (after_block c vs)) (cond b (after_commands d vs) (after_block d vs))
    other true = commands_turn c d vs h
    other false = block_turn c d vs h

    go : (b : Bool) → TurnAlike (cond b (after_creation c vs) (cond (eqb k 2) (after_commands c vs) (after_block c vs)))
        (cond b (after_creation d (cond b (zero_after 13 vs) vs)) (cond (eqb k 2) (after_commands d (cond b (zero_after 13 vs) vs)) (after_block d (cond b (zero_after 13 vs) vs))))
    go true = creation_turn c d vs h
    go false = other (eqb k 2)

record StepAlike (s t : Step) : Type 0 where
  replay : Alike s.replay t.replay
  line : s.line ≡ t.line
  size : s.size ≡ t.size
  over : s.over ≡ t.over

step_alike : (c d : Replay) (at : ℕ) (r : Record) → Alike c d → StepAlike (judged c at r) (judged d at (muted_record r))
unfolding judged
step_alike c d at r h = go (eqb r.refusal 0)
  where
    go : (b : Bool) → StepAlike
        (cond b (record { replay = (after c r.kind r.values).replay; line = (after c r.kind r.values).line; size = r.next; over = false }) (record { replay = c; line = refused_line r.refusal at; size = 0; over = true }))
        (cond b (record { replay = (after d r.kind (muted_record r).values).replay; line = (after d r.kind (muted_record r).values).line; size = r.next; over = false }) (record { replay = d; line = refused_line r.refusal at; size = 0; over = true }))
    go true = let t = turn_alike c d r.kind r.values h in record { replay = t.replay; line = t.line; size = refl; over = refl }
    go false = record { replay = h; line = refl; size = refl; over = refl }

-- ---- what is printed, from the records

lines_of : Replay → ℕ → List Record → List ℕ
lines_of c at [] = []
lines_of c at (r ∷ rs) =
    let s = judged c at r in
    s.line ++ cond s.over [] (lines_of s.replay (suc at + (s.size - 1)) rs)

lines_alike_of : (rs : List Record) (c d : Replay) (at : ℕ) → Alike c d → lines_of c at rs ≡ lines_of d at (map muted_record rs)
unfolding lines_of
lines_alike_of [] c d at h = refl
lines_alike_of (r ∷ rs) c d at h =
    let s = judged c at r in
    let t = judged d at (muted_record r) in
    let a = step_alike c d at r h in
    ap (λ (l : List ℕ). s.line ++ cond s.over [] l) (lines_alike_of rs s.replay t.replay (suc at + (s.size - 1)) a.replay)
    ∙ ap (λ (n : ℕ). s.line ++ cond s.over [] (lines_of t.replay (suc at + (n - 1)) (map muted_record rs))) a.size
    ∙ ap₂ (λ (l : List ℕ) (b : Bool). l ++ cond b [] (lines_of t.replay (suc at + (t.size - 1)) (map muted_record rs))) a.line a.over

printed_lines : (bs : List ℕ) (c : Replay) (at k : ℕ) → printed c at k bs ≡ lines_of c (at + k) (records k bs)
unfolding printed step_of judged lines_of records
printed_lines [] c at k = refl
printed_lines (b ∷ bs) c at (suc k) =
    let e : suc at + k ≡ at + suc k = omega arith in
    printed_lines bs c (suc at) k ∙ ap (λ (n : ℕ). lines_of c n (records k bs)) e
printed_lines (b ∷ bs) c at zero =
    let e : at ≡ at + 0 = omega arith in
    let r = record_at (b ∷ bs) 0 in
    go (printed_lines bs) r (eqb r.refusal 0)
    ∙ ap (λ (n : ℕ). lines_of c n (r ∷ cond (eqb r.refusal 0) (records (r.next - 1) bs) [])) e
  where
    step_by : Bool → Record → Step
    step_by o r =
        cond o
        (record { replay = (after c r.kind r.values).replay; line = (after c r.kind r.values).line; size = r.next; over = false })
        (record { replay = c; line = refused_line r.refusal at; size = 0; over = true })

    go : ((d : Replay) (x y : ℕ) → printed d x y bs ≡ lines_of d (x + y) (records y bs)) → (r : Record) (o : Bool)
        → (step_by o r).line ++ cond (step_by o r).over [] (printed (step_by o r).replay (suc at) ((step_by o r).size - 1) bs)
        ≡ (step_by o r).line ++ cond (step_by o r).over [] (lines_of (step_by o r).replay (suc at + ((step_by o r).size - 1)) (cond o (records (r.next - 1) bs) []))
    go rest r true = ap (λ (l : List ℕ). (after c r.kind r.values).line ++ l) (rest (after c r.kind r.values).replay (suc at) (r.next - 1))
    go rest r false = refl

pub lines_alike : LinesAlike
lines_alike bs cs h =
    let same : Alike blank blank = record { voices = refl; sounds = refl; blocks = refl } in
    printed_lines bs blank 0 0
    ∙ lines_alike_of (records 0 bs) blank blank 0 same
    ∙ ap (lines_of blank 0) h
    ∙ sym (lines_alike_of (records 0 cs) blank blank 0 same)
    ∙ sym (printed_lines cs blank 0 0)
