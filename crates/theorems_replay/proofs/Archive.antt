-- The archive's replay and the program's, record by record: the numbers of the one represent the run of the other. Assumes nothing.
use mathlib.Core.Path.{◌≡◌, refl, sym, ap, ◌∙◌, subst}
use Prim.Native.Nat.{ℕ, zero, suc, ◌+◌, ◌-◌, ◌*◌, ◌≤◌}
use native.Mathlib.Omega.{arith}
use mathlib.Core.Bool.{Bool, true, false, cond, not, ◌&&◌, ◌||◌}
use mathlib.Core.List.{List, [], ◌∷◌, ◌++◌}
use lib.Dec.{T, eqb, leb, leb→le}
use lib.ListN.{length, take, drop, replicate, get_or, length-replicate, length-append, length-drop}
use lib.Seq.{sets, take_all, length-sets, length-take-le}
use lib.Ieee.{Float}
use borrow.Author.Tests.{eq-eqb, ne_eqb, eqb-true, eqb-false, le-leb}
use Rattle.numbers.specs.Words.{positive_zero}
use Rattle.byte_layout.specs.Numbers.{num}
use Rattle.byte_layout.specs.Rows.{stands}
use Rattle.byte_layout.specs.Reads.{taken, step, steps}
use Rattle.byte_layout.proofs.Numbers.{Small}
use Rattle.sound_lanes.specs.Lanes.{Lanes, rows}
use Rattle.sound_lanes.proofs.Rows.{beside_length}
use Rattle.sound_state.specs.declared.StaticSound.{StaticSound}
use Rattle.sound_creation.specs.Creation.{blank_sound, created}
use Rattle.sound_commands.specs.declared.Commands.{Commands}
use Rattle.sound_commands.specs.Commands.{CommandsAnswer, commanded}
use Rattle.sound_commands.proofs.Answers.{commanded_refused}
use Rattle.sound_block.specs.declared.Signals.{Signals}
use Rattle.sound_block.specs.Blocks.{block}
use Rattle.sound_block.proofs.Blocks.{block_length}
use Rattle.sound_slow_path.specs.Plays.{BlockAnswer, Played, Outcome, accepted_with}
use Rattle.static_sound.specs.Entries.{refused_block, refused_with, processed}
use Rattle.static_sound.proofs.Entries.{processed_refused}
use Rattle.trace_inputs.specs.declared.Block.{Block}
use Rattle.trace_inputs.specs.Inputs.{settings_of, stereo, samples_of, commands_of, block_of, at_most}
use Rattle.trace_inputs.proofs.Samples.{at_most_le}
use Rattle.trace_lines.specs.Lines.{block_line, refused_block_line, refused_line}
use Rattle.trace_records.specs.Tables.{head_rows}
use Rattle.trace_records.specs.Records.{Record, bodied, read_record, valued, record_at}
use Rattle.trace_replay.specs.Runs as below
use Rattle.trace_replay.specs.Runs.{Replay, AfterRecord, answered, line_of, step_of, printed}
use Rattle.c_state.specs.declared.CableowlState.{CableowlState}
use Rattle.c_state.specs.Records.{decoded, encoded}
use Rattle.c_state.proofs.Inverse.{decoded_encoded}
use Rattle.cableowl.specs.declared.replays.CableowlReplay.{CableowlReplay}
use Rattle.cableowl.specs.Entries.{after}
use Rattle.cableowl.specs.Replays.{
  StepC,
  blank_replay,
  more,
  onward,
  lanes_of,
  block_outcome,
  unplayed,
  creation_c,
  commands_c,
  block_c,
  block_step,
  played_record,
  judged,
  begun,
  refused_step,
  stepped_c,
}
use Rattle.cableowl.proofs.ReplaySteps.{prefix, few_frames}
use Rattle.theorems_replay.specs.Archive.{
  block_line_c,
  line_c,
  printed_c,
  ArchiveReplays,
  ThreeFramesC,
  LinesAlikeC,
  StreamsC,
  Fit,
  BlockAt,
  CutRecordsC,
}
use Rattle.theorems_replay.specs.Cuts.{block_numbers, Lines}
use Rattle.theorems_replay.proofs.Streams.{Sized, sized}
use Rattle.theorems_replay.proofs.Narrow.{Shown, cut_off, whole, narrow}
use Rattle.theorems_replay.proofs.Cuts.{cut_records}
use Rattle.theorems_replay.proofs.Example.{three_frames}
use Rattle.theorems_replay.proofs.Lengths.{lines_alike}

-- ---- a recorded sound is short

stereo_long : (xs : List ℕ) → length (stereo xs) ≡ 2 * length xs
unfolding stereo
stereo_long [] = refl
stereo_long (x ∷ xs) = omega (arith, stereo_long xs)

take_few : (n : ℕ) (xs : List ℕ) → length (take n xs) ≤ n
take_few zero xs = omega arith
take_few (suc n) [] = omega arith
take_few (suc n) (x ∷ xs) = let h = take_few n xs in omega arith

few : (vs : List ℕ) → length (samples_of vs) ≤ 128
few vs =
    let m = at_most 64 (get_or vs 12 0) in
    omega (arith, stereo_long (take m (drop 13 vs)), take_few m (drop 13 vs), at_most_le 64 (get_or vs 12 0))

-- ---- the state after a call represents the voice after it

stays : (k : ℕ) (v : StaticSound) (c : CableowlState) → (eqb k 0 ≡ false → decoded c ≡ v) → decoded (after k v c) ≡ v
unfolding after
stays k v c h = go (eqb k 0) refl
  where
    go : (b : Bool) → eqb k 0 ≡ b → decoded (cond b (encoded v) c) ≡ v
    go true e = decoded_encoded v
    go false e = h e

commands_mean : (x : List Float) (c : CableowlState) (u : Commands) → let q = commanded x (decoded c) u in decoded (after q.refusal q.voice c) ≡ q.voice
commands_mean x c u =
    let q = commanded x (decoded c) u in
    stays q.refusal q.voice c
    (λ e. sym (ap (λ (a : CommandsAnswer). a.voice) (commanded_refused x (decoded c) u (eqb-false q.refusal 0 e))))

block_means : (x : List Float) (c : CableowlState) (b : Block) (out : List Float)
    → let q = (block_outcome x c b out).answer in decoded (after q.refusal q.voice c) ≡ q.voice
block_means x c b out =
    let q = (block_outcome x c b out).answer in
    stays q.refusal q.voice c
    (λ e. sym (ap (λ (o : Outcome). o.answer.voice) (processed_refused x (decoded c) b.time_step (lanes_of b) b.signals out (eqb-false q.refusal 0 e))))

-- a result does not depend on the output before the call
any_output : (x : List Float) (v : StaticSound) (dt : Float) (b : Lanes) (g : Signals) (p q : List Float) → length p ≡ length q
    → (processed x v dt b g p).answer ≡ (processed x v dt b g q).answer
unfolding processed
any_output x v dt b g p q e = ap (λ (n : ℕ). (of_length n p).answer) e ∙ go (eqb (number (length q)) 0)
  where
    number : ℕ → ℕ
    number n = refused_block (length x) v dt b (eqb n (2 * length b.rate))

    heard : Played
    heard = block x dt (rows b) g v

    of_length : ℕ → List Float → Outcome
    of_length n l = cond (eqb (number n) 0) (accepted_with heard heard.samples) (refused_with (number n) v l)

    go : (t : Bool) → (cond t (accepted_with heard heard.samples) (refused_with (number (length q)) v p)).answer
        ≡ (cond t (accepted_with heard heard.samples) (refused_with (number (length q)) v q)).answer
    go true = refl
    go false = refl

-- ---- one record

-- the run that the numbers of a replay represent, over the sound
abbrev replay_c : CableowlReplay → List Float → Replay
replay_c r snd = record { voice = decoded r.voice; sound = take r.samples snd; blocks = r.blocks }

-- a record of n bytes was played, with the same effect as below
record Goes (o : StepC) (r : CableowlReplay) (n : ℕ) (t : AfterRecord) : Type 0 where
  done : o.answer.what ≡ 0
  size : o.answer.size ≡ n
  line : line_c o.answer ≡ t.line
  replay : replay_c o.answer.replay o.sound ≡ t.replay
  offset : o.answer.replay.offset ≡ onward r.offset n
  fit : Fit o.answer.replay o.sound o.samples

abbrev run : ℕ → StaticSound → List Float → Replay
run n v x = record { voice = v; sound = x; blocks = n }

module _ (r : CableowlReplay) (snd out : List Float) (f : Fit r snd out) (n : ℕ) (vs : List ℕ) where
  creation_goes : Goes (record { answer = creation_c r n vs; sound = sets snd 0 (samples_of vs); samples = out }) r n (below.after_creation (replay_c r snd) vs)
  unfolding creation_c line_c
  creation_goes =
      let s = samples_of vs in
      let v = (created s (settings_of vs)).voice in
      let h = few vs in
      let g = f.room in
      let l : length (sets snd 0 s) ≡ length snd = simp length-sets in
      record {
        done = refl;
        size = refl;
        line = refl;
        replay = ap (λ (z : StaticSound). run r.blocks z (take (length s) (sets snd 0 s))) (decoded_encoded v)
            ∙ ap (run r.blocks v) (prefix snd (sets snd 0 s) s (length s) refl refl (omega arith));
        offset = refl;
        fit = record { reads = f.reads; alone = f.alone; inside = omega arith; room = omega arith; output = f.output };
      }

  commands_goes : Goes (record { answer = commands_c (take r.samples snd) r n vs; sound = snd; samples = out }) r n (below.after_commands (replay_c r snd) vs)
  unfolding commands_c line_c
  commands_goes =
      record {
        done = refl;
        size = refl;
        line = refl;
        replay = ap (λ (z : StaticSound). run r.blocks z (take r.samples snd)) (commands_mean (take r.samples snd) r.voice (commands_of vs));
        offset = refl;
        fit = record { reads = f.reads; alone = f.alone; inside = f.inside; room = f.room; output = f.output };
      }

rows_long : (f v l r p : Float) (n : ℕ) → length (rows (record { fade = replicate n f; volume = replicate n v; left = replicate n l; right = replicate n r; rate = replicate n p })) ≡ n
rows_long f v l r p n =
    beside_length (replicate n f) (replicate n v) (replicate n l) (replicate n r) (replicate n p) ∙ length-replicate n p

-- the line of a block's answer is that of the player's
line_is : (r : CableowlReplay) (n frames : ℕ) (q : BlockAnswer) → line_c (block_c r n frames q) ≡ line_of (more r.blocks) frames q
unfolding line_c block_c block_line_c line_of after encoded
line_is r n frames q = go (eqb q.refusal 0)
  where
    k : ℕ
    k = more r.blocks

    go : (t : Bool)
        → cond t (block_line k frames q.steps (cond t (encoded q.voice) r.voice).state (cond t (encoded q.voice) r.voice).position) (refused_block_line k q.refusal)
        ≡ cond t (block_line k frames q.steps (encoded q.voice).state (encoded q.voice).position) (refused_block_line k q.refusal)
    go true = refl
    go false = refl

module _ (r : CableowlReplay) (snd out : List Float) (f : Fit r snd out) (n : ℕ) (vs : List ℕ) where
  abbrev x : List Float
  x = take r.samples snd

  abbrev b : Block
  b = block_of vs

  same : (block_outcome x r.voice b (take (2 * b.frames) out)).answer ≡ answered x (decoded r.voice) b
  unfolding answered
  same =
      let h = few_frames vs b refl in
      let g = f.output in
      let l : length (take (2 * b.frames) out) ≡ 2 * b.frames = length-take-le (2 * b.frames) out (omega arith) in
      any_output x (decoded r.voice) b.time_step (lanes_of b) b.signals (take (2 * b.frames) out) (replicate (2 * b.frames) positive_zero)
      (l ∙ sym (length-replicate (2 * b.frames) positive_zero))

  -- the output keeps its length
  part_long : length (block_outcome x r.voice b (take (2 * b.frames) out)).samples ≡ 2 * b.frames
  unfolding processed
  part_long = go (eqb k 0)
    where
      k : ℕ
      k = refused_block (length x) (decoded r.voice) b.time_step (lanes_of b) (eqb (length (take (2 * b.frames) out)) (2 * length (replicate b.frames b.rate)))

      heard : Played
      heard = block x b.time_step (rows (lanes_of b)) b.signals (decoded r.voice)

      go : (t : Bool) → length (cond t (accepted_with heard heard.samples) (refused_with k (decoded r.voice) (take (2 * b.frames) out))).samples ≡ 2 * b.frames
      go true = block_length x b.time_step (rows (lanes_of b)) b.signals (decoded r.voice)
          ∙ ap (λ (i : ℕ). 2 * i) (rows_long b.fade b.volume b.left b.right b.rate b.frames)
      go false = length-take-le (2 * b.frames) out (omega (arith, few_frames vs b refl, f.output))

  longer : 2048 ≤ length ((block_outcome x r.voice b (take (2 * b.frames) out)).samples ++ drop (2 * b.frames) out)
  longer =
      let l = (block_outcome x r.voice b (take (2 * b.frames) out)).samples in
      let g = f.output in
      omega (arith, length-append l (drop (2 * b.frames) out), length-drop (2 * b.frames) out, part_long)

  block_goes : Goes (block_step r n vs snd out) r n (below.after_block (replay_c r snd) vs)
  unfolding block_step block_c
  block_goes =
      let o = block_outcome x r.voice b (take (2 * b.frames) out) in
      record {
        done = refl;
        size = refl;
        line = line_is r n b.frames o.answer ∙ ap (line_of (more r.blocks) b.frames) same;
        replay = ap (λ (z : StaticSound). run (more r.blocks) z x) (block_means x r.voice b (take (2 * b.frames) out) ∙ ap (λ (p : BlockAnswer). p.voice) same);
        offset = refl;
        fit = record { reads = f.reads; alone = f.alone; inside = f.inside; room = f.room; output = longer };
      }

turn_goes : (r : CableowlReplay) (snd out : List Float) → Fit r snd out → (d : Record)
    → Goes (played_record r d snd out) r d.next (below.after (replay_c r snd) d.kind d.values)
unfolding played_record below.after
turn_goes r snd out f d = go (eqb d.kind 1) (eqb d.kind 2)
  where
    c : Replay
    c = replay_c r snd

    vs : List ℕ
    vs = d.values

    go : (p q : Bool)
        → Goes
        (cond p (record { answer = creation_c r d.next vs; sound = sets snd 0 (samples_of vs); samples = out })
        (cond q (record { answer = commands_c (take r.samples snd) r d.next vs; sound = snd; samples = out }) (block_step r d.next vs snd out)))
        r d.next (cond p (below.after_creation c vs) (cond q (below.after_commands c vs) (below.after_block c vs)))
    go true q = creation_goes r snd out f d.next vs
    go false true = commands_goes r snd out f d.next vs
    go false false = block_goes r snd out f d.next vs

-- ---- the whole trace

pub goes_on : (r : CableowlReplay) (snd out : List Float) (ended b : ℕ) (bs : List ℕ) → Fit r snd out
    → stepped_c r (b ∷ bs) ended snd out ≡ judged r ended (record_at (b ∷ bs) 0) snd out
unfolding stepped_c begun refused_step
goes_on r snd out ended b bs f =
    rw (
      eq-eqb r.reader 1 f.reads,
      eq-eqb r.given 0 f.alone,
      le-leb r.samples (length snd) f.inside,
      le-leb 128 (length snd) f.room,
      le-leb 2048 (length out) f.output,
    ) refl

-- the first line, and what is printed after it
abbrev onward_c : List ℕ → StepC → List ℕ
onward_c bs o =
    let a = o.answer in
    line_c a ++ cond (eqb a.what 0) (printed_c a.replay o.sound o.samples (a.size - 1) bs) []

abbrev onward_below : ℕ → List ℕ → below.Step → List ℕ
onward_below at bs s = s.line ++ cond s.over [] (printed s.replay (suc at) (s.size - 1) bs)

-- the same is printed for bytes, whatever the step that is not refused
abbrev Replays : List ℕ → Type 0
Replays bs =
    (k at : ℕ) (r : CableowlReplay) (snd out : List Float) → Fit r snd out → r.offset ≡ at + k
    → at + length bs ≤ 18446744073709551615
    → printed_c r snd out k bs ≡ printed (replay_c r snd) at k bs

-- a record that was played: its line, and the same after it
record_replays : (at : ℕ) (bs : List ℕ) (r : CableowlReplay) (o : StepC) (n : ℕ) (t : AfterRecord) → Goes o r n t → Replays bs
    → r.offset ≡ at → at + suc (length bs) ≤ 18446744073709551615 → 1 ≤ n → n ≤ suc (length bs)
    → onward_c bs o ≡ t.line ++ printed t.replay (suc at) (n - 1) bs
record_replays at bs r o n t g rest e l p q =
    let a = o.answer in
    let x : List ℕ = printed_c a.replay o.sound o.samples (a.size - 1) bs in
    let le : n ≤ 18446744073709551615 - at = omega arith in
    let on : onward at n ≡ at + n = rw (le-leb n (18446744073709551615 - at) le) refl in
    let z : a.replay.offset ≡ suc at + (n - 1) = omega (arith, g.offset, ap (λ (i : ℕ). onward i n) e, on, p) in
    ap (λ (y : List ℕ). y ++ cond (eqb a.what 0) x []) g.line
    ∙ ap (λ (y : ℕ). t.line ++ cond (eqb y 0) x []) g.done
    ∙ ap (λ (y : ℕ). t.line ++ printed_c a.replay o.sound o.samples (y - 1) bs) g.size
    ∙ ap (λ (y : List ℕ). t.line ++ y) (rest (n - 1) (suc at) a.replay o.sound o.samples g.fit z (omega arith))
    ∙ ap (λ (y : Replay). t.line ++ printed y (suc at) (n - 1) bs) g.replay

module _ (r : CableowlReplay) (snd out : List Float) (f : Fit r snd out) (at : ℕ) (bs : List ℕ) (d : Record) where
  abbrev turn_below : AfterRecord
  turn_below = below.after (replay_c r snd) d.kind d.values

  abbrev step_c : Bool → Bool → StepC
  step_c z w =
      cond z (played_record r d snd out)
      (record { answer = cond (w && false) (unplayed r 1 0) (unplayed r 3 d.refusal); sound = snd; samples = out })

  abbrev step_below : Bool → below.Step
  step_below z =
      cond z (record { replay = turn_below.replay; line = turn_below.line; size = d.next; over = false })
      (record { replay = replay_c r snd; line = refused_line d.refusal at; size = 0; over = true })

  judged_replays : Replays bs → r.offset ≡ at → at + suc (length bs) ≤ 18446744073709551615
      → ((below.judged (replay_c r snd) at d).over ≡ false → Sized (below.judged (replay_c r snd) at d) (suc (length bs)))
      → onward_c bs (judged r 1 d snd out) ≡ onward_below at bs (below.judged (replay_c r snd) at d)
  unfolding judged below.judged line_c
  judged_replays rest e l h = go (eqb d.refusal 0) (eqb d.refusal 18) h
    where
      refused_line_lem : refused_line d.refusal r.offset ++ [] ≡ refused_line d.refusal at ++ []
      refused_line_lem = ap (λ (i : ℕ). refused_line d.refusal i ++ []) e

      go : (z w : Bool) → ((step_below z).over ≡ false → Sized (step_below z) (suc (length bs)))
          → onward_c bs (step_c z w) ≡ onward_below at bs (step_below z)
      go true w i =
          let s = i refl in
          record_replays at bs r (played_record r d snd out) d.next turn_below (turn_goes r snd out f d) rest e l s.some s.few
      go false true i = refused_line_lem
      go false false i = refused_line_lem

small_rest : (b : ℕ) (bs : List ℕ) → Small (b ∷ bs) → Small bs
small_rest b bs s i = s (suc i)

replays : (bs : List ℕ) → Small bs → Replays bs
unfolding printed_c printed step_of
replays [] s k at r snd out f o l = refl
replays (b ∷ bs) s (suc k) at r snd out f o l =
    replays bs (small_rest b bs s) k (suc at) r snd out f (omega (arith, o)) (omega (arith, l))
replays (b ∷ bs) s zero at r snd out f o l =
    ap (onward_c bs) (goes_on r snd out 1 b bs f)
    ∙ judged_replays r snd out f at bs (record_at (b ∷ bs) 0) (replays bs (small_rest b bs s)) (omega (arith, o)) (omega (arith, l))
    (sized (replay_c r snd) at (b ∷ bs) s)

-- before any record
pub blank_fit : (snd out : List Float) → 128 ≤ length snd → 2048 ≤ length out → Fit blank_replay snd out
blank_fit snd out h k = record { reads = refl; alone = refl; inside = omega arith; room = h; output = k }

blank_means : (snd : List Float) → replay_c blank_replay snd ≡ below.blank
blank_means snd = ap (λ (v : StaticSound). run 0 v []) (decoded_encoded blank_sound)

pub archive_replays : ArchiveReplays
archive_replays snd out bs h =
    replays bs h.bytes 0 0 blank_replay snd out (blank_fit snd out h.sound h.output) refl (omega (arith, h.short))
    ∙ ap (λ (c : Replay). printed c 0 0 bs) (blank_means snd)

pub archive_three_frames : ThreeFramesC
archive_three_frames snd out h = archive_replays snd out _ h ∙ three_frames

pub archive_lines_alike : LinesAlikeC
archive_lines_alike snd1 out1 snd2 out2 bs cs h =
    archive_replays snd1 out1 bs h.first ∙ lines_alike bs cs h.same ∙ sym (archive_replays snd2 out2 cs h.second)

-- ---- the bytes in pieces of any size

none : {A : Type 0} → ⊥ → A
none e = elim e [ ]

-- the bytes of the current record are skipped
run_on : (r : CableowlReplay) (snd out : List Float) (k : ℕ) (bs : List ℕ) → printed_c r snd out k bs ≡ printed_c r snd out 0 (drop k bs)
unfolding printed_c
run_on r snd out zero bs = refl
run_on r snd out (suc k) [] = refl
run_on r snd out (suc k) (b ∷ bs) = run_on r snd out k bs

pub turned_size : (r : CableowlReplay) (d : Record) (snd out : List Float) → (played_record r d snd out).answer.size ≡ d.next
unfolding played_record creation_c commands_c block_step block_c
turned_size r d snd out = go (eqb d.kind 1) (eqb d.kind 2)
  where
    go : (p q : Bool)
        → (cond p (record { answer = creation_c r d.next d.values; sound = sets snd 0 (samples_of d.values); samples = out })
        (cond q (record { answer = commands_c (take r.samples snd) r d.next d.values; sound = snd; samples = out })
        (block_step r d.next d.values snd out))).answer.size ≡ d.next
    go true q = refl
    go false true = refl
    go false false = refl

abbrev firstly_c : List ℕ → StepC → List ℕ
firstly_c bs o =
    let a = o.answer in
    line_c a ++ cond (eqb a.what 0) (printed_c a.replay o.sound o.samples 0 (drop a.size bs)) []

-- a record that was read has bytes
some_bytes : (bs : List ℕ) → Small bs → (record_at bs 0).refusal ≡ 0 → 1 ≤ (record_at bs 0).next
unfolding below.judged
some_bytes bs s e =
    let d = record_at bs 0 in
    let z = sized below.blank 0 bs s (rw (eq-eqb d.refusal 0 e) refl) in
    let q : (below.judged below.blank 0 d).size ≡ d.next = rw (eq-eqb d.refusal 0 e) refl in
    omega (arith, z.some, q)

passed : (b : ℕ) (bs : List ℕ) (o : StepC) → 1 ≤ o.answer.size → onward_c bs o ≡ firstly_c (b ∷ bs) o
passed b bs o h =
    let a = o.answer in
    let q : suc (a.size - 1) ≡ a.size = omega (arith, h) in
    ap (λ (l : List ℕ). line_c a ++ cond (eqb a.what 0) l [])
    (run_on a.replay o.sound o.samples (a.size - 1) bs
    ∙ ap (λ (n : ℕ). printed_c a.replay o.sound o.samples 0 (drop n (b ∷ bs))) q)

-- for a result other than 1 the record decides, and not whether more bytes may come
any_end : (r : CableowlReplay) (ended : ℕ) (d : Record) (snd out : List Float) → ((judged r ended d snd out).answer.what ≡ 1 → ⊥)
    → judged r ended d snd out ≡ judged r 1 d snd out
unfolding judged
any_end r ended d snd out = go (eqb d.refusal 0) (eqb d.refusal 18) (eqb ended 0)
  where
    by : Bool → Bool → Bool → StepC
    by z w e =
        cond z (played_record r d snd out)
        (record { answer = cond (w && e) (unplayed r 1 0) (unplayed r 3 d.refusal); sound = snd; samples = out })

    go : (z w e : Bool) → ((by z w e).answer.what ≡ 1 → ⊥) → by z w e ≡ by z w false
    go true w e h = refl
    go false true true h = none (h refl)
    go false true false h = refl
    go false false e h = refl

-- a step that gets a record: the call is refused, or the record is checked
abbrev shown : CableowlReplay → Bool → ℕ → ℕ → List Float → List Float → Record → StepC
shown r z k ended snd out d = cond z (judged r ended d snd out) (record { answer = unplayed r 4 k; sound = snd; samples = out })

same_step : (r : CableowlReplay) (z : Bool) (k ended : ℕ) (snd out : List Float) (d : Record)
    → ((shown r z k ended snd out d).answer.what ≡ 1 → ⊥) → shown r z k ended snd out d ≡ shown r z k 1 snd out d
same_step r true k ended snd out d h = any_end r ended d snd out h
same_step r false k ended snd out d h = refl

-- the line of the step, then the rest
first_line : (r : CableowlReplay) (z : Bool) (k : ℕ) (snd out : List Float) (b : ℕ) (bs : List ℕ) → Small (b ∷ bs)
    → let o = shown r z k 1 snd out (record_at (b ∷ bs) 0) in onward_c bs o ≡ firstly_c (b ∷ bs) o
unfolding judged
first_line r false k snd out b bs s = refl
first_line r true k snd out b bs s = go (eqb d.refusal 0) refl (eqb d.refusal 18)
  where
    d : Record
    d = record_at (b ∷ bs) 0

    by : Bool → Bool → StepC
    by z w =
        cond z (played_record r d snd out)
        (record { answer = cond (w && false) (unplayed r 1 0) (unplayed r 3 d.refusal); sound = snd; samples = out })

    go : (z : Bool) → eqb d.refusal 0 ≡ z → (w : Bool) → onward_c bs (by z w) ≡ firstly_c (b ∷ bs) (by z w)
    go true e w =
        passed b bs (played_record r d snd out)
        (omega (arith, turned_size r d snd out, some_bytes (b ∷ bs) s (eqb-true d.refusal 0 e)))
    go false e true = refl
    go false e false = refl

-- if the end of the record is missing, the step asks for more bytes, or the call is refused
waits : (r : CableowlReplay) (ended : ℕ) (snd out : List Float) (d : Record) → d.refusal ≡ 18 → ended ≡ 0
    → (judged r ended d snd out).answer.what ≡ 1
unfolding judged
waits r ended snd out d h e = rw (h, e) refl

short_window : (r : CableowlReplay) (z : Bool) (k ended : ℕ) (snd out : List Float) (b : ℕ) (bs : List ℕ) (d e : Record)
    → e.refusal ≡ 18 → ended ≡ 0 → ((shown r z k ended snd out e).answer.what ≡ 1 → ⊥)
    → onward_c bs (shown r z k 1 snd out d) ≡ firstly_c (b ∷ bs) (shown r z k ended snd out e)
short_window r true k ended snd out b bs d e h i n = none (n (waits r ended snd out e h i))
short_window r false k ended snd out b bs d e h i n = refl

full_window : (r : CableowlReplay) (z : Bool) (k ended : ℕ) (snd out : List Float) (b : ℕ) (bs : List ℕ) (e : Record) → Small (b ∷ bs)
    → e ≡ record_at (b ∷ bs) 0 → ((shown r z k ended snd out e).answer.what ≡ 1 → ⊥)
    → onward_c bs (shown r z k 1 snd out (record_at (b ∷ bs) 0)) ≡ firstly_c (b ∷ bs) (shown r z k ended snd out e)
full_window r z k ended snd out b bs e s q n =
    let p = ap (shown r z k ended snd out) q in
    first_line r z k snd out b bs s
    ∙ ap (firstly_c (b ∷ bs)) (sym (p ∙ same_step r z k ended snd out (record_at (b ∷ bs) 0)
    (λ i. n (ap (λ (o : StepC). o.answer.what) p ∙ i))))

any_window : (r : CableowlReplay) (z : Bool) (k ended : ℕ) (snd out : List Float) (b : ℕ) (bs : List ℕ) (e : Record) → Small (b ∷ bs)
    → ((ended ≡ 0 → ⊥) → e ≡ record_at (b ∷ bs) 0) → Shown (record_at (b ∷ bs) 0) e
    → ((shown r z k ended snd out e).answer.what ≡ 1 → ⊥)
    → onward_c bs (shown r z k 1 snd out (record_at (b ∷ bs) 0)) ≡ firstly_c (b ∷ bs) (shown r z k ended snd out e)
any_window r z k ended snd out b bs e s a (whole q) n = full_window r z k ended snd out b bs e s q n
any_window r z k ended snd out b bs e s a (cut_off h) n = go (eqb ended 0) refl
  where
    go : (t : Bool) → eqb ended 0 ≡ t
        → onward_c bs (shown r z k 1 snd out (record_at (b ∷ bs) 0)) ≡ firstly_c (b ∷ bs) (shown r z k ended snd out e)
    go true q = short_window r z k ended snd out b bs (record_at (b ∷ bs) 0) e h (eqb-true ended 0 q) n
    go false q = full_window r z k ended snd out b bs e s (a (eqb-false ended 0 q)) n

-- a step without bytes
abbrev nothing_shown : CableowlReplay → ℕ → List Float → List Float → Bool → Bool → StepC
nothing_shown r k snd out z e =
    cond z (record { answer = cond e (unplayed r 1 0) (unplayed r 2 0); sound = snd; samples = out })
    (record { answer = unplayed r 4 k; sound = snd; samples = out })

differs : (m n : ℕ) → T (not (eqb m n)) → m ≡ n → ⊥
differs m n h e = subst (λ (b : Bool). T (not b)) (eq-eqb m n e) h

all_shown : (ended n w : ℕ) → T (eqb ended 0 || leb n w) → (ended ≡ 0 → ⊥) → n ≤ w
all_shown ended n w h e = leb→le n w (subst (λ (b : Bool). T (b || leb n w)) (ne_eqb ended 0 e) h)

pub archive_streams : StreamsC
unfolding stepped_c begun printed_c line_c
archive_streams r snd out ended w [] x = go w
  where
    k : ℕ
    k = refused_step r (length snd) (length out)

    by : (z e : Bool) → [] ≡ firstly_c [] (nothing_shown r k snd out z e)
    by true true = refl
    by true false = refl
    by false e = refl

    go : (n : ℕ) → [] ≡ firstly_c [] (stepped_c r (take n []) ended snd out)
    go zero = by (eqb k 0) (eqb ended 0)
    go (suc n) = by (eqb k 0) (eqb ended 0)
archive_streams r snd out ended zero (b ∷ bs) x = go (eqb k 0) (eqb ended 0) refl (differs _ 1 x.answers)
  where
    k : ℕ
    k = refused_step r (length snd) (length out)

    go : (z e : Bool) → eqb ended 0 ≡ e → ((nothing_shown r k snd out z e).answer.what ≡ 1 → ⊥)
        → onward_c bs (shown r z k 1 snd out (record_at (b ∷ bs) 0)) ≡ firstly_c (b ∷ bs) (nothing_shown r k snd out z e)
    go true true q h = none (h refl)
    go true false q h = none (let a = all_shown ended (suc (length bs)) 0 x.all (eqb-false ended 0 q) in omega arith)
    go false e q h = refl
archive_streams r snd out ended (suc w) (b ∷ bs) x =
    let k = refused_step r (length snd) (length out) in
    any_window r (eqb k 0) k ended snd out b bs (record_at (take (suc w) (b ∷ bs)) 0) x.bytes
    (λ h. ap (λ (l : List ℕ). record_at l 0) (take_all (suc w) (b ∷ bs) (all_shown ended (suc (length bs)) (suc w) x.all h)))
    (narrow (suc w) (b ∷ bs)) (differs _ 1 x.answers)

-- ---- a traced block cut in two

-- no bytes begin with a block
no_bytes : (vs : List ℕ) → BlockAt [] vs → ⊥
unfolding record_at valued read_record bodied steps step taken stands num head_rows
no_bytes vs e = let z : ◌≡◌ {A = ℕ} 18 0 = ap (λ (d : Record). d.refusal) e in omega (arith, z)

abbrev block_record : List ℕ → Record
block_record vs = record { refusal = 0; kind = 3; next = 42; values = vs }

module _ (r : CableowlReplay) (snd out : List Float) (f : Fit r snd out) (ended : ℕ) where
  step_is : (bs vs : List ℕ) → BlockAt bs vs → stepped_c r bs ended snd out ≡ played_record r (block_record vs) snd out
  unfolding judged
  step_is [] vs e = none (no_bytes vs e)
  step_is (b ∷ bs) vs e = goes_on r snd out ended b bs f ∙ ap (λ (d : Record). judged r ended d snd out) e

  step_goes : (bs vs : List ℕ) → BlockAt bs vs → Goes (stepped_c r bs ended snd out) r 42 (below.after (replay_c r snd) 3 vs)
  step_goes bs vs e = rw (step_is bs vs e) (turn_goes r snd out f (block_record vs))

  pub step_refusal : (bs vs : List ℕ) → BlockAt bs vs
      → (stepped_c r bs ended snd out).answer.refusal ≡ (answered (take r.samples snd) (decoded r.voice) (block_of vs)).refusal
  unfolding played_record block_step block_c
  step_refusal bs vs e =
      ap (λ (o : StepC). o.answer.refusal) (step_is bs vs e) ∙ ap (λ (p : BlockAnswer). p.refusal) (same r snd out f 42 vs)

lines_as : (i k m : ℕ) (a b c x y z : List ℕ) → a ≡ x → b ≡ y → c ≡ z → Lines i k m x y z → Lines i k m a b c
lines_as i k m a b c x y z e f g h = rw (e, f, g) h

pub archive_cut_records : CutRecordsC
archive_cut_records q snd out ended xs ys zs k m a v l r p t f s u i =
    let c = replay_c q snd in
    let one = block_numbers k a v l r p t f s u in
    let two = block_numbers m a v l r p t 0 0 0 in
    let o = stepped_c q ys ended snd out in
    let ga = step_goes q snd out i.fit ended xs (block_numbers (k + m) a v l r p t f s u) i.uncut in
    let g1 = step_goes q snd out i.fit ended ys one i.first in
    let g2 = step_goes o.answer.replay o.sound o.samples g1.fit ended zs two i.rest in
    lines_as q.blocks k m _ _ _ _ _ _ ga.line g1.line
    (g2.line ∙ ap (λ (d : Replay). (below.after d 3 two).line) g1.replay)
    (cut_records c k m a v l r p t f s u (record {
      few = i.few;
      accepted = sym (step_refusal q snd out i.fit ended xs _ i.uncut) ∙ i.accepted;
    }))
