-- The archive's own replay. A caller that passes the bytes of a trace to `cableowl_replay_step`, step by step, and
-- prints the line of each result prints what the program `replay` prints. So each theorem on whole traces holds of
-- that entry.
use Rattle.std.specs.Prelude.{ℕ, zero, suc, ◌+◌, ◌-◌, ◌≤◌, ◌≡◌, cond, not, ◌||◌, List, [], ◌∷◌, ◌++◌, T, eqb, leb}
use Rattle.std.specs.Prelude.{length, take, drop, Float}
use Rattle.byte_layout.specs.Numbers.{Bytes}
use Rattle.trace_lines.specs.Lines.{block_line, refused_block_line, refused_line}
use Rattle.trace_records.specs.Records.{record_at}
use Rattle.trace_replay.specs.Runs.{replayed}
use Rattle.cableowl.specs.declared.replays.CableowlReplay.{CableowlReplay}
use Rattle.cableowl.specs.declared.replays.CableowlReplayed.{CableowlReplayed}
use Rattle.cableowl.specs.Replays.{blank_replay, stepped_c}
use Rattle.theorems_replay.specs.Cuts.{block_numbers, Lines}
use Rattle.theorems_replay.specs.Example.{bytes_of_three_frames, printed_line}
use Rattle.theorems_replay.specs.Lengths.{SameButForSamples}

-- ---- what a caller prints

-- the line of a block that was played, or of one that the player refused
unfoldable pub block_line_c : CableowlReplayed → List ℕ
block_line_c a =
    let r = a.replay in
    cond (eqb a.refusal 0) (block_line r.blocks a.frames a.steps r.voice.state r.voice.position)
    (refused_block_line r.blocks a.refusal)

-- the line of an answer: of a refused record or a block; otherwise nothing
unfoldable pub line_c : CableowlReplayed → List ℕ
line_c a =
    cond (eqb a.what 3) (refused_line a.refusal a.replay.offset) (cond (eqb a.kind 3) (block_line_c a) [])

-- everything that the steps print for a trace; k bytes of the current record are still left
unfoldable pub printed_c : CableowlReplay → List Float → List Float → ℕ → List ℕ → List ℕ
printed_c r snd out k [] = []
printed_c r snd out (suc k) (b ∷ bs) = printed_c r snd out k bs
printed_c r snd out zero (b ∷ bs) =
    let o = stepped_c r (b ∷ bs) 1 snd out in
    let a = o.answer in
    line_c a ++ cond (eqb a.what 0) (printed_c a.replay o.sound o.samples (a.size - 1) bs) []

-- ---- the whole trace

-- hypothesis: buffers long enough for a sound and for a block, and bytes whose offsets fit in 64 bits
pub record Lent (snd out : List Float) (bs : List ℕ) : Type 0 where
  pub sound : 128 ≤ length snd
  pub output : 2048 ≤ length out
  pub bytes : Bytes bs
  pub short : length bs ≤ 18446744073709551615

-- the steps of the entry print the whole run of trace_replay
abbrev pub ArchiveReplays : Type 0
ArchiveReplays =
    (snd out : List Float) (bs : List ℕ) → Lent snd out bs
    → printed_c blank_replay snd out 0 bs ≡ replayed bs

-- the rules' three-frame example
abbrev pub ThreeFramesC : Type 0
ThreeFramesC =
    (snd out : List Float) → Lent snd out bytes_of_three_frames
    → printed_c blank_replay snd out 0 bytes_of_three_frames ≡ printed_line

-- hypothesis: two traces, each with its own buffers, that differ only in the samples of their creations
pub record BothLent (snd1 out1 snd2 out2 : List Float) (bs cs : List ℕ) : Type 0 where
  pub first : Lent snd1 out1 bs
  pub second : Lent snd2 out2 cs
  pub same : SameButForSamples bs cs

abbrev pub LinesAlikeC : Type 0
LinesAlikeC =
    (snd1 out1 snd2 out2 : List Float) (bs cs : List ℕ) → BothLent snd1 out1 snd2 out2 bs cs
    → printed_c blank_replay snd1 out1 0 bs ≡ printed_c blank_replay snd2 out2 0 cs

-- ---- the bytes in pieces of any size

-- hypothesis: a step gets the first w of the bytes, or all of them if it is called with `ended`; and its result is not
-- 1 (more bytes are needed)
pub record WindowC (r : CableowlReplay) (snd out : List Float) (ended w : ℕ) (bs : List ℕ) : Type 0 where
  pub bytes : Bytes bs
  pub all : T (eqb ended 0 || leb (length bs) w)
  pub answers : T (not (eqb (stepped_c r (take w bs) ended snd out).answer.what 1))

-- the line of the step that gets these bytes, then what is printed for the bytes after its record
abbrev pub StreamsC : Type 0
StreamsC =
    (r : CableowlReplay) (snd out : List Float) (ended w : ℕ) (bs : List ℕ) → WindowC r snd out ended w bs
    → let o = stepped_c r (take w bs) ended snd out in
    let a = o.answer in
    printed_c r snd out 0 bs
    ≡ line_c a ++ cond (eqb a.what 0) (printed_c a.replay o.sound o.samples 0 (drop a.size bs)) []

-- ---- a traced block cut in two

-- a step that is not refused
pub record Fit (r : CableowlReplay) (snd out : List Float) : Type 0 where
  pub reads : r.reader ≡ 1
  pub alone : r.given ≡ 0
  pub inside : r.samples ≤ length snd
  pub room : 128 ≤ length snd
  pub output : 2048 ≤ length out

-- bytes that begin with a block record of these numbers
abbrev pub BlockAt : List ℕ → List ℕ → Type 0
BlockAt bs vs = record_at bs 0 ≡ record { refusal = 0; kind = 3; next = 42; values = vs }

-- hypothesis: an accepted block, and the bytes of its record and of the records of its two parts
pub record MayCutStep (q : CableowlReplay) (snd out : List Float) (ended : ℕ) (xs ys zs : List ℕ)
    (k m a v l r p t f s u : ℕ) : Type 0 where
  pub fit : Fit q snd out
  pub few : k + m ≤ 1024
  pub uncut : BlockAt xs (block_numbers (k + m) a v l r p t f s u)
  pub first : BlockAt ys (block_numbers k a v l r p t f s u)
  pub rest : BlockAt zs (block_numbers m a v l r p t 0 0 0)
  pub accepted : (stepped_c q xs ended snd out).answer.refusal ≡ 0

abbrev pub CutRecordsC : Type 0
CutRecordsC =
    (q : CableowlReplay) (snd out : List Float) (ended : ℕ) (xs ys zs : List ℕ) (k m a v l r p t f s u : ℕ)
    → MayCutStep q snd out ended xs ys zs k m a v l r p t f s u
    → let uncut = stepped_c q xs ended snd out in
    let first = stepped_c q ys ended snd out in
    let rest = stepped_c first.answer.replay zs ended first.sound first.samples in
    Lines q.blocks k m (line_c uncut.answer) (line_c first.answer) (line_c rest.answer)
