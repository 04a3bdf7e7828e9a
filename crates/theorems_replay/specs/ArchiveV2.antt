-- The archive's replay of version 2. For kinds 1 to 3 its steps are those of version 1, so a trace of these kinds
-- prints the same. With two given sounds of equal length the results differ only in samples, so the lines of a trace
-- depend on a given sound only through its frame count.
use Rattle.std.specs.Prelude.{ℕ, zero, suc, ◌+◌, ◌-◌, ◌*◌, ◌≤◌, ◌≡◌, Bool, true, false, cond, not, ◌&&◌, ◌||◌, List}
use Rattle.std.specs.Prelude.{[], ◌∷◌, ◌++◌, eqb, take, drop, Float}
use Rattle.byte_layout.specs.Numbers.{Bytes}
use Rattle.trace_lines.specs.Lines.{labelled, at·is, refused_line}
use Rattle.trace_records.specs.Records.{record_at}
use Rattle.trace_sealed.specs.Records.{is_sealed}
use Rattle.trace_replay.specs.Runs.{replayed}
use Rattle.trace_inputs.specs.declared.LanedBlock.{LanedBlock}
use Rattle.sound_state.specs.declared.StaticSound.{StaticSound}
use Rattle.sound_block.specs.declared.Signals.{Signals}
use Rattle.sound_block.specs.Blocks.{quiet}
use Rattle.theorems.specs.Cut.{CutInTwo}
use Rattle.cableowl.specs.declared.replays.CableowlReplay.{CableowlReplay}
use Rattle.cableowl.specs.declared.replays.CableowlReplayed.{CableowlReplayed}
use Rattle.cableowl.specs.Replays.{StepC, stepped_c}
use Rattle.cableowl.specs.ReplaysV2.{blank_replay_v2, laned_outcome, stepped_v2}
use Rattle.theorems_sound_length.specs.Lengths.{SameLength}
use Rattle.theorems_sound_length.specs.Archive.{muted_state}
use Rattle.theorems_replay.specs.Archive.{block_line_c, Lent}

-- ---- kinds 1 to 3

-- the same numbers for another reader, over the recorded sound
abbrev pub of_reader : ℕ → CableowlReplay → CableowlReplay
of_reader k r =
    record {
      voice = r.voice;
      samples = r.samples;
      blocks = r.blocks;
      offset = r.offset;
      reader = k;
      given = 0;
    }

abbrev pub answer_of_reader : ℕ → CableowlReplayed → CableowlReplayed
answer_of_reader k a =
    record {
      replay = of_reader k a.replay;
      size = a.size;
      frames = a.frames;
      steps = a.steps;
      what = a.what;
      kind = a.kind;
      refusal = a.refusal;
      lowest_count = a.lowest_count;
    }

abbrev pub step_of_reader : ℕ → StepC → StepC
step_of_reader k o = record { answer = answer_of_reader k o.answer; sound = o.sound; samples = o.samples }

-- hypothesis: bytes that do not begin with a record of kind 4 or 5
pub record Unsealed (bs : List ℕ) : Type 0 where
  pub bytes : Bytes bs
  pub old : is_sealed bs ≡ false

-- a step of version 2 is the step of version 1, whatever sound is given
abbrev pub AsVersion1 : Type 0
AsVersion1 =
    (r : CableowlReplay) (bs : List ℕ) (ended : ℕ) (snd given : List Float) (sounds : ℕ) (out : List Float)
    → Unsealed bs
    → stepped_v2 (of_reader 2 r) bs ended snd given sounds out
    ≡ step_of_reader 2 (stepped_c (of_reader 1 r) bs ended snd out)

-- ---- what a caller prints

-- what a host passes for creations over a given sound: the samples, and what they are
pub record Offer : Type 0 where
  pub samples : List Float
  pub sounds : ℕ

-- `creation=26 at=70`
unfoldable pub creation_line : ℕ → ℕ → List ℕ
creation_line refusal at =
    labelled (99 ∷ 114 ∷ 101 ∷ 97 ∷ 116 ∷ 105 ∷ 111 ∷ 110 ∷ 61 ∷ []) refusal ++ (labelled at·is at ++ (10 ∷ []))

-- the line of an answer: of a refused record, of a block of either kind, of a creation whose sound is not given; the
-- offset is that of the record's first byte
unfoldable pub line_v2 : CableowlReplayed → List ℕ
line_v2 a =
    cond (eqb a.what 3) (refused_line a.refusal a.replay.offset)
    (cond (eqb a.kind 3 || eqb a.kind 5) (block_line_c a)
    (cond (eqb a.kind 4 && eqb a.refusal 26) (creation_line 26 (a.replay.offset - a.size)) []))

-- everything that the steps print for a trace. The host offers a sound at each offset; k bytes of the current record
-- are still left
unfoldable pub printed_v2 : (ℕ → Offer) → CableowlReplay → List Float → List Float → ℕ → List ℕ → List ℕ
printed_v2 host r snd out k [] = []
printed_v2 host r snd out (suc k) (b ∷ bs) = printed_v2 host r snd out k bs
printed_v2 host r snd out zero (b ∷ bs) =
    let g = host r.offset in
    let o = stepped_v2 r (b ∷ bs) 1 snd g.samples g.sounds out in
    let a = o.answer in
    line_v2 a ++ cond (eqb a.what 0) (printed_v2 host a.replay o.sound o.samples (a.size - 1) bs) []

-- no record of kind 4 or 5 begins where reader 1 reads one; k bytes of the current record are still left
unfoldable pub is_version1 : ℕ → List ℕ → Bool
is_version1 k [] = true
is_version1 (suc k) (b ∷ bs) = is_version1 k bs
is_version1 zero (b ∷ bs) =
    let d = record_at (b ∷ bs) 0 in
    not (is_sealed (b ∷ bs)) && cond (eqb d.refusal 0) (is_version1 (d.next - 1) bs) true

-- hypothesis about a whole trace
pub record OfVersion1 (snd out : List Float) (bs : List ℕ) : Type 0 where
  pub lent : Lent snd out bs
  pub kinds : is_version1 0 bs ≡ true

-- such a trace prints what it prints in version 1
abbrev pub ArchiveReplaysV2 : Type 0
ArchiveReplaysV2 =
    (host : ℕ → Offer) (snd out : List Float) (bs : List ℕ) → OfVersion1 snd out bs
    → printed_v2 host blank_replay_v2 snd out 0 bs ≡ replayed bs

-- ---- two given sounds of equal length

abbrev pub muted_replay : CableowlReplay → CableowlReplay
muted_replay r =
    record {
      voice = muted_state r.voice;
      samples = r.samples;
      blocks = r.blocks;
      offset = r.offset;
      reader = r.reader;
      given = r.given;
    }

abbrev pub muted_replayed : CableowlReplayed → CableowlReplayed
muted_replayed a =
    record {
      replay = muted_replay a.replay;
      size = a.size;
      frames = a.frames;
      steps = a.steps;
      what = a.what;
      kind = a.kind;
      refusal = a.refusal;
      lowest_count = a.lowest_count;
    }

-- hypothesis: replays that differ only in samples of their voices' windows, and buffers of equal lengths
pub record OtherGiven (r q : CableowlReplay) (snd tnd mine theirs out into : List Float) : Type 0 where
  pub replays : muted_replay r ≡ muted_replay q
  pub sound : SameLength snd tnd
  pub given : SameLength mine theirs
  pub output : SameLength out into

abbrev pub StepsAlike : Type 0
StepsAlike =
    (r q : CableowlReplay) (bs : List ℕ) (ended sounds : ℕ) (snd tnd given other out into : List Float)
    → OtherGiven r q snd tnd given other out into
    → muted_replayed (stepped_v2 r bs ended snd given sounds out).answer
    ≡ muted_replayed (stepped_v2 q bs ended tnd other sounds into).answer

-- hypothesis about two hosts: their offers differ only in samples, and their buffers have equal lengths
pub record OtherHost (host other : ℕ → Offer) (snd tnd out into : List Float) : Type 0 where
  pub sounds : (at : ℕ) → (host at).sounds ≡ (other at).sounds
  pub given : (at : ℕ) → SameLength (host at).samples (other at).samples
  pub sound : SameLength snd tnd
  pub output : SameLength out into

abbrev pub LinesAlikeV2 : Type 0
LinesAlikeV2 =
    (host other : ℕ → Offer) (snd tnd out into : List Float) (bs : List ℕ) → OtherHost host other snd tnd out into
    → printed_v2 host blank_replay_v2 snd out 0 bs ≡ printed_v2 other blank_replay_v2 tnd into 0 bs

-- ---- a stream of bytes

-- hypothesis: as many bytes as the longest record has
abbrev pub WideV2 : ℕ → Type 0
WideV2 w = 24598 ≤ w

-- a step that gets the first w bytes of a stream does the same as with all of them
abbrev pub StreamsV2 : Type 0
StreamsV2 =
    (r : CableowlReplay) (bs : List ℕ) (ended w : ℕ) (snd given : List Float) (sounds : ℕ) (out : List Float)
    → WideV2 w
    → stepped_v2 r (take w bs) ended snd given sounds out ≡ stepped_v2 r bs ended snd given sounds out

-- ---- a laned block cut in two

-- a part of it: this many frames, with these signals
abbrev pub part_of : LanedBlock → ℕ → Signals → LanedBlock
part_of b n g = record { frames = n; time_step = b.time_step; signals = g }

-- hypothesis: an accepted block of k + m frames, whose frames begin at byte 18 of xs; and the bytes of two records, ys
-- with its first k frames, zs with the others
pub record MayCutLanes (snd : List Float) (v : StaticSound) (b : LanedBlock) (xs ys zs : List ℕ) (out : List Float)
    (k m : ℕ) : Type 0 where
  pub accepted : (laned_outcome snd v (part_of b (k + m) b.signals) xs out).answer.refusal ≡ 0
  pub first : take (24 * k) (drop 18 ys) ≡ take (24 * k) (drop 18 xs)
  pub rest : take (24 * m) (drop 18 zs) ≡ take (24 * m) (drop (18 + 24 * k) xs)

-- the first part gets the signals; samples and states are those of the block, as Cut (crates/theorems) says
abbrev pub CutLanes : Type 0
CutLanes =
    (snd : List Float) (v : StaticSound) (b : LanedBlock) (xs ys zs : List ℕ) (out : List Float) (k m : ℕ)
    → MayCutLanes snd v b xs ys zs out k m
    → let first = laned_outcome snd v (part_of b k b.signals) ys (take (2 * k) out) in
    let part = part_of b m (quiet b.signals) in
    CutInTwo (laned_outcome snd v (part_of b (k + m) b.signals) xs out) first
    (laned_outcome snd first.answer.voice part zs (drop (2 * k) out))
