-- The step of a replay (request #104; docs/formats/TRACE.md, "What is printed"): the next record of a trace, read and
-- played.
use Rattle.std.specs.Prelude.{ℕ, zero, suc, ◌+◌, ◌-◌, ◌*◌, Bool, true, false, cond, ◌&&◌, List, [], ◌∷◌, ◌++◌, eqb}
use Rattle.std.specs.Prelude.{ltb, leb, length, take, drop, replicate, Float}
use Rattle.std.proofs.lemmas.List.Edits.{sets}
use Rattle.sound_lanes.specs.Lanes.{Lanes, five}
use Rattle.sound_state.specs.Refusals.{unless}
use Rattle.sound_creation.specs.Creation.{blank_sound, created}
use Rattle.sound_commands.specs.Commands.{commanded}
use Rattle.sound_slow_path.specs.Plays.{BlockAnswer, Outcome}
use Rattle.static_sound.specs.Entries.{processed}
use Rattle.trace_records.specs.Records.{Record, record_at}
use Rattle.trace_inputs.specs.declared.Block.{Block}
use Rattle.trace_inputs.specs.Inputs.{settings_of, samples_of, commands_of, block_of}
use Rattle.c_state.specs.declared.CableowlState.{CableowlState}
use Rattle.c_state.specs.Records.{decoded, encoded}
use Rattle.cableowl.specs.declared.replays.CableowlReplay.{CableowlReplay}
use Rattle.cableowl.specs.declared.replays.CableowlReplayed.{CableowlReplayed}
use Rattle.cableowl.specs.Entries.{after}

-- ---- the replay's numbers

-- before any record: the blank voice, at the trace's first byte, read by reader 1
abbrev pub blank_replay : CableowlReplay
blank_replay = record { voice = encoded blank_sound; samples = 0; blocks = 0; offset = 0; reader = 1; given = 0 }

-- the same for any reader
abbrev pub blank_by : ℕ → CableowlReplay
blank_by n =
    let r = blank_replay in
    record {
      voice = r.voice;
      samples = r.samples;
      blocks = r.blocks;
      offset = r.offset;
      reader = n;
      given = r.given;
    }

-- one block more, up to the largest 64-bit number
abbrev pub more : ℕ → ℕ
more n = cond (ltb n 18446744073709551615) (n + 1) n

-- n bytes further, up to the largest 64-bit number
abbrev pub onward : ℕ → ℕ → ℕ
onward at n = cond (leb n (18446744073709551615 - at)) (at + n) 18446744073709551615

-- the replay after a record of n bytes
abbrev pub behind : CableowlReplay → ℕ → CableowlState → ℕ → ℕ → CableowlReplay
behind r n v samples blocks =
    record {
      voice = v;
      samples = samples;
      blocks = blocks;
      offset = onward r.offset n;
      reader = r.reader;
      given = r.given;
    }

-- ---- answers

-- 0: a record was played; its size, its kind, and the player's result
abbrev pub played_as : CableowlReplay → ℕ → ℕ → ℕ → ℕ → ℕ → ℕ → CableowlReplayed
played_as r size kind refusal frames steps lowest =
    record {
      replay = r;
      size = size;
      frames = frames;
      steps = steps;
      what = 0;
      kind = kind;
      refusal = refusal;
      lowest_count = lowest;
    }

-- nothing was played, for a reason: 1 more bytes are needed, 2 the trace has ended, 3 the record is refused, 4 the
-- call is
abbrev pub unplayed : CableowlReplay → ℕ → ℕ → CableowlReplayed
unplayed r what refusal =
    record {
      replay = r;
      size = 0;
      frames = 0;
      steps = 0;
      what = what;
      kind = 0;
      refusal = refusal;
      lowest_count = 4;
    }

-- the outcome of a step: its result, every sample of the buffer for the sound, and every sample of the output
pub record StepC : Type 0 where
  pub answer : CableowlReplayed
  pub sound : List Float
  pub samples : List Float

-- ---- the three kinds

-- a creation, accepted or refused; a refused one leads to the blank voice; the number of blocks does not change
unfoldable pub creation_c : CableowlReplay → ℕ → List ℕ → CableowlReplayed
creation_c r n vs =
    let c = created (samples_of vs) (settings_of vs) in
    played_as (behind r n (encoded c.voice) (length (samples_of vs)) r.blocks) n 1 c.refusal 0 0 4

-- a creation over these samples, for a record of kind k
unfoldable pub creation_over : List Float → ℕ → CableowlReplay → ℕ → List ℕ → CableowlReplayed
creation_over snd k r n vs =
    let c = created snd (settings_of vs) in
    let m = length snd in
    played_as (behind r n (encoded c.voice) m r.blocks) n k c.refusal 0 0 4

-- a command set over the voice's sound
unfoldable pub commands_c : List Float → CableowlReplay → ℕ → List ℕ → CableowlReplayed
commands_c snd r n vs =
    let c = commanded snd (decoded r.voice) (commands_of vs) in
    played_as (behind r n (after c.refusal c.voice r.voice) r.samples r.blocks) n 2 c.refusal 0 0 4

-- a block's lanes: every frame is the same
abbrev pub lanes_of : Block → Lanes
lanes_of b =
    five (replicate b.frames b.fade) (replicate b.frames b.volume) (replicate b.frames b.left)
    (replicate b.frames b.right) (replicate b.frames b.rate)

-- the player's outcome of a block
abbrev pub block_outcome : List Float → CableowlState → Block → List Float → Outcome
block_outcome snd v b out = processed snd (decoded v) b.time_step (lanes_of b) b.signals out

-- a block, accepted or refused, is counted
unfoldable pub block_c : CableowlReplay → ℕ → ℕ → BlockAnswer → CableowlReplayed
block_c r n frames p =
    played_as (behind r n (after p.refusal p.voice r.voice) r.samples (more r.blocks)) n 3
    p.refusal frames p.steps
    p.lowest_count

-- ---- a step

-- a block into the first samples of the output; the others do not change
unfoldable pub block_step : CableowlReplay → ℕ → List ℕ → List Float → List Float → StepC
block_step r n vs snd out =
    let b = block_of vs in
    let o = block_outcome (take r.samples snd) r.voice b (take (2 * b.frames) out) in
    record {
      answer = block_c r n b.frames o.answer;
      sound = snd;
      samples = o.samples ++ drop (2 * b.frames) out;
    }

-- one record, by its kind; a creation writes its sound to the start of the buffer for it
unfoldable pub played_record : CableowlReplay → Record → List Float → List Float → StepC
played_record r d snd out =
    let vs = d.values in
    cond (eqb d.kind 1)
    (record { answer = creation_c r d.next vs; sound = sets snd 0 (samples_of vs); samples = out })
    (cond (eqb d.kind 2)
    (record { answer = commands_c (take r.samples snd) r d.next vs; sound = snd; samples = out })
    (block_step r d.next vs snd out))

-- a complete record is played; if its end is missing, the step asks for more bytes as long as more may come; any
-- other refusal is final
unfoldable pub judged : CableowlReplay → ℕ → Record → List Float → List Float → StepC
judged r ended d snd out =
    cond (eqb d.refusal 0) (played_record r d snd out)
    (record {
      answer = cond (eqb d.refusal 18 && eqb ended 0) (unplayed r 1 0) (unplayed r 3 d.refusal);
      sound = snd;
      samples = out;
    })

-- the record that the bytes begin with; if there are none, the trace has ended or more may come
unfoldable pub begun : CableowlReplay → ℕ → List ℕ → List Float → List Float → StepC
begun r ended [] snd out = record {
  answer = cond (eqb ended 0) (unplayed r 1 0) (unplayed r 2 0);
  sound = snd;
  samples = out;
}
begun r ended (b ∷ bs) snd out = judged r ended (record_at (b ∷ bs) 0) snd out

-- the refusal of a call, 0 if it is accepted: 1 if the numbers are no replay over this buffer, 19 if a buffer is too
-- short
unfoldable pub refused_step : CableowlReplay → ℕ → ℕ → ℕ
refused_step r snd out =
    unless (eqb r.reader 1 && eqb r.given 0 && leb r.samples snd) 1
    (unless (leb 128 snd && leb 2048 out) 19 0)

unfoldable pub stepped_c : CableowlReplay → List ℕ → ℕ → List Float → List Float → StepC
stepped_c r bs ended snd out =
    let k = refused_step r (length snd) (length out) in
    cond (eqb k 0) (begun r ended bs snd out) (record { answer = unplayed r 4 k; sound = snd; samples = out })
