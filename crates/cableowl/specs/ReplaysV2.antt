-- The step of a replay for trace version 2 (docs/formats/TRACE.md, "Version 2"): the next record of any of the five
-- kinds, read and played. Kinds 1 to 3 are played as specs/Replays.antt says.
use Rattle.std.specs.Prelude.{ℕ, ◌*◌, Bool, cond, not, ◌&&◌, ◌||◌, List, [], ◌∷◌, ◌++◌, eqb, leb, length, take, drop}
use Rattle.std.specs.Prelude.{Float}
use Rattle.std.proofs.lemmas.List.Edits.{sets}
use Rattle.sound_lanes.specs.Lanes.{Lanes, five}
use Rattle.sound_state.specs.declared.StaticSound.{StaticSound}
use Rattle.sound_state.specs.Refusals.{unless}
use Rattle.sound_creation.specs.Creation.{blank_sound, created}
use Rattle.sound_slow_path.specs.Plays.{Outcome}
use Rattle.static_sound.specs.Entries.{processed}
use Rattle.trace_records.specs.Records.{Record}
use Rattle.trace_sealed.specs.Records.{any_at}
use Rattle.trace_inputs.specs.declared.LanedBlock.{LanedBlock}
use Rattle.trace_inputs.specs.Inputs.{settings_of, samples_of, given_frames, given_samples, laned_block_of, singles}
use Rattle.trace_inputs.specs.Inputs.{doubles}
use Rattle.c_state.specs.Records.{decoded, encoded}
use Rattle.cableowl.specs.declared.replays.CableowlReplay.{CableowlReplay}
use Rattle.cableowl.specs.declared.replays.CableowlReplayed.{CableowlReplayed}
use Rattle.cableowl.specs.Replays.{
  behind,
  played_as,
  unplayed,
  StepC,
  creation_c,
  commands_c,
  block_c,
  block_step,
  judged,
  begun,
}

-- before any record: as for version 1, but read by reader 2
abbrev pub blank_replay_v2 : CableowlReplay
blank_replay_v2 = record { voice = encoded blank_sound; samples = 0; blocks = 0; offset = 0; reader = 2; given = 0 }

-- ---- the voice's sound

-- the replay whose voice plays the recorded sound, 0, or the given one, 1
abbrev pub playing : ℕ → CableowlReplay → CableowlReplay
playing k r =
    record {
      voice = r.voice;
      samples = r.samples;
      blocks = r.blocks;
      offset = r.offset;
      reader = r.reader;
      given = k;
    }

-- the buffer that begins with the voice's sound
abbrev pub buffer_of : CableowlReplay → List Float → List Float → List Float
buffer_of r snd given = cond (eqb r.given 0) snd given

-- ---- kind 4, a creation over a given sound

-- sounds are given and none is the recorded one. `sounds` is 0 if none is given and 1 if this one, of `len` samples,
-- has the recorded digest
abbrev pub other_sound : ℕ → ℕ → List ℕ → Bool
other_sound sounds len vs = not (eqb sounds 0) && not (eqb sounds 1 && eqb len (2 * given_frames vs))

-- such a creation leads to the blank voice, without a sound
abbrev pub refused_given : CableowlReplay → ℕ → CableowlReplayed
refused_given r n = played_as (behind (playing 1 r) n (encoded blank_sound) 0 r.blocks) n 4 26 0 0 4

-- 26 comes first; otherwise it is a creation over the recorded number of samples of the given sound
unfoldable pub given_c : List Float → ℕ → CableowlReplay → ℕ → List ℕ → CableowlReplayed
given_c given sounds r n vs =
    let m = given_samples vs in
    let c = created (take m given) (settings_of vs) in
    cond (other_sound sounds (length given) vs)
    (refused_given r n)
    (played_as (behind (playing 1 r) n (encoded c.voice) m r.blocks) n 4 c.refusal 0 0 4)

-- ---- kind 5, a laned block

-- its lanes: the frames begin at the record's byte 18
abbrev pub lanes_in : ℕ → List ℕ → Lanes
lanes_in n bs =
    five (singles n (drop 18 bs)) (singles n (drop 22 bs)) (singles n (drop 26 bs)) (singles n (drop 30 bs))
    (doubles n (drop 34 bs))

-- the player's outcome
abbrev pub laned_outcome : List Float → StaticSound → LanedBlock → List ℕ → List Float → Outcome
laned_outcome snd v b bs out = processed snd v b.time_step (lanes_in b.frames bs) b.signals out

-- the same answer, for a record of another kind
abbrev pub of_kind : ℕ → CableowlReplayed → CableowlReplayed
of_kind k a =
    played_as a.replay a.size k a.refusal a.frames a.steps a.lowest_count

-- a block into the first samples of the output, as for a block of equal frames
unfoldable pub laned_step : CableowlReplay → ℕ → List ℕ → List ℕ → List Float → List Float → StepC
laned_step r n vs bs snd out =
    let b = laned_block_of vs in
    let o = laned_outcome (take r.samples snd) (decoded r.voice) b bs (take (2 * b.frames) out) in
    record {
      answer = of_kind 5 (block_c r n b.frames o.answer);
      sound = snd;
      samples = o.samples ++ drop (2 * b.frames) out;
    }

-- ---- a step

-- a command set or a block, over the buffer that begins with the voice's sound
unfoldable pub obeyed : CableowlReplay → Record → List ℕ → List Float → List Float → StepC
obeyed r d bs snd out =
    let n = d.next in
    let vs = d.values in
    cond (eqb d.kind 2)
    (record { answer = commands_c (take r.samples snd) r n vs; sound = snd; samples = out })
    (cond (eqb d.kind 5) (laned_step r n vs bs snd out) (block_step r n vs snd out))

-- one record, by its kind; only a creation with its samples writes to the buffer for them
unfoldable pub played_record_v2 : CableowlReplay → Record → List ℕ → List Float → List Float → ℕ → List Float → StepC
played_record_v2 r d bs snd given sounds out =
    let n = d.next in
    let vs = d.values in
    let o = obeyed r d bs (buffer_of r snd given) out in
    cond (eqb d.kind 1)
    (record { answer = creation_c (playing 0 r) n vs; sound = sets snd 0 (samples_of vs); samples = out })
    (cond (eqb d.kind 4)
    (record { answer = given_c given sounds r n vs; sound = snd; samples = out })
    (record { answer = o.answer; sound = snd; samples = o.samples }))

-- the refusal of a call whose given buffer is too short for the record, 0 if it is not: 19 for a creation when no sound
-- is given, 1 for a voice that plays the given sound
unfoldable pub lacking : CableowlReplay → Record → ℕ → ℕ → ℕ
lacking r d sounds len =
    cond (eqb d.kind 4)
    (unless (not (eqb sounds 0) || leb (given_samples d.values) len) 19 0)
    (unless (eqb d.kind 1 || eqb r.given 0 || leb r.samples len) 1 0)

-- a complete record is played; for any other the answer is that of version 1
unfoldable pub judged_v2 :
    CableowlReplay → ℕ → Record → List ℕ → List Float → List Float → ℕ → List Float → StepC
judged_v2 r ended d bs snd given sounds out =
    let k = lacking r d sounds (length given) in
    cond (eqb d.refusal 0)
    (cond (eqb k 0) (played_record_v2 r d bs snd given sounds out)
    (record { answer = unplayed r 4 k; sound = snd; samples = out }))
    (judged r ended d snd out)

-- the record that the bytes begin with; if there are none, the answer is that of version 1
unfoldable pub begun_v2 : CableowlReplay → ℕ → List ℕ → List Float → List Float → ℕ → List Float → StepC
begun_v2 r ended [] snd given sounds out = begun r ended [] snd out
begun_v2 r ended (b ∷ bs) snd given sounds out = judged_v2 r ended (any_at (b ∷ bs) 0) (b ∷ bs) snd given sounds out

-- the refusal of a call, 0 if it is accepted: 1 if the numbers are no replay of version 2 over this buffer, 19 if a
-- buffer is too short
unfoldable pub refused_step_v2 : CableowlReplay → ℕ → ℕ → ℕ
refused_step_v2 r snd out =
    unless (eqb r.reader 2 && leb r.given 1 && (eqb r.given 1 || leb r.samples snd)) 1
    (unless (leb 128 snd && leb 2048 out) 19 0)

unfoldable pub stepped_v2 : CableowlReplay → List ℕ → ℕ → List Float → List Float → ℕ → List Float → StepC
stepped_v2 r bs ended snd given sounds out =
    let k = refused_step_v2 r (length snd) (length out) in
    cond (eqb k 0) (begun_v2 r ended bs snd given sounds out)
    (record { answer = unplayed r 4 k; sound = snd; samples = out })
