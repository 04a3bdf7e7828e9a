-- The replay of a trace: docs/formats/TRACE.md, "What is printed". The whole run is a function of the bytes.
use Rattle.std.specs.Prelude.{ℕ, zero, suc, ◌+◌, ◌-◌, ◌*◌, Bool, true, false, cond, List, [], ◌∷◌, ◌++◌, eqb, ltb}
use Rattle.std.specs.Prelude.{take, replicate, Float, unwrap_or, is_none}
use Rattle.numbers.specs.Words.{positive_zero}
use Rattle.playback_state_manager.specs.States.{number}
use Rattle.sound_lanes.specs.Lanes.{Lanes, five}
use Rattle.sound_state.specs.declared.StaticSound.{StaticSound}
use Rattle.sound_creation.specs.Creation.{blank_sound, created}
use Rattle.sound_commands.specs.Commands.{commanded}
use Rattle.sound_slow_path.specs.Plays.{BlockAnswer}
use Rattle.static_sound.specs.Entries.{processed}
use Rattle.trace_inputs.specs.declared.Block.{Block}
use Rattle.trace_inputs.specs.Inputs.{settings_of, samples_of, commands_of, block_of}
use Rattle.trace_lines.specs.Lines.{block_line, refused_block_line, refused_line}
use Rattle.trace_records.specs.Records.{Record, record_at}
use Rattle.trace_replay.specs.declared.Run.{Run}
use Rattle.trace_replay.specs.declared.Advanced.{Advanced}

-- the run so far: the voice, its sound, the blocks counted
pub record Replay : Type 0 where
  pub voice : StaticSound
  pub sound : List Float
  pub blocks : ℕ

-- before any record
abbrev pub blank : Replay
blank = record { voice = blank_sound; sound = []; blocks = 0 }

-- the run's state in the code, and the sound's samples
abbrev pub replay_of : Run → List Float → Replay
replay_of r snd = record { voice = r.voice; sound = take r.samples snd; blocks = r.blocks }

-- one block more, up to the largest 64-bit number
abbrev pub more : ℕ → ℕ
more n = cond (ltb n 18446744073709551615) (n + 1) n

-- a block's lanes: every frame is the same
abbrev pub lanes_of : Block → Lanes
lanes_of b = five (replicate b.frames b.fade) (replicate b.frames b.volume)
    (replicate b.frames b.left) (replicate b.frames b.right) (replicate b.frames b.rate)

-- the player's result for a block
unfoldable pub answered : List Float → StaticSound → Block → BlockAnswer
answered snd v b = (processed snd v b.time_step (lanes_of b) b.signals
    (replicate (2 * b.frames) positive_zero)).answer

-- the line of a block, from its number, its frames and the player's result
unfoldable pub line_of : ℕ → ℕ → BlockAnswer → List ℕ
line_of k n p = cond (eqb p.refusal 0)
    (block_line k n p.steps (number p.voice.moving.state)
    p.voice.moving.transport.position) (refused_block_line k p.refusal)

-- the end of a record: the run after it, and its line
pub record AfterRecord : Type 0 where
  pub replay : Replay
  pub line : List ℕ

-- a creation, accepted or refused; a refused one leads to the blank voice
abbrev pub after_creation : Replay → List ℕ → AfterRecord
after_creation c vs = record {
  replay = record {
    voice = (created (samples_of vs) (settings_of vs)).voice;
    sound = samples_of vs;
    blocks = c.blocks;
  };
  line = [];
}

-- a command set, accepted or refused
abbrev pub after_commands : Replay → List ℕ → AfterRecord
after_commands c vs = record {
  replay = record {
    voice = (commanded c.sound c.voice (commands_of vs)).voice;
    sound = c.sound;
    blocks = c.blocks;
  };
  line = [];
}

-- a block, accepted or refused, is counted
abbrev pub after_block : Replay → List ℕ → AfterRecord
after_block c vs =
    let p = answered c.sound c.voice (block_of vs) in
    record {
      replay = record { voice = p.voice; sound = c.sound; blocks = more c.blocks };
      line = line_of (more c.blocks) (block_of vs).frames p;
    }

-- one record, by its kind
unfoldable pub after : Replay → ℕ → List ℕ → AfterRecord
after c k vs = cond (eqb k 1) (after_creation c vs) (cond (eqb k 2) (after_commands c vs) (after_block c vs))

-- the record at the beginning of the bytes, at the offset `at`: the run after it, its line, its bytes, and whether
-- the run is over
pub record Step : Type 0 where
  pub replay : Replay
  pub line : List ℕ
  pub size : ℕ
  pub over : Bool

-- a record that was read there: it is played; a refused one ends the run
unfoldable pub judged : Replay → ℕ → Record → Step
judged c at r =
    let t = after c r.kind r.values in
    cond (eqb r.refusal 0)
    (record { replay = t.replay; line = t.line; size = r.next; over = false })
    (record { replay = c; line = refused_line r.refusal at; size = 0; over = true })

-- at the end the run is over, and nothing is printed
unfoldable pub step_of : Replay → ℕ → List ℕ → Step
step_of c at [] = record { replay = c; line = []; size = 0; over = true }
step_of c at (b ∷ bs) = judged c at (record_at (b ∷ bs) 0)

-- the code's result for a record that it read at `at`, with the sound and the line
abbrev pub advanced_of : Advanced → ℕ → List Float → List ℕ → Step
advanced_of r at snd line = record {
  replay = replay_of r.run snd;
  line = take r.written line;
  size = unwrap_or r.next at - at;
  over = is_none r.next;
}

-- everything that is printed from the offset `at` on, with k bytes of the current record left: each record's line,
-- until the run is over
unfoldable pub printed : Replay → ℕ → ℕ → List ℕ → List ℕ
printed c at k [] = []
printed c at (suc k) (b ∷ bs) = printed c (suc at) k bs
printed c at zero (b ∷ bs) =
    let s = step_of c at (b ∷ bs) in
    s.line ++ cond s.over [] (printed s.replay (suc at) (s.size - 1) bs)

-- the whole run
abbrev pub replayed : List ℕ → List ℕ
replayed bs = printed blank 0 0 bs
