-- Calls of two halls and of any number of voices in one sequence, in the host's order, and their results. Each call
-- is the entry's own definition; all voices have the same sound.
use Rattle.std.specs.Prelude.{ℕ, Bool, cond, List, [], ◌∷◌, eqb, Float}
use Rattle.sound_lanes.specs.Lanes.{Lanes}
use Rattle.sound_state.specs.declared.StaticSound.{StaticSound}
use Rattle.sound_creation.specs.declared.Settings.{Settings}
use Rattle.sound_creation.specs.Creation.{Created, created}
use Rattle.sound_commands.specs.declared.Commands.{Commands}
use Rattle.sound_commands.specs.Commands.{CommandsAnswer, commanded}
use Rattle.sound_block.specs.declared.Signals.{Signals}
use Rattle.sound_slow_path.specs.Plays.{Outcome}
use Rattle.static_sound.specs.Entries.{processed, processed_into}
use Rattle.loop_table.specs.declared.Hall.{Hall}
use Rattle.loop_table.specs.declared.LoopTable.{LoopTable}
use Rattle.loop_table.specs.Tables.{LoopFound, written, cleared, found}
use Rattle.take_loop.specs.Taking.{taken}

-- a hall's call of the table
pub data Call : Type 0 where
  -- slot, start, end
  Write : ℕ → ℕ → ℕ → Call
  Clear : ℕ → Call
  Read : ℕ → Call

-- a voice's call
pub data Play : Type 0 where
  New : Settings → Play
  -- the loop of a slot
  Take : ℕ → Play
  Command : Commands → Play
  -- time step, lanes, signals and the output's samples; in a mix, from a frame
  Block : Float → Lanes → Signals → List Float → Play
  Mix : Float → Lanes → Signals → List Float → ℕ → Play

-- one call, of a hall or of the voice with that number
pub data Event : Type 0 where
  ByHall : Hall → Call → Event
  ByVoice : ℕ → Play → Event

-- a result: the number of a write or clear, a loop, or the outcome of a voice's call
pub data Answer : Type 0 where
  Numbered : ℕ → Answer
  Looked : LoopFound → Answer
  Made : Created → Answer
  Obeyed : CommandsAnswer → Answer
  Played : Outcome → Answer

pub record World : Type 0 where
  pub table : LoopTable
  pub voices : ℕ → StaticSound

-- ---- one call

abbrev pub hall_answer : LoopTable → Hall → Call → Answer
hall_answer t h (Write k s e) = Numbered (written t h k s e).refusal
hall_answer t h (Clear k) = Numbered (cleared t h k).refusal
hall_answer t h (Read k) = Looked (found t k)

abbrev pub table_after : LoopTable → Hall → Call → LoopTable
table_after t h (Write k s e) = (written t h k s e).table
table_after t h (Clear k) = (cleared t h k).table
table_after t h (Read k) = t

abbrev pub voice_answer : List Float → LoopTable → StaticSound → Play → Answer
voice_answer snd t v (New s) = Made (created snd s)
voice_answer snd t v (Take k) = Obeyed (taken snd t k v)
voice_answer snd t v (Command c) = Obeyed (commanded snd v c)
voice_answer snd t v (Block dt b g out) = Played (processed snd v dt b g out)
voice_answer snd t v (Mix dt b g mix from) = Played (processed_into snd v dt b g mix from)

-- the voice after a result
abbrev pub voice_after : StaticSound → Answer → StaticSound
voice_after v (Numbered n) = v
voice_after v (Looked f) = v
voice_after v (Made a) = a.voice
voice_after v (Obeyed a) = a.voice
voice_after v (Played o) = o.answer.voice

abbrev pub answer_to : List Float → World → Event → Answer
answer_to snd w (ByHall h c) = hall_answer w.table h c
answer_to snd w (ByVoice i p) = voice_answer snd w.table (w.voices i) p

abbrev pub next : List Float → World → Event → World
next snd w (ByHall h c) = record { table = table_after w.table h c; voices = w.voices }
next snd w (ByVoice i p) =
    record {
      table = w.table;
      voices = λ j. cond (eqb j i) (voice_after (w.voices j) (voice_answer snd w.table (w.voices j) p))
          (w.voices j);
    }

-- ---- a sequence of calls

abbrev pub after : List Float → World → List Event → World
after snd w [] = w
after snd w (e ∷ es) = after snd (next snd w e) es

-- the results of the calls that pass a test, in their order
abbrev pub answers : List Float → (Event → Bool) → World → List Event → List Answer
answers snd p w [] = []
answers snd p w (e ∷ es) = cond (p e) (answer_to snd w e ∷ answers snd p (next snd w e) es)
    (answers snd p (next snd w e) es)

-- those calls themselves
abbrev pub only : (Event → Bool) → List Event → List Event
only p [] = []
only p (e ∷ es) = cond (p e) (e ∷ only p es) (only p es)
