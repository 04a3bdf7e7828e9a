-- Sequences of calls that meet each hypothesis: two halls at an empty table over ten frames.
use Rattle.std.specs.Prelude.{true, false, List, [], ◌∷◌, None}
use Rattle.sound_creation.specs.Creation.{blank_sound}
use Rattle.sound_commands.specs.declared.LoopCommand.TheVariants as loop
use Rattle.sound_commands.specs.declared.ResumeCommand.TheVariants as resume
use Rattle.loop_table.specs.declared.Hall.TheVariants.{A, B}
use Rattle.loop_table.specs.Tables.{empty_table, written}
use Rattle.theorems_loop_table.specs.Calls.{Write, Clear, Read, Take, Command, Event, ByHall, ByVoice, World}
use Rattle.theorems_loop_table.specs.Apart.{SameCalls, SameVoice, Spared, AcceptedWrite, AcceptedClear}

-- before any call, and after A has written its slot 0
abbrev pub evening : World
evening = record { table = empty_table 10; voices = λ i. blank_sound }

abbrev pub later : World
later = record { table = (written (empty_table 10) A 0 3 6).table; voices = λ i. blank_sound }

-- B writes and reads its slot 8, and voice 0 takes it; A's calls lie between, or after
abbrev pub between : List Event
between = ByHall B (Write 8 3 6) ∷ ByHall A (Write 0 0 2) ∷ ByHall A (Read 8) ∷ ByHall A (Clear 0)
    ∷ ByVoice 0 (Take 8) ∷ []

abbrev pub behind : List Event
behind = ByHall B (Write 8 3 6) ∷ ByHall A (Read 8) ∷ ByVoice 0 (Take 8) ∷ ByHall A (Write 0 0 2) ∷ []

-- a command set of voice 0: it pauses
abbrev pub pause : Event
pause =
    ByVoice 0
    (Command
    (record {
      playback_rate = None;
      loop_region = loop.Keep;
      pause = true;
      resume = resume.Keep;
      stop = false;
      seek_by = None;
      seek_to = None;
    }))

pub record Witnesses : Type 0 where
  pub halls_apart : SameCalls B 0 between behind
  pub taken_stays : SameVoice 0 evening later (ByHall A (Write 0 0 2) ∷ pause ∷ []) (pause ∷ [])
  pub reads_follow : Spared A 0 evening (ByHall B (Write 8 3 6) ∷ ByHall A (Read 0) ∷ [])
      × AcceptedWrite evening.table A 0 3 6 × AcceptedClear evening.table A 0
