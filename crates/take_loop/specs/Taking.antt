-- A voice reads a slot and sets that loop by a command set (request #109). The slot's loop must lie inside the sound,
-- the command's inside N.
use Rattle.std.specs.Prelude.{ℕ, false, cond, List, eqb, Float, None}
use Rattle.numbers.specs.Words.{positive_zero}
use Rattle.playback_position.specs.declared.PlaybackPosition.TheVariants.{Samples}
use Rattle.playback_position.specs.declared.EndPosition.TheVariants.{Custom}
use Rattle.sound_state.specs.declared.StaticSound.{StaticSound}
use Rattle.sound_commands.specs.declared.LoopCommand.TheVariants as loop
use Rattle.sound_commands.specs.declared.ResumeCommand.TheVariants as resume
use Rattle.sound_commands.specs.declared.Commands.{Commands}
use Rattle.sound_commands.specs.Commands.{CommandsAnswer, commanded}
use Rattle.loop_table.specs.declared.LoopSlot.{LoopSlot}
use Rattle.loop_table.specs.declared.LoopTable.{LoopTable}
use Rattle.loop_table.specs.Tables.{LoopFound, found}

-- the command set that sets a slot's loop, and nothing else
abbrev pub loop_command_of : LoopSlot → Commands
loop_command_of s =
    record {
      playback_rate = None;
      loop_region = loop.Set (record { start = Samples s.start; end = Custom (Samples s.end) });
      pause = false;
      resume = resume.Keep;
      stop = false;
      seek_by = None;
      seek_to = None;
    }

-- after a read: the table's refusal with the given voice and position +0, otherwise the command set's result
abbrev pub taken_from : List Float → StaticSound → LoopFound → CommandsAnswer
taken_from snd v f =
    cond (eqb f.refusal 0) (commanded snd v (loop_command_of f.slot))
    (record { refusal = f.refusal; voice = v; position = positive_zero })

unfoldable pub taken : List Float → LoopTable → ℕ → StaticSound → CommandsAnswer
taken snd t k v = taken_from snd v (found t k)
