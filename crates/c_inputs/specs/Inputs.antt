-- Settings, commands and signals from C records: an unknown tag becomes a value that its field's check refuses.
use Rattle.std.specs.Prelude.{ℕ, Bool, cond, eqb, Float, Option, Some, None}
use Rattle.std.specs.Float.{nan}
use Rattle.playback_position.specs.declared.PlaybackPosition.{PlaybackPosition}
use Rattle.playback_position.specs.declared.PlaybackPosition.TheVariants.{Seconds, Samples}
use Rattle.playback_position.specs.declared.EndPosition.{EndPosition}
use Rattle.playback_position.specs.declared.EndPosition.TheVariants.{EndOfAudio, Custom}
use Rattle.playback_position.specs.declared.Region.{Region}
use Rattle.playback_state_manager.specs.declared.StartAnswer.{StartAnswer}
use Rattle.playback_state_manager.specs.declared.StartAnswer.TheVariants as answer
use Rattle.start_time.specs.declared.StartSignal.{StartSignal}
use Rattle.start_time.specs.declared.StartSignal.TheVariants as start
use Rattle.sound_creation.specs.declared.Settings.{Settings}
use Rattle.sound_commands.specs.declared.LoopCommand.{LoopCommand}
use Rattle.sound_commands.specs.declared.LoopCommand.TheVariants as loop
use Rattle.sound_commands.specs.declared.ResumeCommand.{ResumeCommand}
use Rattle.sound_commands.specs.declared.ResumeCommand.TheVariants as resume
use Rattle.sound_commands.specs.declared.Commands.{Commands}
use Rattle.sound_block.specs.declared.Signals.{Signals}
use Rattle.c_inputs.specs.declared.CableowlPlace.{CableowlPlace}
use Rattle.c_inputs.specs.declared.CableowlRegion.{CableowlRegion}
use Rattle.c_inputs.specs.declared.CableowlSettings.{CableowlSettings}
use Rattle.c_inputs.specs.declared.CableowlCommands.{CableowlCommands}
use Rattle.c_inputs.specs.declared.CableowlSignals.{CableowlSignals}
use Rattle.c_state.specs.Records.{yes}

-- ---- positions and regions

-- 0 is seconds, 1 samples, any other kind NaN seconds
abbrev pub position_of : CableowlPlace → PlaybackPosition
position_of p = cond (eqb p.kind 0) (Seconds p.seconds)
    (cond (eqb p.kind 1) (Samples p.samples) (Seconds nan))

-- 2 is the end of audio, any other kind as for a position
abbrev pub end_of : CableowlPlace → EndPosition
end_of p = cond (eqb p.kind 2) EndOfAudio (Custom (position_of p))

-- the region if its tag is known, otherwise one with a NaN start
abbrev pub region_if : Bool → CableowlRegion → Region
region_if known r = cond known (record { start = position_of r.start; end = end_of r.end })
    (record { start = Seconds nan; end = EndOfAudio })

-- ---- creation

-- 0 is absent, 1 given
abbrev pub optional_of : ℕ → CableowlRegion → Option Region
optional_of has r = cond (eqb has 0) None (Some (region_if (eqb has 1) r))

abbrev pub settings_of : CableowlSettings → Settings
settings_of s =
    record {
      sample_rate = s.sample_rate;
      slice = optional_of s.has_slice s.slice;
      start_position = position_of s.start;
      loop_region = optional_of s.has_loop s.loop_region;
      reverse = yes s.reverse;
      playback_rate = s.playback_rate;
      start_waits = yes s.start_waits;
    }

-- ---- commands

-- 0 is absent, 1 given, any other tag NaN
abbrev pub amount_of : ℕ → Float → Option Float
amount_of has x = cond (eqb has 0) None (cond (eqb has 1) (Some x) (Some nan))

-- 0 is keep, 1 clear, 2 set
abbrev pub loop_of : ℕ → CableowlRegion → LoopCommand
loop_of k r = cond (eqb k 0) loop.Keep (cond (eqb k 1) loop.Clear (loop.Set (region_if (eqb k 2) r)))

-- 0 is no, 1 at once, any other waits
abbrev pub resume_of : ℕ → ResumeCommand
resume_of n = cond (eqb n 0) resume.Keep (cond (eqb n 1) resume.Now resume.Waiting)

abbrev pub commands_of : CableowlCommands → Commands
commands_of c =
    record {
      playback_rate = amount_of c.has_rate c.rate;
      loop_region = loop_of c.loop_command c.loop_region;
      pause = yes c.pause;
      resume = resume_of c.resume;
      stop = yes c.stop;
      seek_by = amount_of c.has_seek_by c.seek_by;
      seek_to = amount_of c.has_seek_to c.seek_to;
    }

-- ---- signals

-- 1 is now, 2 never, any other still waiting
abbrev pub answer_of : ℕ → StartAnswer
answer_of n = cond (eqb n 1) answer.Now (cond (eqb n 2) answer.Never answer.Waiting)

-- 3 is a due tick with the current tick, any other an answer
abbrev pub start_of : ℕ → ℕ → ℕ → StartSignal
start_of kind due now = cond (eqb kind 3) (start.Tick due now) (start.Answer (answer_of kind))

abbrev pub signals_of : CableowlSignals → Signals
signals_of g = record {
  finished = yes g.finished;
  start = start_of g.start g.due g.now;
  resume = answer_of g.resume;
}
