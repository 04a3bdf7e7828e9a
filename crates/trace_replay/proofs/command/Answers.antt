-- `trace_replay::command`: the result of the command set.
use Rattle.std.proofs.Common.{take, Ok, Err}
use Rattle.sound_commands.specs.Commands.{commands_answer}
use Rattle.trace_inputs.specs.Inputs.{commands_of}
use Rattle.trace_replay.proofs.Parts.{part_long}
use Rattle.trace_replay.proofs.Replays.{command_replay}
use Rattle.trace_replay.proofs.command.Goals as goal

pub slice_bounds-on_start_processing-end : goal.slice_bounds-on_start_processing-end
slice_bounds-on_start_processing-end c = part_long c.args.run.samples c.args.sound.now c.requires

pub returns-in-Ok : goal.returns-in-Ok
returns-in-Ok c =
    let a = c.args in
    let w = c.commands_of-commands in
    (command_replay (commands_answer a.run.voice (Ok c.in-Ok.commanded)) (take a.run.samples a.sound.now) a.run.voice w.result (commands_of a.values) a.run.blocks c.in-Ok.ensures w.ensures, c.requires)

pub returns-in-Err : goal.returns-in-Err
returns-in-Err c =
    let a = c.args in
    let w = c.commands_of-commands in
    (command_replay (commands_answer a.run.voice (Err c.in-Err.field-0)) (take a.run.samples a.sound.now) a.run.voice w.result (commands_of a.values) a.run.blocks c.in-Err.ensures w.ensures, c.requires)
