-- `cableowl::command` meets its contract: the answer of the command set over the state's voice.
use mathlib.Core.Path.{◌∙◌}
use Rattle.cableowl.proofs.Answers.{commands_few, commands_are}
use Rattle.cableowl.proofs.command.Goals as goal

pub command_answer-requires : goal.command_answer-requires
command_answer-requires c = commands_few c.args.sound.now c.from-voice.result c.args.commands c.on_start_processing.result c.on_start_processing.ensures

pub returns : goal.returns
returns c =
    c.command_answer.ensures
    ∙ commands_are c.args.sound.now c.args.state c.from-voice.result c.args.commands c.on_start_processing.result c.from-voice.ensures c.on_start_processing.ensures
