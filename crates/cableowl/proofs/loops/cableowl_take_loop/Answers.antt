-- `cableowl_take_loop` meets its contract: the slot's loop taken between records of numbers. Assumes nothing.
use Rattle.cableowl.proofs.Takes.{take_few, take_is}
use Rattle.cableowl.proofs.loops.cableowl_take_loop.Goals as goal

pub command_answer-requires : goal.command_answer-requires
command_answer-requires c = let a = c.args in take_few a.sound.now a.table a.slot c.from-voice.result c.take.result c.take.ensures

pub returns : goal.returns
returns c =
    let a = c.args in
    take_is a.sound.now a.table a.slot a.state c.from-voice.result c.take.result _ c.from-voice.ensures c.take.ensures c.command_answer.ensures
