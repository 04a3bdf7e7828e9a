-- `cableowl_process` meets its contract: the block between records of numbers.
use Rattle.sound_lanes.specs.Lanes.{Lanes, five}
use Rattle.cableowl.proofs.Answers.{block_few, block_low, block_is}
use Rattle.cableowl.proofs.cableowl_process.Goals.{Start}
use Rattle.cableowl.proofs.cableowl_process.Goals as goal

abbrev lent : Start → Lanes
lent c = let a = c.args in five a.fade.now a.volume.now a.left.now a.right.now a.rate.now

pub answer-requires : goal.answer-requires
answer-requires c =
    let a = c.args in
    let b = lent (goal.at.answer-requires c).Start in
    block_few c.from.result _ c.process-processed.result _ (block_low a.sound.now c.from.result a.dt b c.from-2.result a.out.now) c.process-processed.ensures

pub returns : goal.returns
returns c =
    let a = c.args in
    block_is a.sound.now a.state a.dt (lent (goal.at.returns c).Start) a.signals c.from.result c.from-2.result c.from.ensures c.from-2.ensures
    c.process-processed.result _ a.out.now c.process-processed.ensures _ c.answer.ensures
