-- `cableowl_process_held` meets its contract: the block between records of numbers.
use Prim.Native.Nat.{◌/◌}
use lib.ListN.{length}
use Rattle.sound_held.specs.Held.{held_lanes}
use Rattle.cableowl.specs.Entries.{held_as}
use Rattle.sound_lanes.specs.Lanes.{Lanes}
use Rattle.cableowl.proofs.Answers.{block_few, block_low, block_is}
use Rattle.cableowl.proofs.once.cableowl_process_held.Goals.{Start}
use Rattle.cableowl.proofs.once.cableowl_process_held.Goals as goal

abbrev lent : Start → Lanes
lent c = let a = c.args in held_lanes (held_as a.fade a.volume a.left a.right a.rate) (length a.out.now / 2)

pub answer-requires : goal.answer-requires
answer-requires c =
    let a = c.args in
    let b = lent (goal.at.answer-requires c).Start in
    block_few c.from.result _ c.process_held-processed.result _ (block_low a.sound.now c.from.result a.dt b c.from-2.result a.out.now) c.process_held-processed.ensures

pub returns : goal.returns
returns c =
    let a = c.args in
    block_is a.sound.now a.state a.dt (lent (goal.at.returns c).Start) a.signals c.from.result c.from-2.result c.from.ensures c.from-2.ensures
    c.process_held-processed.result _ a.out.now c.process_held-processed.ensures _ c.answer.ensures
