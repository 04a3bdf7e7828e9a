-- `play_lanes`: the answer of the player, counted.
use Prim.Native.Nat.{◌*◌, ◌≤◌}
use native.Mathlib.Omega.{arith}
use lib.ListN.{length, take}
use Rattle.cableowl.proofs.ReplaySteps.{part_long}
use Rattle.cableowl.proofs.ReplayStepsV2.{few_laned, laned_few, laned_is}
use Rattle.cableowl.proofs.replays_v2.play_lanes.Goals.{After-laned_block_of-block}
use Rattle.cableowl.proofs.replays_v2.play_lanes.Goals as goal

few : (c : After-laned_block_of-block) → c.laned_block_of-block.result.frames ≤ 1024
few c = few_laned c.args.values c.laned_block_of-block.result c.laned_block_of-block.ensures

room : (c : After-laned_block_of-block) → 2 * c.laned_block_of-block.result.frames ≤ length c.args.out.now
room c = omega (arith, few c, c.requires.1)

pub overflow_mul-n : goal.overflow_mul-n
overflow_mul-n c = omega (arith, few (goal.at.overflow_mul-n c).After-laned_block_of-block)

pub slice_bounds-process_lanes-end : goal.slice_bounds-process_lanes-end
slice_bounds-process_lanes-end c = part_long c.args.replay.samples c.args.sound.now c.requires.0

pub slice_bounds-process_lanes-end-2 : goal.slice_bounds-process_lanes-end-2
slice_bounds-process_lanes-end-2 c = room (goal.at.slice_bounds-process_lanes-end-2 c).After-laned_block_of-block

pub slice_bounds-process_lanes-end-3 : goal.slice_bounds-process_lanes-end-3
slice_bounds-process_lanes-end-3 c =
    part_long (2 * c.laned_block_of-block.result.frames) c.args.out.now (room (goal.at.slice_bounds-process_lanes-end-3 c).After-laned_block_of-block)

pub process_lanes-processed-requires : goal.process_lanes-processed-requires
process_lanes-processed-requires c = few (goal.at.process_lanes-processed-requires c).After-laned_block_of-block

pub count_block-requires : goal.count_block-requires
count_block-requires c =
    let a = c.args in
    let b = c.laned_block_of-block.result in
    laned_few (take a.replay.samples a.sound.now) (take (2 * b.frames) a.out.now) c.from.result b a.bytes.now c.process_lanes-processed.result _ c.process_lanes-processed.ensures

pub returns : goal.returns
returns c =
    let a = c.args in
    laned_is a.replay a.size a.values a.bytes.now a.sound.now a.out.now c.laned_block_of-block.result c.from.result c.process_lanes-processed.result _ c.count_block.result
    c.laned_block_of-block.ensures c.from.ensures c.count_block.ensures c.process_lanes-processed.ensures
