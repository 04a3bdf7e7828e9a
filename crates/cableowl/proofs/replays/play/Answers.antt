-- `play`: the answer of the player, counted.
use mathlib.Core.Path.{◌∙◌}
use Prim.Native.Nat.{◌*◌, ◌≤◌}
use native.Mathlib.Omega.{arith}
use lib.ListN.{length, take}
use Rattle.c_state.specs.Records.{decoded}
use Rattle.static_sound.specs.Entries.{block_answer}
use Rattle.cableowl.proofs.ReplaySteps.{part_long, few_frames, held_outcome, held_few, counted_is, block_is}
use Rattle.cableowl.proofs.replays.play.Goals.{After-block_of-block}
use Rattle.cableowl.proofs.replays.play.Goals as goal

few : (c : After-block_of-block) → c.block_of-block.result.frames ≤ 1024
few c = few_frames c.args.values c.block_of-block.result c.block_of-block.ensures

room : (c : After-block_of-block) → 2 * c.block_of-block.result.frames ≤ length c.args.out.now
room c = omega (arith, few c, c.requires.1)

pub overflow_mul-n : goal.overflow_mul-n
overflow_mul-n c = omega (arith, few (goal.at.overflow_mul-n c).After-block_of-block)

pub slice_bounds-process_held-end : goal.slice_bounds-process_held-end
slice_bounds-process_held-end c = part_long c.args.replay.samples c.args.sound.now c.requires.0

pub slice_bounds-process_held-end-2 : goal.slice_bounds-process_held-end-2
slice_bounds-process_held-end-2 c = room (goal.at.slice_bounds-process_held-end-2 c).After-block_of-block

pub slice_bounds-process_held-end-3 : goal.slice_bounds-process_held-end-3
slice_bounds-process_held-end-3 c =
    part_long (2 * c.block_of-block.result.frames) c.args.out.now (room (goal.at.slice_bounds-process_held-end-3 c).After-block_of-block)

pub count_block-requires : goal.count_block-requires
count_block-requires c =
    let a = c.args in
    held_few (take a.replay.samples a.sound.now) a.out.now a.replay.voice c.block_of-block.result c.from.result c.from-2.result c.process_held-processed.result _
    c.from.ensures c.from-2.ensures (room (goal.at.count_block-requires c).After-block_of-block) c.process_held-processed.ensures

pub returns : goal.returns
returns c =
    let a = c.args in
    let b = c.block_of-block.result in
    block_is a.replay a.size a.values a.sound.now a.out.now b (block_answer (decoded a.replay.voice) c.process_held-processed.result) _ c.count_block.result c.block_of-block.ensures
    (c.count_block.ensures ∙ counted_is a.replay a.size b.frames _)
    (held_outcome (take a.replay.samples a.sound.now) a.out.now a.replay.voice b c.from.result c.from-2.result c.process_held-processed.result _
    c.from.ensures c.from-2.ensures (room (goal.at.returns c).After-block_of-block) c.process_held-processed.ensures)
