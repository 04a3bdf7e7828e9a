-- `trace_replay::answer`: the block's numbers, held, over a silent output.
use Rattle.std.proofs.Common.{◌*◌, refl, arith}
use lib.Ieee.{of_bits}
use Rattle.numbers.specs.Words.{positive_zero}
use Rattle.trace_replay.proofs.Parts.{lane, lane_long}
use Rattle.trace_replay.proofs.Answers.{answer_is}
use Rattle.trace_replay.proofs.answer.Goals as goal

pub slice_bounds-process_held-end : goal.slice_bounds-process_held-end
unfolding of_bits
slice_bounds-process_held-end c = lane_long (2 * c.args.block.frames) 2048 positive_zero _ refl (omega (arith, c.requires))

pub returns : goal.returns
unfolding of_bits
returns c =
    let a = c.args in
    answer_is a.sound.now a.voice a.block c.from.result _ _ c.from.ensures
    (lane (2 * a.block.frames) 2048 positive_zero _ refl (omega (arith, c.requires))) c.process_held.ensures
