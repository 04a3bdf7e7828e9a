-- `count_block`: the answer of the block, and one block more.
use Rattle.std.proofs.Common.{◌≡◌, arith}
use Rattle.cableowl.specs.Replays.{block_c, more}
use Rattle.cableowl.proofs.replays.count_block.Goals as goal

pub returns : goal.returns
unfolding block_c
returns c =
    let m : c.saturating_add.result ≡ more c.args.replay.blocks = grind arith in
    rw (c.played.ensures, c.behind_record-after.ensures, m, c.answer-answered.ensures)
