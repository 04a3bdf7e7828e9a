-- `trace_replay::play`: the player's result, counted, and its line.
use Rattle.std.proofs.Common.{◌≡◌, ◌∙◌, ap, sym, take, arith}
use Rattle.static_sound.specs.Entries.{block_answer}
use Rattle.trace_replay.specs.Runs.{more}
use Rattle.trace_replay.proofs.Parts.{part_long}
use Rattle.trace_replay.proofs.Replays.{replay, few_frames, block_replay, block_line_lem}
use Rattle.trace_replay.proofs.play.Goals as goal

pub slice_bounds-answer-end : goal.slice_bounds-answer-end
slice_bounds-answer-end c = part_long c.args.run.samples c.args.sound.now c.requires.0

pub answer-answer-requires : goal.answer-answer-requires
answer-answer-requires c = few_frames c.args.values c.block_of-block.result c.block_of-block.ensures

pub returns-in-Ok : goal.returns-in-Ok
returns-in-Ok c =
    let a = c.args in
    let v = a.run.voice in
    let x = take a.run.samples a.sound.now in
    let b = c.block_of-block in
    let w = c.answer-answer in
    let n = c.saturating_add-blocks.result in
    let m : n ≡ more a.run.blocks = grind arith in (
      ap (λ z. replay (block_answer v z).voice x n) (sym c.in-Ok.is) ∙ block_replay x v a.values b.result (block_answer v w.result) n a.run.blocks b.ensures w.ensures m,
      block_line_lem x v a.values b.result (block_answer v w.result) n a.run.blocks b.ensures w.ensures m _ (c.put_line-written.ensures.0 v),
      c.requires.0,
      c.put_line-written.ensures.1,
    )

pub returns-in-Err : goal.returns-in-Err
returns-in-Err c =
    let a = c.args in
    let v = a.run.voice in
    let x = take a.run.samples a.sound.now in
    let b = c.block_of-block in
    let w = c.answer-answer in
    let n = c.saturating_add-blocks.result in
    let m : n ≡ more a.run.blocks = grind arith in (
      ap (λ z. replay (block_answer v z).voice x n) (sym c.in-Err.is) ∙ block_replay x v a.values b.result (block_answer v w.result) n a.run.blocks b.ensures w.ensures m,
      block_line_lem x v a.values b.result (block_answer v w.result) n a.run.blocks b.ensures w.ensures m _ (c.put_line-written.ensures.0 v),
      c.requires.0,
      c.put_line-written.ensures.1,
    )
