-- `replay::play_one`: the record lies in the window.
use Rattle.std.proofs.Common.{rules}
use Rattle.trace_replay.proofs.Parts.{part_long}
use Rattle.replay.proofs.Places.{within}
use Rattle.replay.proofs.play_one.Goals as goal

pub slice_bounds-advance-end : goal.slice_bounds-advance-end
slice_bounds-advance-end c = part_long _ _ (search rules)

pub advance-played-requires : goal.advance-played-requires
advance-played-requires c =
    let a = c.args in
    (within a.bytes.now a.p.window.end a.p.window.at c.requires.0.1 c.requires.0.0, c.requires.1, c.requires.2, c.requires.3)

pub slice_bounds-write_all-end-2 : goal.slice_bounds-write_all-end-2
slice_bounds-write_all-end-2 c = part_long _ _ (search rules)
