-- `process_held` is a block into its output from frame 0 on.
use Rattle.static_sound.proofs.Whole.{held_whole}
use Rattle.static_sound.proofs.process_held.Goals as goal

pub returns : goal.returns
returns c =
    let a = c.args in
    held_whole a.sound.now a.voice a.dt a.held a.signals a.out.now _ c.process_held_into.ensures
