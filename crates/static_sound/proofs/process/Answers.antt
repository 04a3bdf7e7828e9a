-- `process` is a block into its output from frame 0 on, where the output holds the block; otherwise it is refused.
use mathlib.Core.Path.{sym, ap, ◌∙◌}
use Rattle.sound_lanes.specs.Lanes.{lanes_of}
use Rattle.static_sound.specs.Entries.{processed_into}
use Rattle.static_sound.proofs.Whole.{lanes_whole, lanes_never}
use Rattle.static_sound.proofs.process.Goals.{then-holds, else-holds}
use Rattle.static_sound.proofs.process.Goals as goal

pub returns : goal.returns
returns c =
    let a = c.args in
    let b = lanes_of a.lanes in
    let into = processed_into a.sound.now a.voice a.dt b a.signals a.out.now in
    elim c.if-holds.branch [
      | then-holds w ↦ lanes_whole a.sound.now a.voice a.dt b a.signals a.out.now _ (sym c.holds.ensures ∙ w.if-holds.true) (c.process_into.ensures ∙ ap into w.from-is)
      | else-holds w ↦ lanes_never a.sound.now a.voice a.dt b a.signals a.out.now _ (sym c.holds.ensures ∙ w.if-holds.false) (c.process_into.ensures ∙ ap into w.from-is)
    ]
