-- `transport::Transport::increment_position` meets its contract: the position from `below_end`, the end from `ended_from`.
-- Assumes nothing.
use mathlib.Core.Path.{sym, ap, ◌∙◌}
use Rattle.playback_position.proofs.Ranges.{within_ordered}
use Rattle.transport.specs.Moves.{landed}
use Rattle.transport.proofs.Steps.{forward_still, forward_going}
use Rattle.transport.proofs.Transport.increment_position.Goals as goal

pub below_end-requires : goal.below_end-requires
below_end-requires c =
    let a = c.args in
    within_ordered a.num_frames a.self.loop_region c.requires.loop

pub returns-then-self : goal.returns-then-self
returns-then-self c =
    let k = c.before.before.before in
    let t = k.args.self in
    let n = k.args.num_frames in
    c.ended_from.ensures
    ∙ ap (landed n t) c.below_end.ensures
    ∙ sym (forward_going n t k.if-self.true)

pub returns : goal.returns
returns c = sym (forward_still _ _ c.if-self.false)
