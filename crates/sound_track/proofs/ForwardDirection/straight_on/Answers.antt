-- `straight_on`, forward: where no step wraps, one sum.
use mathlib.Core.Path.{sym}
use native.Mathlib.Omega.{arith}
use Rattle.sound_track.proofs.Tracks.{forth_on, far_forth}
use Rattle.sound_track.proofs.ForwardDirection.straight_on.Goals as goal

pub returns-clause-value : goal.returns-clause-value
returns-clause-value c =
    let a = c.args in
    let r = c.requires in
    let f = far_forth a.n a._track a.at r.on r.backwards_value in
    let l = r.on.below r.backwards_value in
    let h = r.far_enough in
    sym (forth_on a.n a._track a.at r.on r.backwards_value (omega (arith, f, l, h))).0
