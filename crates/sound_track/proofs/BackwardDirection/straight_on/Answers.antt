-- `straight_on`, backward: where no step wraps, one difference.
use mathlib.Core.Path.{sym}
use native.Mathlib.Omega.{arith}
use Rattle.sound_track.proofs.Tracks.{back_on, far_back}
use Rattle.sound_track.proofs.BackwardDirection.straight_on.Goals as goal

pub returns-clause-value : goal.returns-clause-value
returns-clause-value c =
    let a = c.args in
    let r = c.requires in
    let f = far_back a.n a._track a.at r.on r.backwards_value in
    let l = r.on.above r.backwards_value in
    let h = r.far_enough in
    sym (back_on a.n a._track a.at r.on r.backwards_value (omega (arith, f, l, h))).0
