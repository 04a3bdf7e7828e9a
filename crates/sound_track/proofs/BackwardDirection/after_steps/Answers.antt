-- `after_steps`, backward, makes n steps at once: by a difference, with one wrap, or by a remainder.
use mathlib.Core.Path.{sym}
use native.Mathlib.Omega.{arith}
use Rattle.sound_track.proofs.Tracks.{back_on, back_once, back_over}
use Rattle.sound_track.proofs.BackwardDirection.after_steps.Goals as goal

pub returns-then-down-at-clause-value : goal.returns-then-down-at-clause-value
returns-then-down-at-clause-value c =
    let a = c.args in
    sym (back_on a.n a.track a.at c.requires.on c.requires.backwards_value c.if-down-at.true).0

pub returns-then-short-round-clause-value : goal.returns-then-short-round-clause-value
returns-then-short-round-clause-value c =
    let a = c.args in
    back_once a.n a.track a.at c.requires.on c.requires.backwards_value (omega arith) (omega arith)

pub returns-clause-value : goal.returns-clause-value
returns-clause-value c =
    let a = c.args in
    sym (back_over a.n a.track a.at c.requires.on c.requires.backwards_value (omega arith)).0
