-- `after_steps`, forward, makes n steps at once: by a sum, with one wrap, or by a remainder.
use mathlib.Core.Path.{sym}
use native.Mathlib.Omega.{arith}
use Rattle.sound_track.proofs.Tracks.{forth_on, forth_once, forth_over}
use Rattle.sound_track.proofs.ForwardDirection.after_steps.Goals as goal

pub returns-then-on-track-clause-value : goal.returns-then-on-track-clause-value
returns-then-on-track-clause-value c =
    let a = c.args in
    sym (forth_on a.n a.track a.at c.requires.on c.requires.backwards_value c.if-on-track.true).0

pub returns-then-over-round-clause-value : goal.returns-then-over-round-clause-value
returns-then-over-round-clause-value c =
    let a = c.args in
    forth_once a.n a.track a.at c.requires.on c.requires.backwards_value (omega arith) (omega arith)

pub returns-clause-value : goal.returns-clause-value
returns-clause-value c =
    let a = c.args in
    sym (forth_over a.n a.track a.at c.requires.on c.requires.backwards_value (omega arith)).0
