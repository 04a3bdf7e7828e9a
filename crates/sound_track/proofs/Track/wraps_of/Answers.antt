-- `wraps_of` counts by a division how often the steps wrap.
use mathlib.Core.Path.{◌≡◌, sym, ◌∙◌}
use native.Mathlib.Omega.{arith}
use Prim.Native.Nat.{ℕ, suc, ◌+◌}
use Rattle.sound_track.proofs.Tracks.{forth_on, forth_over, back_on, back_over}
use Rattle.sound_track.proofs.Track.wraps_of.Goals as goal

one-and : (x : ℕ) → suc x ≡ 1 + x
one-and x = omega arith

pub returns-then-self-n : goal.returns-then-self-n
returns-then-self-n c =
    let a = c.args in
    sym (back_on a.n a.self a.at c.requires.on c.if-self.true c.if-self-n.true).1

pub returns-then-self : goal.returns-then-self
returns-then-self c =
    let a = c.args in
    sym ((back_over a.n a.self a.at c.requires.on c.if-self.true (omega arith)).1 ∙ one-and _)

pub returns-then-at-n : goal.returns-then-at-n
returns-then-at-n c =
    let a = c.args in
    sym (forth_on a.n a.self a.at c.requires.on c.if-self.false c.if-at-n.true).1

pub returns : goal.returns
returns c =
    let a = c.args in
    sym ((forth_over a.n a.self a.at c.requires.on c.if-self.false (omega arith)).1 ∙ one-and _)
