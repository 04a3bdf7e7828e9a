-- `wraps_after` raises the count of the direction by the wraps.
use mathlib.Core.Path.{sym, ap, ◌∙◌}
use Prim.Native.Nat.{ℕ}
use Rattle.sound_track.specs.Tracks.{raised_by}
use Rattle.sound_track.proofs.Counts.{counts_forth, counts_back}
use Rattle.sound_track.proofs.Track.wraps_after.Goals as goal

pub returns-then-self : goal.returns-then-self
returns-then-self c =
    let a = c.args in
    ap (λ (b : ℕ). record { forward = a.wraps.forward; backward = b }) (c.raise_by.ensures ∙ ap (λ (r : ℕ). raised_by r a.wraps.backward) c.wraps_of-more.ensures)
    ∙ sym (counts_back a.n a.self a.at a.wraps c.if-self.true)

pub returns-else-self : goal.returns-else-self
returns-else-self c =
    let a = c.args in
    ap (λ (f : ℕ). record { forward = f; backward = a.wraps.backward }) (c.raise_by-else-self.ensures ∙ ap (λ (r : ℕ). raised_by r a.wraps.forward) c.wraps_of-more.ensures)
    ∙ sym (counts_forth a.n a.self a.at a.wraps c.if-self.false)
