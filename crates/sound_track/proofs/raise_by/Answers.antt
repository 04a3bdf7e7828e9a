-- `raise_by` raises at once what is raised one by one.
use mathlib.Core.Path.{◌≡◌, sym, ap, ◌∙◌}
use native.Mathlib.Omega.{arith}
use Prim.Native.Nat.{ℕ, ◌+◌, ◌-◌, ◌^◌, min}
use Rattle.sound_track.proofs.Counts.{raised_min}
use Rattle.sound_track.proofs.raise_by.Goals as goal

lower : (x : ℕ) → min (min x (2 ^ 64 - 1)) 4294967295 ≡ min x 4294967295
lower x = omega arith

pub returns : goal.returns
returns c =
    let a = c.args in
    c.min.ensures ∙ ap (λ (x : ℕ). min x 4294967295) c.saturating_add.ensures ∙ lower (a.count + a.n) ∙ sym (raised_min a.n a.count (omega arith))
