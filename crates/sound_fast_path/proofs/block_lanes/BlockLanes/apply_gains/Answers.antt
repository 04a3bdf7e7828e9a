-- `apply_gains`: the gains of held lanes are repeated.
use Prim.Native.Nat.{ℕ, ◌≤◌}
use mathlib.Core.Path.{sym, ap, ◌∙◌, subst}
use lib.ListN.{length, length-replicate}
use Rattle.sound_lanes.specs.Lanes.{Lanes}
use Rattle.sound_gains.specs.Gained.{gained}
use Rattle.sound_gains.proofs.Gained.{gained_fewer}
use Rattle.sound_fast_path.specs.BlockLanes.{block_lanes}
use Rattle.sound_fast_path.proofs.block_lanes.BlockLanes.apply_gains.Goals as goal

pub returns-in-Held : goal.returns-in-Held
returns-in-Held c =
    let a = c.args in
    let x = c.in-Held.held in
    let g = x.gains in
    let n = c.in-Held.field-1 in
    let e = ap block_lanes c.in-Held.is in
    let w = subst (λ (k : ℕ). a.n ≤ k) (ap (λ (b : Lanes). length b.rate) e ∙ length-replicate n x.rate) c.requires.n_in_bounds in
    c.once.ensures
    ∙ gained_fewer g.fade g.volume g.left g.right a.n n a.out.now w
    ∙ ap (λ (b : Lanes). gained b.fade b.volume b.left b.right a.n a.out.now) (sym e)
