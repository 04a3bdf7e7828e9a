-- `saved_loops::are_slots`: `ok` is the test over the slots so far.
use mathlib.Core.Path.{◌≡◌, refl, ap, ap₂, ◌∙◌}
use mathlib.Core.Bool.{◌&&◌}
use native.Mathlib.Omega.{arith}
use native.Mathlib.Numerals.{add-one}
use Prim.Native.Nat.{ℕ}
use Rattle.saved_loops.specs.Records.{well_formed_slots}
use Rattle.saved_loops.proofs.are_slots.Goals as goal

pub loop-k-init : goal.loop-k-init
unfolding well_formed_slots
loop-k-init c = refl

pub loop-k-preserved : goal.loop-k-preserved
unfolding well_formed_slots
loop-k-preserved c = rw add-one (ap₂ ◌&&◌ c.loop-k.invariant c.is_well_formed-ok.ensures)

pub returns : goal.returns
returns c =
    let e : c.loop-k.k ≡ 8 = omega arith in
    c.loop-k.invariant ∙ ap (λ (n : ℕ). well_formed_slots n c.args.words) e
