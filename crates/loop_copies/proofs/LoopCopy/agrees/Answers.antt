-- `loop_copies::LoopCopy::agrees` meets its contract: the two numbers, then the eight slots.
use mathlib.Core.Path.{◌≡◌, sym, ap, ap₂, ◌∙◌}
use mathlib.Core.Bool.{true}
use lib.Dec.{eqb}
use lib.ListN.{length}
use lib.Pointwise.{pointwise}
use borrow.Author.Tests.{eq-eqb}
use Rattle.loop_copies.specs.Copies.{changes_of, same_slot}
use Rattle.loop_copies.proofs.Slots.{same_halves}
use Rattle.loop_copies.proofs.LoopCopy.agrees.Goals.{Else-changes}
use Rattle.loop_copies.proofs.LoopCopy.agrees.Goals as goal

same : (c : Else-changes) → let a = c.args in eqb (changes_of a.hall a.self.now) (changes_of a.hall a.theirs.now) ≡ true
same c = ap₂ eqb (sym c.changes.ensures) (sym c.changes-2.ensures) ∙ eq-eqb _ _ c.if-changes.false

pub returns : goal.returns
returns c =
    let l = ap length c.half.ensures.slots in
    let m = ap length c.half-2.ensures.slots in
    rw (same (goal.at.returns c).Else-changes) (c.eq.ensures ∙ ap₂ (pointwise same_slot) c.half.ensures.slots c.half-2.ensures.slots
    ∙ same_halves c.args.hall _ _ (sym l ∙ c.half.ensures.eight) (sym m ∙ c.half-2.ensures.eight))
