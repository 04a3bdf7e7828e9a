-- `test_exports::cableowl_test_narrow` meets its contract: the test is what `narrow` requires. Assumes nothing.
use mathlib.Core.Path.{◌≡◌, sym, ap, subst, ◌∙◌}
use mathlib.Core.Bool.{Bool, true, cond}
use lib.Dec.{T}
use lib.Ieee.{of_bits}
use Rattle.numbers.specs.Words.{positive_zero, proper, narrowed}
use Rattle.test_exports.proofs.cableowl_test_narrow.Goals.{Then-is_proper}
use Rattle.test_exports.proofs.cableowl_test_narrow.Goals as goal

proper-here : (c : Then-is_proper) → proper c.args.x ≡ true
proper-here c = sym c.is_proper.ensures ∙ c.if-is_proper.true

pub narrow-requires : goal.narrow-requires
narrow-requires c = subst T (sym (proper-here (goal.at.narrow-requires c).Then-is_proper)) tt

pub returns-then-is_proper : goal.returns-then-is_proper
returns-then-is_proper c =
    let x = c.args.x in
    c.narrow.ensures ∙ sym (ap (λ (b : Bool). cond b (narrowed x) positive_zero) (proper-here (goal.at.returns-then-is_proper c).Then-is_proper))

pub returns-else-is_proper : goal.returns-else-is_proper
unfolding of_bits
returns-else-is_proper c =
    let x = c.args.x in
    sym (ap (λ (b : Bool). cond b (narrowed x) positive_zero) (sym c.is_proper.ensures ∙ c.if-is_proper.false))
