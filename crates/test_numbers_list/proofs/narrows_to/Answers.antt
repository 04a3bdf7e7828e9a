-- `test_numbers_list::narrows_to` meets its contract: the test is what `narrow` requires, and its result is a number. Assumes nothing.
use mathlib.Core.Path.{◌≡◌, sym, ap, subst, ◌∙◌}
use Prim.Native.Nat.{◌^◌, ◌<◌}
use native.Mathlib.Omega.{arith}
use mathlib.Core.Bool.{Bool, true, false, not, ◌&&◌, cond}
use lib.Dec.{T, eqb}
use lib.Ieee.{Float, binary32, fits, is_nan, to_bits}
use lib.Ieee.Fits.{and_l, and_r}
use lib.Ieee.Bits.{to_bits-lt}
use Rattle.numbers.specs.Words.{proper, narrowed}
use Rattle.numbers.proofs.Narrowing.{narrowed_fits}
use Rattle.test_numbers_list.specs.Lines.{narrows_to}
use Rattle.test_numbers_list.proofs.narrows_to.Goals.{After-narrow, Then-is_proper}
use Rattle.test_numbers_list.proofs.narrows_to.Goals as goal

proper-here : (c : Then-is_proper) → proper c.args.x ≡ true
proper-here c = sym c.is_proper.ensures ∙ c.if-is_proper.true

-- the result, as an f32
good : (c : After-narrow) → T (fits binary32 c.narrow.result && not (is_nan c.narrow.result))
good c =
    subst (λ (z : Float). T (fits binary32 z && not (is_nan z))) (sym c.narrow.ensures)
    (narrowed_fits c.args.x (subst T (sym (proper-here c.before)) tt))

pub narrow-requires : goal.narrow-requires
narrow-requires c = subst T (sym (proper-here (goal.at.narrow-requires c).Then-is_proper)) tt

pub float_to_bits-result : goal.float_to_bits-result
float_to_bits-result c = and_r (fits binary32 c.narrow.result) _ (good (goal.at.float_to_bits-result c).After-narrow)

pub overflow_cast-result : goal.overflow_cast-result
overflow_cast-result c = let h : to_bits binary32 c.narrow.result < 2 ^ 32 = to_bits-lt binary32 c.narrow.result (and_l (fits binary32 c.narrow.result) (not (is_nan c.narrow.result)) (good (goal.at.overflow_cast-result c).After-narrow)) in omega arith

pub returns-then-is_proper : goal.returns-then-is_proper
unfolding narrows_to
returns-then-is_proper c =
    let x = c.args.x in
    let e = c.args.expected in
    ap (λ (z : Float). eqb (to_bits binary32 z) e) c.narrow.ensures
    ∙ sym (ap (λ (b : Bool). cond b (eqb (to_bits binary32 (narrowed x)) e) false) (proper-here (goal.at.returns-then-is_proper c).Then-is_proper))

pub returns-else-is_proper : goal.returns-else-is_proper
unfolding narrows_to
returns-else-is_proper c =
    let x = c.args.x in
    let e = c.args.expected in
    sym (ap (λ (b : Bool). cond b (eqb (to_bits binary32 (narrowed x)) e) false) (sym c.is_proper.ensures ∙ c.if-is_proper.false))
