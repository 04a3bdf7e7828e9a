-- `test_exports::cableowl_test_advance_by` meets its contract: a magnitude that is at most 256 is finite and clear. Assumes nothing.
use mathlib.Core.Path.{◌≡◌, sym, ap, subst, ◌∙◌}
use mathlib.Core.Logic.{inl, inr}
use mathlib.Core.Bool.{true}
use lib.IntN.{pos}
use lib.Dec.{T}
use lib.Ieee.{Float, of_bits, le}
use Rattle.numbers.specs.Words.{proper}
use Rattle.numbers.proofs.Signs.{clear, bounded, magnitude_clear}
use Rattle.test_exports.specs.Answers.{moved}
use Rattle.test_exports.proofs.Answers.{copied, still, went, stayed}
use Rattle.test_exports.proofs.cableowl_test_advance_by.Goals.{Then-is_proper, else-is_proper-via-then-is_proper+else-a, else-is_proper-via-else-is_proper}
use Rattle.test_exports.proofs.cableowl_test_advance_by.Goals as goal

-- what the first test says
proper-here : (c : Then-is_proper) → proper c.args.fraction ≡ true
proper-here c = sym c.is_proper.ensures ∙ c.if-is_proper.true

pub advance_by-s-requires : goal.advance_by-s-requires
unfolding of_bits
advance_by-s-requires c =
    let m = c.magnitude-a in
    let low : T (le m.result _) = subst T (sym c.if-a.true) tt in
    record {
      fraction_proper = subst T (sym (proper-here (goal.at.advance_by-s-requires c).Then-is_proper)) tt;
      advance_clear = bounded m.result 1 (pos 8) (subst (λ (z : Float). T (clear z)) (sym m.ensures) (magnitude_clear _)) low;
      advance_most = low;
    }

pub returns-then-a : goal.returns-then-a
unfolding of_bits
returns-then-a c =
    let m = c.magnitude-a in
    let f = c.args.fraction in
    subst (λ (z : Float). copied c.advance_by-s.result ≡ moved f z) m.ensures
    (ap copied c.advance_by-s.ensures ∙ went f m.result (proper-here (goal.at.returns-then-a c).Then-is_proper) c.if-a.true)

pub returns-else-is_proper : goal.returns-else-is_proper
unfolding of_bits
returns-else-is_proper c =
    let m = c.magnitude-a in
    let f = c.args.fraction in
    subst (λ (z : Float). still ≡ moved f z) m.ensures
    (stayed f m.result (elim c.else-is_proper.branch [
      | else-is_proper-via-then-is_proper+else-a w ↦ inr w.if-a.false
      | else-is_proper-via-else-is_proper w ↦ inl (sym c.is_proper.ensures ∙ w.if-is_proper.false)
    ]))
