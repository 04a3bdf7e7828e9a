-- `test_numbers_list::measures` meets its contract: what equals itself is a number. Assumes nothing.
use mathlib.Core.Path.{sym, ap, ◌∙◌}
use mathlib.Core.Bool.{Bool, false, cond}
use lib.Dec.{eqb}
use lib.Ieee.{Float, binary64, eq, to_bits}
use Rattle.numbers.proofs.Signs.{equal_number}
use Rattle.test_numbers_list.specs.Lines.{measures}
use Rattle.test_numbers_list.proofs.measures.Goals as goal

pub float_to_bits-result : goal.float_to_bits-result
float_to_bits-result c = equal_number c.magnitude-y.result _ c.if-y.true

pub returns-then-y : goal.returns-then-y
unfolding measures
returns-then-y c =
    let y = c.magnitude-y in
    let e = c.args.expected in
    sym (ap (λ (b : Bool). cond b (eqb (to_bits binary64 y.result) e) false) c.if-y.true)
    ∙ ap (λ (z : Float). cond (eq z z) (eqb (to_bits binary64 z) e) false) y.ensures

pub returns-else-y : goal.returns-else-y
unfolding measures
returns-else-y c =
    let y = c.magnitude-y in
    let e = c.args.expected in
    sym (ap (λ (b : Bool). cond b (eqb (to_bits binary64 y.result) e) false) c.if-y.false)
    ∙ ap (λ (z : Float). cond (eq z z) (eqb (to_bits binary64 z) e) false) y.ensures
