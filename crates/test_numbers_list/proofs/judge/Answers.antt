-- `test_numbers_list::judge` meets its contract, by its fields. Assumes nothing.
use mathlib.Core.Path.{sym, subst, ◌∙◌}
use mathlib.Core.Bool.{Bool, not}
use lib.Dec.{T}
use Rattle.test_numbers_list.proofs.Lines.{no_nan, no_case, a_case}
use Rattle.test_numbers_list.proofs.judge.Goals as goal

pub returns-then-bits-gt9218868437227405312 : goal.returns-then-bits-gt9218868437227405312
returns-then-bits-gt9218868437227405312 c = no_case c.args.line.now c.field-bits.result c.field-bits.ensures.value c.if-bits-gt9218868437227405312.true

pub float_from_bits-bits : goal.float_from_bits-bits
float_from_bits-bits c = subst (λ (b : Bool). T (not b)) (sym (no_nan c.field-bits.result c.if-bits-gt9218868437227405312.false)) tt

pub returns : goal.returns
returns c =
    let third = c.before in
    let second = third.before in
    let first = second.before.before in
    c.is_right.ensures
    ∙ a_case first.args.line.now first.field-bits.result second.field.result third.field-2.result first.field-bits.ensures.value first.if-bits-gt9218868437227405312.false
    second.field.ensures.value third.field-2.ensures.value
