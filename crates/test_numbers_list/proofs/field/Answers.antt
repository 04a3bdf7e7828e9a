-- `test_numbers_list::field` meets its contract. The invariant: the value is that of the digits so far. The measure is how many are left.
-- Assumes nothing.
use mathlib.Core.Path.{◌≡◌, refl, sym, ap, ap₂, subst, ◌∙◌}
use Prim.Native.Nat.{ℕ, ◌+◌, ◌-◌, ◌*◌, ◌^◌, ◌≤◌, ◌<◌}
use native.Mathlib.Omega.{arith}
use lib.ListN.{get_or}
use Rattle.test_numbers_list.specs.Lines.{number}
use Rattle.test_numbers_list.proofs.Lines.{digit_lt, number_lt, number_more, room}
use Rattle.test_numbers_list.proofs.field.Goals.{After-digit_value, In-loop-i}
use Rattle.test_numbers_list.proofs.field.Goals as goal

pub loop-i-init : goal.loop-i-init
loop-i-init c = unfold number in refl

-- the digits so far leave space for one more
small : (c : In-loop-i) → c.loop-i.value < 2 ^ 60
small c =
    subst (λ (v : ℕ). v < 2 ^ 60) (sym c.loop-i.invariant)
    (room c.args.line.now c.args.from c.loop-i.i c.args.count c.loop-i-test.true c.requires.count_bound_2)

pub overflow_mul-value : goal.overflow_mul-value
overflow_mul-value c = let h = small (goal.at.overflow_mul-value c).In-loop-i in omega arith

pub overflow_add-from : goal.overflow_add-from
overflow_add-from c = omega arith

pub bounds-line-from : goal.bounds-line-from
bounds-line-from c = omega arith

low : (c : After-digit_value) → c.digit_value.result < 16
low c =
    subst (λ (d : ℕ). d < 16) (sym c.digit_value.ensures)
    (digit_lt (get_or c.args.line.now (c.args.from + c.loop-i.i) 0))

pub overflow_add-value : goal.overflow_add-value
overflow_add-value c = let h = small (goal.at.overflow_add-value c).In-loop-i in let k = low (goal.at.overflow_add-value c).After-digit_value in omega arith

pub loop-i-preserved : goal.loop-i-preserved
loop-i-preserved c =
    ap₂ (λ (v d : ℕ). v * 16 + d) c.loop-i.invariant c.digit_value.ensures ∙ sym (number_more c.args.line.now c.args.from c.loop-i.i)

pub returns : goal.returns
returns c =
    let line = c.args.line.now in
    let from = c.args.from in
    let n = c.args.count in
    let last : c.loop-i.i ≡ n = omega arith in
    let e : c.loop-i.value ≡ number line from n = c.loop-i.invariant ∙ ap (number line from) last in
    record { value = e; upper_bound = subst (λ (v : ℕ). v < 16 ^ n) (sym e) (number_lt line from n) }
