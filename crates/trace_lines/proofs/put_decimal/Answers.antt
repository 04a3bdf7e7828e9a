-- `trace_lines::put_decimal`: the remaining digits before the written ones are the whole number.
use mathlib.Core.Path.{◌≡◌, refl, ap, ◌∙◌}
use Prim.Native.Nat.{ℕ, ◌+◌, ◌-◌, ◌*◌, ◌%◌, ◌^◌, ◌≤◌, ◌<◌}
use native.Mathlib.Omega.{arith}
use mathlib.Core.List.{List}
use lib.ListN.{length, set, length-set}
use lib.Seq.{sets}
use borrow.Author.Rules.{rules}
use Rattle.trace_lines.proofs.Digits.{spell_next, spell_last, some_left, fewer, most, part, part_short}
use Rattle.trace_lines.proofs.put_decimal.Goals as goal

pub loop-y-init : goal.loop-y-init
loop-y-init c = (search rules, search rules, most _ (search rules), refl)

pub overflow_sub-i : goal.overflow_sub-i
overflow_sub-i c = omega (arith, some_left c.loop-y.i c.loop-y.y c.loop-y-test.true c.loop-y.invariant.2)

pub loop-y-preserved : goal.loop-y-preserved
loop-y-preserved c =
    let l = c.loop-y in
    let h = c.loop-y-test.true in
    let s = some_left l.i l.y h l.invariant.2 in
    (omega (arith, s), simp length-set l.invariant.1, fewer l.i l.y h l.invariant.2, spell_next l.i l.y l.digits _ h (search rules) refl s ∙ l.invariant.3)

pub returns : goal.returns
returns c =
    let q = c.before.before in
    let o = q.before.before.before.before in
    let l = o.loop-y in
    let a = o.args in
    let n : length (set l.digits l.i (48 + l.y)) ≡ 20 = simp length-set l.invariant.1 in
    let t = part l.i (set l.digits l.i (48 + l.y)) _ n (spell_last l.i l.y l.digits _ o.loop-y-test.false (search rules) refl ∙ l.invariant.3) in
    (q.put.ensures.0 ∙ ap (λ (z : List ℕ). sets a.line.now a.at z) t, q.put.ensures.1 ∙ ap (λ (z : List ℕ). a.at + length z) t, omega (arith, q.put.ensures.1, part_short l.i (set l.digits l.i (48 + l.y)) n))
