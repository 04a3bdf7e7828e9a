-- `decibels::Ramp::level_at` meets its contract: the dividend is at most 601 * 65,535. Assumes nothing.
use mathlib.Core.Path.{sym, subst}
use Prim.Native.Nat.{ℕ, ◌+◌, ◌-◌, ◌*◌, ◌≤◌}
use native.Mathlib.Omega.{arith}
use borrow.Author.Rules.{rules}
use Rattle.decibels.proofs.Ramps.{one_frame, more_frames, between, weighed}
use Rattle.decibels.proofs.Ramp.level_at.Goals.{Else-self-eq1}
use Rattle.decibels.proofs.Ramp.level_at.Goals as goal

small : (c : Else-self-eq1) → c.args.self.start * (c.args.self.count - 1 - c.args.i) + c.args.self.end * c.args.i ≤ 39386535
small c =
    let r = c.args.self in
    weighed _ _ _ _ r.start_bound r.end_bound r.count_bound c.requires

pub returns-then-self-eq1 : goal.returns-then-self-eq1
returns-then-self-eq1 c = (sym (one_frame _ _ _ _ c.if-self-eq1.true), search rules)

pub overflow_mul-sum : goal.overflow_mul-sum
overflow_mul-sum c = omega (arith, small (goal.at.overflow_mul-sum c).Else-self-eq1)

pub overflow_mul-sum-2 : goal.overflow_mul-sum-2
overflow_mul-sum-2 c = omega (arith, small (goal.at.overflow_mul-sum-2 c).Else-self-eq1)

pub overflow_add-sum : goal.overflow_add-sum
overflow_add-sum c = omega (arith, small (goal.at.overflow_add-sum c).Else-self-eq1)

pub returns : goal.returns
returns c =
    let r = c.args.self in
    let e = sym (more_frames r.start r.end r.count c.args.i c.if-self-eq1.false) in
    (e, subst (λ (l : ℕ). l ≤ 601) (sym e) (between r.start r.end r.count c.args.i 0 601 c.requires (omega arith) (omega arith) r.start_bound r.end_bound).1)
