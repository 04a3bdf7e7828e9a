-- `transport::Transport::decrement_position` meets its contract: each arm is a case of `backward`.
-- Assumes nothing.
use Prim.Native.Nat.{ℕ, ◌<◌}
use mathlib.Core.Path.{◌≡◌, sym}
use native.Mathlib.Omega.{arith}
use Rattle.playback_position.proofs.Ranges.{ordered_more}
use Rattle.transport.proofs.Wraps.{back_inside, back_start, back_wrap}
use Rattle.transport.proofs.Steps.{backward_still, backward_looped, backward_ended, backward_plain}
use Rattle.transport.proofs.Transport.decrement_position.Goals.{In-Some, in_default-via-in-Some+else-self-start, in_default-via-in_default}
use Rattle.transport.proofs.Transport.decrement_position.Goals as goal

-- in the loop's arm the loop is not empty
more : (c : In-Some) → c.in-Some.start < c.in-Some.end
more c = ordered_more c.in-Some.start c.in-Some.end c.in-Some.is c.requires

pub returns-then-self-start-2 : goal.returns-then-self-start-2
returns-then-self-start-2 c =
    sym (backward_looped c.args.self _ _ _ c.if-self.true c.in-Some.is (back_start _ _ _ (more (goal.at.returns-then-self-start-2 c).In-Some) c.if-self-start-2.true))

pub returns-else-self-start-2 : goal.returns-else-self-start-2
returns-else-self-start-2 c =
    sym (backward_looped c.args.self _ _ _ c.if-self.true c.in-Some.is (back_wrap _ _ _ (more (goal.at.returns-else-self-start-2 c).In-Some) c.if-self-start.true))

-- no position above a loop's start is 0
never : {s p : ℕ} → s < p → p ≡ 0 → ⊥
never h z = omega arith

pub returns-in_default : goal.returns-in_default
returns-in_default c = elim c.in_default.branch [
  | in_default-via-in-Some+else-self-start w ↦ absurd (never w.if-self-start.false c.if-self-eq0.true)
  | in_default-via-in_default w ↦ sym (backward_ended c.args.self c.if-self.true w.in_default.is c.if-self-eq0.true)
]

pub returns-in_default-2 : goal.returns-in_default-2
returns-in_default-2 c =
    let u = c.args.self in
    elim c.in_default.branch [
      | in_default-via-in-Some+else-self-start w ↦ sym (backward_looped u _ _ _ c.if-self.true w.in-Some.is (back_inside _ _ u.position w.if-self-start.false))
      | in_default-via-in_default w ↦ sym (backward_plain u c.if-self.true w.in_default.is c.if-self-eq0.false)
    ]

pub returns-else-self : goal.returns-else-self
returns-else-self c = sym (backward_still _ c.if-self.false)
