-- `trace_salvage::salvage_by`: the rest, done, completes the whole salvage.
use native.Mathlib.Omega.{arith}
use mathlib.Core.Path.{refl, ◌∙◌}
use borrow.Author.Rules.{rules}
use Rattle.trace_salvage.proofs.Keeps.{refused_short, saved}
use Rattle.trace_salvage.proofs.salvage_by.Goals as goal

pub returns-then-out-s : goal.returns-then-out-s
returns-then-out-s c = refused_short _ _ _ c.if-out-s.true

pub loop-t-init : goal.loop-t-init
loop-t-init c = (search rules, search rules, search rules, search rules, refl, refl, omega arith, omega arith, refl)

pub step-t-requires : goal.step-t-requires
step-t-requires c =
    let l = c.loop-t in
    (c.loop-t-test.true, l.invariant.1, l.invariant.2, l.invariant.3, omega (arith, l.invariant.4, c.if-out-s.false))

pub loop-t-smaller : goal.loop-t-smaller
loop-t-smaller c = omega (arith, c.step-t.ensures.on, c.loop-t-test.true)

pub loop-t-preserved : goal.loop-t-preserved
loop-t-preserved c =
    let q = c.step-t.ensures in
    let l = c.loop-t in
    (q.inside, q.room, q.few, q.some, q.long ∙ l.invariant.4, q.same ∙ l.invariant.5, q.count ∙ l.invariant.6, q.whole ∙ l.invariant.7, q.place ∙ l.invariant.8)

pub shape_of-out : goal.shape_of-out
shape_of-out c = c.loop-t.invariant.4

pub returns : goal.returns
returns c =
    let e = c.before in
    let l = e.loop-t in
    saved _ _ _ l.out l.t c.unwrap_or.result e.if-out-s.false e.loop-t-test.false l.invariant.5 l.invariant.6 l.invariant.7 l.invariant.8 c.unwrap_or.ensures
