-- `fours` reads four frames per iteration at consecutive positions. The invariant: the scan so far.
use mathlib.Core.Path.{subst}
use Prim.Native.Nat.{ℕ, ◌+◌, ◌<◌}
use native.Mathlib.Omega.{arith}
use Rattle.sound_fast_reading.proofs.Scans.{place}
use Rattle.sound_fast_straight.proofs.Consecutive.{passed, window_on, straight_four}
use Rattle.sound_fast_straight.proofs.fours.Goals as goal

pub read-x-requires-clause-far_enough : goal.read-x-requires-clause-far_enough
read-x-requires-clause-far_enough g c =
    let k = c.args.way.track in
    let r = place c.loop-i.at c.loop-i.fractional_position c.loop-i.steps c.loop-i.i in
    window_on k r.at c.loop-i.invariant.on _ _ _ (passed k _ r.at _ c.is_straight.ensures c.if-not-is_straight.false) (omega arith) c.straight_on.ensures.value

pub read-y-requires-clause-far_enough : goal.read-y-requires-clause-far_enough
read-y-requires-clause-far_enough g c =
    let k = c.args.way.track in
    let r = place c.loop-i.at c.loop-i.fractional_position c.loop-i.steps c.loop-i.i in
    window_on k r.at c.loop-i.invariant.on _ _ _ (passed k _ r.at _ c.is_straight.ensures c.if-not-is_straight.false) (omega arith) c.straight_on-in-loop-i.ensures.value

pub read-z-requires-clause-far_enough : goal.read-z-requires-clause-far_enough
read-z-requires-clause-far_enough g c =
    let k = c.args.way.track in
    let r = place c.loop-i.at c.loop-i.fractional_position c.loop-i.steps c.loop-i.i in
    window_on k r.at c.loop-i.invariant.on _ _ _ (passed k _ r.at _ c.is_straight.ensures c.if-not-is_straight.false) (omega arith) c.straight_on-in-loop-i-2.ensures.value

pub loop-i-preserved : goal.loop-i-preserved
loop-i-preserved g c =
    let a = c.args in
    let m = c.four_moves-m in
    let k = a.way.track in
    let r = place c.loop-i.at c.loop-i.fractional_position c.loop-i.steps c.loop-i.i in
    straight_four a.sound.now a.way (g.R.Rates.list a.rates) c.requires.scannable r c.loop-i.out m.result _ _ _ _ _ _ _ _ _ _ _ _
    c.loop-i.invariant (subst (λ (n : ℕ). r.next + 3 < n) c.count.ensures c.loop-i-test.true) (m.ensures.fact, (m.ensures.fact_2, (m.ensures.fact_3, m.ensures.fact_4))) (passed k _ r.at _ c.is_straight.ensures c.if-not-is_straight.false)
    c.straight_on.ensures.value c.straight_on-in-loop-i.ensures.value c.straight_on-in-loop-i-2.ensures.value c.straight_on-at.ensures.value
    c.read-w.ensures c.read-x.ensures c.read-y.ensures c.read-z.ensures
    c.store.ensures c.store-in-loop-i.ensures c.store-in-loop-i-2.ensures c.store-in-loop-i-3.ensures
