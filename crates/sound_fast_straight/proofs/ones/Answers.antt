-- `ones` reads one frame per iteration at consecutive positions. The invariant: the scan so far.
use mathlib.Core.Path.{refl, subst}
use Prim.Native.Nat.{ℕ, ◌<◌}
use lib.Ieee.{Float}
use Rattle.numbers.specs.Words.{advance}
use Rattle.sound_fast_reading.specs.Moves.{Move}
use Rattle.sound_fast_straight.proofs.Consecutive.{passed, room_on, straight_more}
use Rattle.sound_fast_straight.proofs.ones.Goals as goal

pub loop-r-preserved : goal.loop-r-preserved
loop-r-preserved g c =
    let a = c.args in
    let r = c.loop-r.r in
    let k = a.way.track in
    straight_more a.sound.now a.way (g.R.Rates.list a.rates) c.requires.scannable r.next r.steps r.at r.fractional_position c.loop-r.out _ c.moved-m.result _ _ _ _
    c.loop-r.invariant (subst (λ (n : ℕ). r.next < n) c.count.ensures c.loop-r-test.true) c.read-x.ensures
    (subst (λ (q : Float). Move r.fractional_position (advance a.way.sample_rate q a.way.dt) c.moved-m.result) c.rate.ensures c.moved-m.ensures)
    (c.straight_on.ensures.value, room_on k r.at c.loop-r.invariant.on _ (passed k _ r.at _ c.is_straight.ensures c.if-not-is_straight.false))
    refl refl c.store.ensures
