-- `wrapping` reads two frames per iteration and chooses each position, so that it wraps at the loop's edge. The invariant: the scan so far.
use Prim.Native.Nat.{ℕ, ◌+◌, ◌<◌}
use mathlib.Core.Path.{subst}
use lib.Ieee.{Float}
use Rattle.numbers.specs.Words.{advance}
use Rattle.sound_fast_reading.specs.Moves.{Move}
use Rattle.sound_fast_reading.specs.Scans.{Scanned}
use Rattle.sound_fast_reading.proofs.Scans.{place}
use Rattle.sound_fast_wrapping.proofs.TwoFrames.{two_more}
use Rattle.sound_fast_wrapping.proofs.wrapping.Given.{Over}
use Rattle.sound_fast_wrapping.proofs.wrapping.Goals.{After-after_steps}
use Rattle.sound_fast_wrapping.proofs.wrapping.Goals as goal

more : (g : Over) (c : After-after_steps g)
    → let a = c.args in
    let r = c.loop-r.r in
    let s = c.moved-a.result in
    let h = c.moved-b.result in
    Scanned a.sound.now a.way (g.R.Rates.list a.rates) (place c.after_steps.result h.fraction (r.steps + s.steps + h.steps) (r.next + 2)) c.store-in-loop-r.new.out
more g c =
    let a = c.args in
    let r = c.loop-r.r in
    let s = c.moved-a in
    let h = c.moved-b in
    let adv = λ (q : Float). advance a.way.sample_rate q a.way.dt in
    two_more a.sound.now a.way (g.R.Rates.list a.rates) c.requires.scannable r c.loop-r.out c.loop-r.invariant (subst (λ (n : ℕ). r.next + 1 < n) c.count.ensures c.loop-r-test.true)
    c.read-x.result c.store.new.out c.store.ensures c.read-y.result c.store-in-loop-r.new.out c.store-in-loop-r.ensures
    s.result h.result c.after_steps-half.result c.after_steps.result c.has_room.result
    (subst (λ (q : Float). Move r.fractional_position (adv q) s.result) c.rate.ensures s.ensures)
    (subst (λ (q : Float). Move s.result.fraction (adv q) h.result) c.rate-in-loop-r.ensures h.ensures)
    c.has_room.ensures c.if-not-has_room.false c.after_steps-half.ensures.value c.after_steps.ensures.value c.read-x.ensures c.read-y.ensures

pub returns-then-is_straight : goal.returns-then-is_straight
returns-then-is_straight g c = more g (goal.at.returns-then-is_straight g c).After-after_steps

pub loop-r-preserved : goal.loop-r-preserved
loop-r-preserved g c = more g (goal.at.loop-r-preserved g c).After-after_steps
