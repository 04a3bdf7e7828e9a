-- `trace_inputs::lane_of`: what is still to store, stored, is the whole lane stored.
use Rattle.std.proofs.Common.{◌≡◌, ◌+◌, ◌*◌, ℕ, length, replicate, take, drop, sym, ap, ◌∙◌}
use Rattle.std.proofs.Math.ListN.{length-set}
use Rattle.std.proofs.lemmas.List.Edits.{sets}
use Rattle.byte_layout.specs.Numbers.{num}
use Rattle.trace_inputs.proofs.LaneLoops.{store_start, store_next, store_end}
use Rattle.trace_inputs.proofs.lane_of.Goals as goal

pub loop-i-preserved : goal.loop-i-preserved
loop-i-preserved g c =
    let t = g.T.LaneValue in
    let a = c.args in
    let l = c.loop-i in
    let bits = c.number_of.ensures ∙ ap (λ (w : ℕ). num (take w (drop (a.at + 24 * l.i) a.bytes.now))) c.WIDTH.ensures in (
      simp length-set l.invariant.0,
      store_next t.WIDTH t.value a.bytes.now a.at a.frames l.i l.lane _ c.loop-i-test.true (c.of_bits.ensures ∙ ap t.value bits) ∙ l.invariant.1,
    )

pub returns : goal.returns
returns g c =
    let t = g.T.LaneValue in
    let a = c.args in
    let l = c.loop-i in
    sym (store_end t.WIDTH t.value a.bytes.now a.at a.frames l.i l.lane c.loop-i-test.false) ∙ l.invariant.1
    ∙ ap (λ z. sets (replicate 1024 (t.value 0)) 0 z) (store_start t.WIDTH t.value a.bytes.now a.at a.frames)
