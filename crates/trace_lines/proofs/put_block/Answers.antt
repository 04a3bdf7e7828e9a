-- `trace_lines::put_block`: its parts one after the other.
use native.Mathlib.Omega.{arith}
use mathlib.Core.List.{[], ◌∷◌, ◌++◌}
use Rattle.trace_lines.specs.Lines.{labelled, block·is, frames·are, steps·are, state·is, position·is, refused·by, at·is, block_line}
use Rattle.trace_lines.proofs.Digits.{then}
use Rattle.trace_lines.proofs.put_block.Goals as goal

pub returns : goal.returns
unfolding block_line
returns c =
    let p = c.before.before in
    let i = p.before.before.before.before.before in
    let h = i.before.before.before.before.before in
    let g = h.before.before.before.before.before in
    let f = g.before.before.before.before.before in
    let e = f.before.before.before.before.before in
    let a = e.args in
    let v = labelled position·is a.position in
    let u = labelled state·is a.state in
    let t = labelled steps·are a.steps in
    let s = labelled frames·are a.frames in
    let r = labelled block·is a.number in
    let z = p.put.result in
    let k = then h.put_labelled-d.new.line i.put_labelled-e.new.line p.put.new.line v (10 ∷ []) h.put_labelled-d.result i.put_labelled-e.result z i.put_labelled-e.ensures.0 i.put_labelled-e.ensures.1 p.put.ensures.0 p.put.ensures.1 in
    let l = then g.put_labelled-c.new.line h.put_labelled-d.new.line p.put.new.line u (v ++ (10 ∷ [])) g.put_labelled-c.result h.put_labelled-d.result z h.put_labelled-d.ensures.0 h.put_labelled-d.ensures.1 k.0 k.1 in
    let m = then f.put_labelled-b.new.line g.put_labelled-c.new.line p.put.new.line t (u ++ (v ++ (10 ∷ []))) f.put_labelled-b.result g.put_labelled-c.result z g.put_labelled-c.ensures.0 g.put_labelled-c.ensures.1 l.0 l.1 in
    let n = then e.put_labelled-a.new.line f.put_labelled-b.new.line p.put.new.line s (t ++ (u ++ (v ++ (10 ∷ [])))) e.put_labelled-a.result f.put_labelled-b.result z f.put_labelled-b.ensures.0 f.put_labelled-b.ensures.1 m.0 m.1 in
    let o = then a.line.now e.put_labelled-a.new.line p.put.new.line r (s ++ (t ++ (u ++ (v ++ (10 ∷ []))))) 0 e.put_labelled-a.result z e.put_labelled-a.ensures.0 e.put_labelled-a.ensures.1 n.0 n.1 in
    (o.0, omega (arith, o.1), omega (arith, e.put_labelled-a.ensures.2, f.put_labelled-b.ensures.2, g.put_labelled-c.ensures.2, h.put_labelled-d.ensures.2, i.put_labelled-e.ensures.2, p.put.ensures.1))
