-- `trace_lines::put_refused`: its parts one after the other.
use native.Mathlib.Omega.{arith}
use mathlib.Core.List.{[], ◌∷◌, ◌++◌}
use Rattle.trace_lines.specs.Lines.{labelled, block·is, frames·are, steps·are, state·is, position·is, refused·by, at·is, refused_line}
use Rattle.trace_lines.proofs.Digits.{then}
use Rattle.trace_lines.proofs.put_refused.Goals as goal

pub returns : goal.returns
unfolding refused_line
returns c =
    let p = c.before.before in
    let b = p.before.before.before.before.before in
    let f = b.before.before.before.before.before in
    let a = f.args in
    let x = labelled (refused·by) a.refusal in
    let y = labelled (at·is) a.at in
    let t = then f.put_labelled-a.new.line b.put_labelled-b.new.line p.put.new.line y (10 ∷ []) f.put_labelled-a.result b.put_labelled-b.result p.put.result b.put_labelled-b.ensures.0 b.put_labelled-b.ensures.1 p.put.ensures.0 p.put.ensures.1 in
    let s = then a.line.now f.put_labelled-a.new.line p.put.new.line x (y ++ (10 ∷ [])) 0 f.put_labelled-a.result p.put.result f.put_labelled-a.ensures.0 f.put_labelled-a.ensures.1 t.0 t.1 in
    (s.0, omega (arith, s.1), omega (arith, f.put_labelled-a.ensures.2, b.put_labelled-b.ensures.2, p.put.ensures.1))
