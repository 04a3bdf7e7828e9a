-- `trace_lines::put_labelled`: a word, then its number.
use native.Mathlib.Omega.{arith}
use mathlib.Core.List.{[], ◌∷◌, ◌++◌}
use Rattle.trace_lines.specs.Lines.{decimal, block·is, frames·are, steps·are, state·is, position·is, refused·by, at·is}
use Rattle.trace_lines.proofs.Digits.{then}
use Rattle.trace_lines.proofs.put_labelled.Goals as goal

pub returns : goal.returns
returns c =
    let d = c.before.before in
    let p = d.before.before.before.before in
    let a = p.args in
    let t = then a.line.now _ _ a.word.now (decimal a.n) a.at p.put-a.result d.put_decimal.result p.put-a.ensures.0 p.put-a.ensures.1 d.put_decimal.ensures.0 d.put_decimal.ensures.1 in
    (t.0, t.1, omega (arith, p.put-a.ensures.1, d.put_decimal.ensures.2))
