-- `cableowl_stretch` meets its contract: `stretch` returns no sample exactly if the state is refused, and otherwise begins at twice the slice's start.
use native.Mathlib.Omega.{arith}
use Rattle.cableowl.proofs.Parts.{part_none, part_fits, part_is}
use Rattle.cableowl.proofs.cableowl_stretch.Goals as goal

pub returns-then-length-eq0 : goal.returns-then-length-eq0
returns-then-length-eq0 c =
    let e = c.before in
    let a = e.args in
    part_none a.sound.now a.state _ _ e.from-voice.ensures e.stretch-part.ensures.result_value c.if-length-eq0.true

pub overflow_mul-result : goal.overflow_mul-result
overflow_mul-result c =
    let e = c.before.before.before in
    let a = e.args in
    let f = part_fits a.sound.now a.state _ _ e.from-voice.ensures e.stretch-part.ensures.result_value c.if-length-eq0.false in
    omega (arith, f, c.start.ensures)

pub returns : goal.returns
returns c =
    let e = c.before.before.before in
    let a = e.args in
    part_is a.sound.now a.state _ _ e.from-voice.ensures e.stretch-part.ensures.result_value c.if-length-eq0.false _ c.start.ensures
