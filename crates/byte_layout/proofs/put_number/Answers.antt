-- `byte_layout::put_number`: what is still to store, stored, is the whole number stored.
use mathlib.Core.Path.{sym, ◌∙◌}
use lib.ListN.{length-set}
use Rattle.byte_layout.proofs.Puts.{byte_next, byte_last}
use Rattle.byte_layout.proofs.put_number.Goals as goal

pub loop-i-preserved : goal.loop-i-preserved
loop-i-preserved c =
    let l = c.loop-i in
    (simp length-set l.invariant.0, byte_next l.buf l.i _ l.y c.loop-i-test.true ∙ l.invariant.1)

pub returns : goal.returns
returns c =
    let l = c.loop-i in
    sym (byte_last l.buf l.i _ l.y c.loop-i-test.false) ∙ l.invariant.1
