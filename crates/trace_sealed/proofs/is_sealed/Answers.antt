-- `trace_sealed::is_sealed` meets its contract: by the third byte. Assumes nothing.
use native.Mathlib.Omega.{arith}
use Rattle.byte_layout.proofs.Codec.{never}
use Rattle.trace_sealed.proofs.Ways.{too_few, third}
use Rattle.trace_sealed.proofs.is_sealed.Goals as goal

pub returns-then-s-at : goal.returns-then-s-at
returns-then-s-at c = let a = c.args in (too_few a.s.now a.at (omega (arith, c.if-s-at.true)), λ z. never z)

pub returns-then-s-at-lt3 : goal.returns-then-s-at-lt3
returns-then-s-at-lt3 c = let a = c.args in (too_few a.s.now a.at (omega (arith, c.if-s-at-lt3.true)), λ z. never z)

pub returns : goal.returns
returns c = let a = c.args in (third a.s.now a.at, λ z. omega arith)
