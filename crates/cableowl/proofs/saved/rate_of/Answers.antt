-- `cableowl::rate_of` meets its contract: finite bits are a number. Assumes nothing.
use mathlib.Core.Path.{◌≡◌, refl, ◌∙◌}
use borrow.Author.Tests.{le-ltb, lt-ltb}
use lib.Ieee.{of_bits}
use Rattle.cableowl.proofs.Numbers.{number}
use Rattle.cableowl.proofs.saved.rate_of.Goals as goal

pub float_from_bits-bits : goal.float_from_bits-bits
float_from_bits-bits c = number _ c.if-bits-lt9218868437227405312.true

pub returns-then-bits-lt9218868437227405312 : goal.returns-then-bits-lt9218868437227405312
returns-then-bits-lt9218868437227405312 c = c.raised.ensures ∙ simp (lt-ltb _ _ c.if-bits-lt9218868437227405312.true)

pub returns-else-bits-lt9218868437227405312 : goal.returns-else-bits-lt9218868437227405312
unfolding of_bits
returns-else-bits-lt9218868437227405312 c = simp (le-ltb _ _ c.if-bits-lt9218868437227405312.false) refl
