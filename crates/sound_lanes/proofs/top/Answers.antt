-- `sound_lanes::top` meets its contract: up to the largest number the top bit is the sign, and what is not up to that is refused. Assumes nothing.
use mathlib.Core.Path.{sym, subst}
use lib.Dec.{T}
use lib.Ieee.{of_bits, nan_bits}
use Rattle.numbers.proofs.Signs.{finite_clear_bits}
use Rattle.sound_lanes.specs.Lanes.{low}
use Rattle.sound_lanes.proofs.Largest.{at_most_number, at_most_below, above_refused}
use borrow.Author.Rules.{rules}
use Rattle.sound_lanes.proofs.top.Goals as goal

pub float_from_bits-largest : goal.float_from_bits-largest
unfolding nan_bits
float_from_bits-largest c = search rules

pub float_to_bits-result : goal.float_to_bits-result
unfolding of_bits
float_to_bits-result c = at_most_number c.args.x _ c.if-x-largest.true

pub returns-then-x-largest : goal.returns-then-x-largest
unfolding of_bits low
returns-then-x-largest c = finite_clear_bits c.args.x (subst T (sym c.well_formed.0.1) tt) (at_most_below c.args.x c.if-x-largest.true)

pub returns-else-x-largest : goal.returns-else-x-largest
unfolding of_bits low
returns-else-x-largest c = sym (above_refused c.args.x (subst T (sym c.well_formed.0.1) tt) c.if-x-largest.false)
