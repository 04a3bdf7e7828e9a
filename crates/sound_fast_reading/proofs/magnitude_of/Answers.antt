-- `magnitude_of` clears the top bit of a number.
use mathlib.Core.Path.{sym, subst}
use lib.Dec.{T}
use Rattle.numbers.proofs.Signs.{by_bits, number_bits}
use Rattle.sound_fast_reading.proofs.magnitude_of.Goals as goal

pub float_from_bits-result : goal.float_from_bits-result
float_from_bits-result c = number_bits c.args.rate c.requires (subst T (sym c.well_formed.0.1) tt)

pub returns : goal.returns
returns c = by_bits c.args.rate c.requires (subst T (sym c.well_formed.0.1) tt)
