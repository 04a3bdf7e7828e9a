-- `interpolate` meets its contract: its operations are the cubic's, one by one, except for the third coefficient, which is a
-- difference (`cubic_turned`).
use mathlib.Core.Path.{sym, subst}
use lib.Dec.{T}
use lib.Ieee.{of_bits}
use Rattle.frame.proofs.Turned.{cubic_turned}
use Rattle.frame.proofs.interpolate.Goals as goal

pub returns : goal.returns
unfolding of_bits
returns c = cubic_turned c.args.previous c.args.current c.args.next_1 c.args.next_2 c.args.fraction (subst T (sym c.well_formed.0.1) tt)
