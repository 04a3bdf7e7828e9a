-- `is_equal`: equal numbers that are not 0 are the same.
use mathlib.Core.Path.{sym, subst}
use lib.Dec.{T}
use lib.Ieee.{binary32}
use Rattle.numbers.proofs.Equal.{eq_same}
use Rattle.sound_constant.proofs.F32Amount.is_equal.Goals as goal

pub returns : goal.returns
returns c = λ e. eq_same binary32 _ _ (subst T (sym c.well_formed.0.1) tt) (subst T (sym c.well_formed.1.0.1) tt) c.requires e
