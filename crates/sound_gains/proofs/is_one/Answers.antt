-- `is_one`: a number that equals 1 is 1.
use mathlib.Core.Path.{refl, sym, subst}
use lib.Dec.{T}
use lib.Ieee.{binary32, of_bits, eq, fits}
use Rattle.numbers.proofs.Equal.{eq_same}
use Rattle.sound_gains.proofs.is_one.Goals as goal

pub returns : goal.returns
unfolding of_bits
returns c = λ e. eq_same binary32 _ _ (subst T (sym c.well_formed.0.1) tt) (unfold fits in tt) (unfold eq in refl) e
