-- `is_same`: what is equal by its bits is equal.
use mathlib.Core.Path.{sym, subst}
use lib.Dec.{T}
use Rattle.sound_track.proofs.Same.{eq_number, same_bits}
use Rattle.sound_track.proofs.is_same.Goals as goal

pub float_to_bits-result-then-a-b : goal.float_to_bits-result-then-a-b
float_to_bits-result-then-a-b c = (eq_number _ _ c.if-a-b.true).1

pub returns-then-a-b-clause-a_value : goal.returns-then-a-b-clause-a_value
returns-then-a-b-clause-a_value c = λ e. same_bits _ _ (subst T (sym c.well_formed.0.1) tt) (subst T (sym c.well_formed.1.0.1) tt) e
