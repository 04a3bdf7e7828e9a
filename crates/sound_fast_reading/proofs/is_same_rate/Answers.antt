-- `is_same_rate`: what is equal by its bits is equal.
use mathlib.Core.Path.{◌≡◌, sym, ap, ◌∙◌, subst}
use mathlib.Core.Bool.{true}
use lib.Dec.{T, eqb}
use lib.Ieee.{Float, binary64, fits, to_bits, of_bits}
use lib.Ieee.Bits.{of_bits-to_bits}
use borrow.Author.Tests.{eqb-true}
use Rattle.sound_fast_reading.proofs.is_same_rate.Goals as goal

same : (a b : Float) → T (fits binary64 a) → T (fits binary64 b) → eqb (to_bits binary64 a) (to_bits binary64 b) ≡ true → a ≡ b
same a b f g e = sym (of_bits-to_bits binary64 a f) ∙ ap (of_bits binary64) (eqb-true (to_bits binary64 a) (to_bits binary64 b) e) ∙ of_bits-to_bits binary64 b g

pub returns : goal.returns
returns c = λ e. same _ _ (subst T (sym c.well_formed.0.1) tt) (subst T (sym c.well_formed.1.0.1) tt) e
