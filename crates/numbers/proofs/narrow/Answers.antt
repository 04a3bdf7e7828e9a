-- `numbers::narrow` meets its contract: `proofs/Narrowing.antt` has the proof. Assumes nothing.
use Rattle.std.proofs.Common.{not, ◌&&◌, T, sym, subst, inl, inr, arith}
use lib.Ieee.{Float, binary32, fits, is_nan}
use Rattle.numbers.proofs.Narrowing.{Narrows, narrows, proper_no_nan, magic_no_nan, narrowed_fits}
use Rattle.numbers.proofs.narrow.Goals as goal
use Rattle.numbers.proofs.narrow.Goals.{then-field-lt897, else-field-lt897, Joined-field-lt897}

pub float_to_bits-bits : goal.float_to_bits-bits
float_to_bits-bits c = proper_no_nan c.args.x c.requires

all : (c : Joined-field-lt897) → Narrows c.args.x c.if-field-lt897.at
all c =
    narrows c.args.x c.if-field-lt897.at (subst T (sym c.well_formed.0.1) tt) c.requires
    (elim c.if-field-lt897.branch [
      | then-field-lt897 w ↦ let e = w.at-is in record { least = omega arith; field = omega arith; which = inl e }
      | else-field-lt897 w ↦ let e = w.at-is in record { least = omega arith; field = omega arith; which = inr e }
    ])

pub overflow_add-c : goal.overflow_add-c
overflow_add-c c = let h = (all (goal.at.overflow_add-c c).Joined-field-lt897).small in omega arith

pub float_from_bits-c : goal.float_from_bits-c
float_from_bits-c c = magic_no_nan c.if-field-lt897.at (all (goal.at.float_from_bits-c c).Joined-field-lt897).small

pub float_to_float-result : goal.float_to_float-result
float_to_float-result c =
    subst (λ (z : Float). T (fits binary32 z && not (is_nan z))) (sym (all (goal.at.float_to_float-result c).Joined-field-lt897).result) (narrowed_fits c.args.x c.requires)

pub returns : goal.returns
returns c = (all (goal.at.returns c).Joined-field-lt897).result
