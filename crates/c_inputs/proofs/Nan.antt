-- The bits of `f64::NAN` are a NaN. Assumes nothing.
use mathlib.Core.Path.{◌≡◌, refl}
use lib.Ieee.{Float, of_bits, binary64, nan}

pub nan_is : of_bits binary64 9221120237041090560 ≡ nan
unfolding of_bits
nan_is = refl
