-- Bits that are a number. Assumes nothing.
use mathlib.Core.Path.{sym, subst}
use Prim.Native.Nat.{ℕ, ◌%◌, ◌<◌}
use native.Mathlib.Nat.{le_of_lt}
use mathlib.Core.Bool.{Bool, not}
use lib.Dec.{T}
use lib.Ieee.{binary64, nan_bits}
use lib.Ieee.Bits.{nan_bits_above}
use borrow.Author.Tests.{le-ltb}

pub number : (bits : ℕ) → bits % 9223372036854775808 < 9218868437227405312 → T (not (nan_bits binary64 bits))
number bits h = subst (λ (b : Bool). T (not b)) (sym (nan_bits_above binary64 bits)) (subst (λ (b : Bool). T (not b)) (sym (le-ltb 9218868437227405312 (bits % 9223372036854775808) (le_of_lt h))) tt)
