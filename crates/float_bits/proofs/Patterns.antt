-- A pattern is a NaN's if and only if it lies above infinity's, its top bit aside. Assumes nothing.
use mathlib.Core.Path.{◌≡◌, refl, sym, ap, subst, ◌∙◌}
use Prim.Native.Nat.{ℕ, ◌≤◌, ◌<◌}
use mathlib.Core.Bool.{Bool, true, false, not, cond, false≢true}
use lib.Bits.{bit_and, and_mask}
use lib.Dec.{T, ltb}
use lib.Ieee.{Float, nan, inf, fin, Format, binary32, binary64, eq, is_nan, of_bits, to_bits, nan_bits}
use Rattle.numbers.proofs.Signs.{equal_self}
use lib.Ieee.Bits.{nan_bits_above}
use borrow.Author.Tests.{lt-ltb, le-ltb}
use Rattle.float_bits.specs.Patterns.{float_of, bits_of}

module _ (n : ℕ) where
  test64 : nan_bits binary64 n ≡ ltb 0x7ff0_0000_0000_0000 (bit_and n 0x7fff_ffff_ffff_ffff)
  test64 = nan_bits_above binary64 n ∙ sym (ap (ltb 0x7ff0_0000_0000_0000) (and_mask n 63))

  test32 : nan_bits binary32 n ≡ ltb 0x7f80_0000 (bit_and n 0x7fff_ffff)
  test32 = nan_bits_above binary32 n ∙ sym (ap (ltb 0x7f80_0000) (and_mask n 31))

  pub is_nan64 : 0x7ff0_0000_0000_0000 < bit_and n 0x7fff_ffff_ffff_ffff → nan_bits binary64 n ≡ true
  is_nan64 h = test64 ∙ lt-ltb _ _ h

  pub no_nan64 : bit_and n 0x7fff_ffff_ffff_ffff ≤ 0x7ff0_0000_0000_0000 → nan_bits binary64 n ≡ false
  no_nan64 h = test64 ∙ le-ltb _ _ h

  pub is_nan32 : 0x7f80_0000 < bit_and n 0x7fff_ffff → nan_bits binary32 n ≡ true
  is_nan32 h = test32 ∙ lt-ltb _ _ h

  pub no_nan32 : bit_and n 0x7fff_ffff ≤ 0x7f80_0000 → nan_bits binary32 n ≡ false
  no_nan32 h = test32 ∙ le-ltb _ _ h

module _ (f : Format) (n : ℕ) where
  pub nan_of : nan_bits f n ≡ true → nan ≡ float_of f n
  unfolding float_of
  nan_of e = sym (ap (λ (b : Bool). cond b nan (of_bits f n)) e)

  pub number_of : nan_bits f n ≡ false → of_bits f n ≡ float_of f n
  unfolding float_of
  number_of e = sym (ap (λ (b : Bool). cond b nan (of_bits f n)) e)

  pub no_nan : nan_bits f n ≡ false → T (not (nan_bits f n))
  no_nan e = subst (λ (b : Bool). T (not b)) (sym e) tt

-- the bits of a NaN, and of a number
pub nan_told : (f : Format) (other : ℕ) (x : Float) → is_nan x ≡ true → other ≡ bits_of f other x
unfolding bits_of eq is_nan
nan_told f other nan h = refl
nan_told f other (inf s) h = absurd (false≢true h)
nan_told f other (fin s m e) h = absurd (false≢true h)

pub number_told : (f : Format) (other : ℕ) (x : Float) → is_nan x ≡ false → to_bits f x ≡ bits_of f other x
unfolding bits_of eq is_nan
number_told f other nan h = absurd (false≢true (sym h))
number_told f other (inf false) h = refl
number_told f other (inf true) h = refl
number_told f other (fin s m e) h = sym (ap (λ (b : Bool). cond b (to_bits f (fin s m e)) other) (equal_self (fin s m e) tt))
