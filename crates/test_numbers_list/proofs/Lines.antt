-- A line's fields stay below their width's power of 16, and its kind picks one test. Assumes nothing.
use mathlib.Core.Path.{◌≡◌, sym, ap, ap₂, ◌∙◌}
use Prim.Native.Nat.{ℕ, zero, suc, ◌+◌, ◌*◌, ◌%◌, ◌^◌, ◌≤◌, ◌<◌}
use native.Mathlib.Nat.{mod-lt, pow-suc, pow-le-pow_right}
use native.Mathlib.Numerals.{add-one}
use native.Mathlib.Omega.{arith}
use mathlib.Core.Bool.{Bool, true, false, cond}
use mathlib.Core.List.{List}
use lib.Bits.{bit_and, and_mask}
use lib.Dec.{ltb, eqb, lit<}
use lib.ListN.{get_or}
use lib.Ieee.{Float, binary64, of_bits, nan_bits}
use lib.Ieee.Bits.{nan_bits_above}
use borrow.Author.Tests.{lt-ltb, le-ltb, eq-eqb, ne_eqb}
use Rattle.numbers.specs.Frames.{rounded, cut_off}
use Rattle.test_numbers_list.specs.Lines.{digit, number, product, narrows_to, measures, right, agrees}

-- ---- fields
pub digit_lt : (b : ℕ) → digit b < 16
digit_lt b = go (ltb b 58)
  where
    go : (t : Bool) → cond t (b % 16) ((b + 9) % 16) < 16
    go true = mod-lt b (lit< tt)
    go false = mod-lt (b + 9) (lit< tt)

pub number_lt : (line : List ℕ) (at n : ℕ) → number line at n < 16 ^ n
unfolding number
number_lt line at zero = lit< tt
number_lt line at (suc n) = more (number line at n) (digit (get_or line (at + n) 0)) (16 ^ n) (16 ^ suc n) (number_lt line at n) (digit_lt (get_or line (at + n) 0)) (pow-suc 16 n)
  where
    more : (v d p q : ℕ) → v < p → d < 16 → q ≡ p * 16 → v * 16 + d < q
    more v d p q h k e = omega arith

-- one more digit fits 64 bits
pub room : (line : List ℕ) (at i n : ℕ) → i < n → n ≤ 16 → number line at i < 2 ^ 60
room line at i n h k = below (number line at i) (16 ^ i) (number_lt line at i) (pow-le-pow_right (lit< tt) (last i n h k))
  where
    last : (i n : ℕ) → i < n → n ≤ 16 → i ≤ 15
    last i n h k = omega arith

    below : (v p : ℕ) → v < p → p ≤ 16 ^ 15 → v < 2 ^ 60
    below v p h k = omega arith

pub number_more : (line : List ℕ) (at n : ℕ) → number line at (n + 1) ≡ number line at n * 16 + digit (get_or line (at + n) 0)
unfolding number
number_more line at n = ap (number line at) (add-one n)

-- the test of a NaN's pattern
nan_test : (n : ℕ) → nan_bits binary64 n ≡ ltb 0x7ff0_0000_0000_0000 (bit_and n 0x7fff_ffff_ffff_ffff)
nan_test n = nan_bits_above binary64 n ∙ sym (ap (ltb 0x7ff0_0000_0000_0000) (and_mask n 63))

-- ---- kinds
module _ (k : ℕ) (x : Float) (rate e : ℕ) where
  pub kind_n : k ≡ 110 → narrows_to x e ≡ right k x rate e
  unfolding right
  kind_n p = rw (eq-eqb k 110 p)

  pub kind_r : (k ≡ 110 → ⊥) → k ≡ 114 → eqb (rounded (product x rate)) e ≡ right k x rate e
  unfolding right
  kind_r n p = rw (ne_eqb k 110 n, eq-eqb k 114 p)

  pub kind_c : (k ≡ 110 → ⊥) → (k ≡ 114 → ⊥) → k ≡ 99 → eqb (cut_off (product x rate)) e ≡ right k x rate e
  unfolding right
  kind_c n r p = rw (ne_eqb k 110 n, ne_eqb k 114 r, eq-eqb k 99 p)

  pub kind_m : (k ≡ 110 → ⊥) → (k ≡ 114 → ⊥) → (k ≡ 99 → ⊥) → k ≡ 109 → measures x e ≡ right k x rate e
  unfolding right
  kind_m n r c p = rw (ne_eqb k 110 n, ne_eqb k 114 r, ne_eqb k 99 c, eq-eqb k 109 p)

  pub kind_other : (k ≡ 110 → ⊥) → (k ≡ 114 → ⊥) → (k ≡ 99 → ⊥) → (k ≡ 109 → ⊥) → false ≡ right k x rate e
  unfolding right
  kind_other n r c m = rw (ne_eqb k 110 n, ne_eqb k 114 r, ne_eqb k 99 c, ne_eqb k 109 m)

-- ---- a line
abbrev answered : List ℕ → Bool
answered line = right (get_or line 0 0) (of_bits binary64 (number line 2 16)) (number line 19 8) (number line 28 16)

pub is_nan : (n : ℕ) → 0x7ff0_0000_0000_0000 < bit_and n 0x7fff_ffff_ffff_ffff → nan_bits binary64 n ≡ true
is_nan n h = nan_test n ∙ lt-ltb _ _ h

pub no_nan : (n : ℕ) → bit_and n 0x7fff_ffff_ffff_ffff ≤ 0x7ff0_0000_0000_0000 → nan_bits binary64 n ≡ false
no_nan n h = nan_test n ∙ le-ltb _ _ h

pub no_case : (line : List ℕ) (bits : ℕ) → bits ≡ number line 2 16 → 0x7ff0_0000_0000_0000 < bit_and bits 0x7fff_ffff_ffff_ffff → false ≡ agrees line
unfolding agrees
no_case line bits e h = sym (ap (λ (b : Bool). cond b false (answered line)) (ap (nan_bits binary64) (sym e) ∙ is_nan bits h))

pub a_case : (line : List ℕ) (bits rate e : ℕ) → bits ≡ number line 2 16 → bit_and bits 0x7fff_ffff_ffff_ffff ≤ 0x7ff0_0000_0000_0000 → rate ≡ number line 19 8 → e ≡ number line 28 16
    → right (get_or line 0 0) (of_bits binary64 bits) rate e ≡ agrees line
unfolding agrees
a_case line bits rate e p h q r =
    ap (λ (n : ℕ). right (get_or line 0 0) (of_bits binary64 n) rate e) p
    ∙ ap₂ (λ (n m : ℕ). right (get_or line 0 0) (of_bits binary64 (number line 2 16)) n m) q r
    ∙ sym (ap (λ (b : Bool). cond b false (answered line)) (ap (nan_bits binary64) (sym p) ∙ no_nan bits h))
