-- The loop of `lane_of`: one more value, and the last. And the numbers that it reads.
use mathlib.Core.Path.{◌≡◌, refl, sym, ap, ◌∙◌}
use Prim.Native.Nat.{ℕ, zero, suc, ◌+◌, ◌-◌, ◌*◌, ◌≤◌, ◌<◌}
use native.Mathlib.Omega.{arith}
use mathlib.Core.List.{List, [], ◌∷◌}
use lib.ListN.{length, take, drop, set, length-drop}
use lib.Seq.{sets, drop-drop, take_all}
use Rattle.byte_layout.specs.Numbers.{num}
use lib.Ieee.{of_bits, nan_bits}
use Rattle.float_bits.specs.Patterns.{float_of}
use Rattle.numbers.specs.Words.{positive_zero}
use Rattle.trace_inputs.specs.Inputs.{single, double, lane_of}

none : {A : Type 0} → ⊥ → A
none e = elim e [ ]

-- no bytes from an offset on
pub past : (bs : List ℕ) (at w : ℕ) → length bs < at → 0 ≡ num (take w (drop at bs))
unfolding num
past bs at w h = go (drop at bs) (omega (arith, length-drop at bs))
  where
    nothing : (w : ℕ) → 0 ≡ num (take w [])
    nothing zero = refl
    nothing (suc w) = refl

    go : (l : List ℕ) → length l ≡ 0 → 0 ≡ num (take w l)
    go [] e = nothing w
    go (x ∷ l) e = none (omega (arith, e))

-- the value of no bits
pub single-zero : single 0 ≡ positive_zero
unfolding float_of of_bits nan_bits
single-zero = refl

pub double-zero : double 0 ≡ positive_zero
unfolding float_of of_bits nan_bits
double-zero = refl

module _ {A : Type 0} (w : ℕ) (value : ℕ → A) where
  pub length_lane : (n : ℕ) (bs : List ℕ) → length (lane_of w value n bs) ≡ n
  unfolding lane_of
  length_lane zero bs = refl
  length_lane (suc n) bs = ap suc (length_lane n (drop 24 bs))

  -- what is left to store after i frames
  unfoldable pub to_store : List ℕ → ℕ → ℕ → ℕ → List A
  to_store bs at n i = lane_of w value (n - i) (drop (at + 24 * i) bs)

  pub store_start : (bs : List ℕ) (at n : ℕ) → to_store bs at n 0 ≡ lane_of w value n (drop at bs)
  unfolding to_store
  store_start bs at n =
      let e : n - 0 ≡ n = omega arith in
      let f : at + 24 * 0 ≡ at = omega arith in
      rw (e, f) refl

  pub store_next : (bs : List ℕ) (at n i : ℕ) (out : List A) (x : A) → i < n → x ≡ value (num (take w (drop (at + 24 * i) bs)))
      → sets (set out i x) (i + 1) (to_store bs at n (i + 1)) ≡ sets out i (to_store bs at n i)
  unfolding to_store lane_of
  store_next bs at n i out x h p =
      let e : n - i ≡ suc (n - (i + 1)) = omega arith in
      let f : at + 24 * (i + 1) ≡ (at + 24 * i) + 24 = omega arith in
      let g : i + 1 ≡ suc i = omega arith in
      rw (p, e, f, g, ← drop-drop 24 (at + 24 * i) bs) refl

  pub store_end : (bs : List ℕ) (at n i : ℕ) (out : List A) → n ≤ i → sets out i (to_store bs at n i) ≡ out
  unfolding to_store lane_of
  store_end bs at n i out h = let e : n - i ≡ 0 = omega arith in rw e refl
