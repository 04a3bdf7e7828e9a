-- An entry divided by 2^24 is an f32 exactly: below 2^24 it has 24 digits, and 2^24 itself is a power of two. Assumes nothing.
use mathlib.Core.Path.{◌≡◌, refl, sym, ap, ◌∙◌, subst}
use mathlib.Core.Bool.{Bool, true, false, cond, not}
use Prim.Native.Nat.{ℕ, ◌^◌, ◌≤◌, ◌<◌}
use native.Mathlib.Nat.{le_antisymm, lt_of_lt_of_le, mul_assoc}
use lib.Dec.{T, ltb, le→leb, lit<, lit≤}
use lib.IntN.{pos}
use lib.Pow.{shl_lt}
use lib.Ieee.{Float, nan, inf, fin, binary32, round, div, of_int, of_bits, in_float}
use lib.Ieee.Exact.{HasValue, round_exact}
use borrow.Author.Tests.{lt-ltb, le-ltb, ltb-true, ltb-false}
use Rattle.tables.proofs.Quotients.{quotient}
use Rattle.numbers.specs.Words.{positive_zero, finite_clear}
use Rattle.decibels.specs.Levels.{scaled, amplitude}
use Rattle.decibels.proofs.Levels.{scaled_low}

exact_below : (e : ℕ) → e < 16777216 → HasValue (round binary32 false e 16777216) false e 16777216
exact_below e h =
    round_exact binary32 false e 16777216 e 125 (lit< {m = 0} {n = 16777216} tt) h
    (lt_of_lt_of_le (shl_lt 24 125 h) (lit≤ {m = 2 ^ 149} {n = 2 ^ 277} tt))
    (sym (mul_assoc e (2 ^ 125) 16777216))

exact_top : HasValue (round binary32 false 16777216 16777216) false 16777216 16777216
exact_top = round_exact binary32 false 16777216 16777216 1 149 (lit< {m = 0} {n = 16777216} tt) (lit< {m = 1} {n = 16777216} tt) (lit< {m = 2 ^ 149} {n = 2 ^ 277} tt) refl

pub exact : (e : ℕ) → e ≤ 16777216 → HasValue (round binary32 false e 16777216) false e 16777216
exact e h = go (ltb e 16777216) refl
  where
    go : (b : Bool) → ltb e 16777216 ≡ b → HasValue (round binary32 false e 16777216) false e 16777216
    go true t = exact_below e (ltb-true e 16777216 t)
    go false t = subst (λ (n : ℕ). HasValue (round binary32 false n 16777216) false n 16777216) (le_antisymm (ltb-false e 16777216 t) h) exact_top

quotient24 : (e : ℕ) → e ≤ 16777216 → div binary32 (of_int binary32 (pos e)) (of_bits binary32 1266679808) ≡ round binary32 false e 16777216
unfolding of_bits
quotient24 e h = quotient binary32 24 e h

-- ---- the result of the function

pub whole_float : (t e : ℕ) → e ≡ scaled t → T (in_float binary32 (pos e))
unfolding in_float
whole_float t e q = le→leb e 16777216 (subst (λ (n : ℕ). n ≤ 16777216) (sym q) (scaled_low t))

pub at_level : (t e : ℕ) → t < 601 → e ≡ scaled t → div binary32 (of_int binary32 (pos e)) (of_bits binary32 1266679808) ≡ amplitude t
unfolding amplitude
at_level t e h q =
    ap (λ (n : ℕ). div binary32 (of_int binary32 (pos n)) (of_bits binary32 1266679808)) q
    ∙ quotient24 (scaled t) (scaled_low t)
    ∙ sym (ap (λ (b : Bool). cond b (round binary32 false (scaled t) 16777216) positive_zero) (lt-ltb t 601 h))

pub at_silence : (t : ℕ) → 601 ≤ t → of_bits binary32 0 ≡ amplitude t
unfolding amplitude of_bits
at_silence t h = sym (ap (λ (b : Bool). cond b (round binary32 false (scaled t) 16777216) positive_zero) (le-ltb t 601 h))

-- ---- promises

pub amplitude_exact : (t : ℕ) → t < 601 → HasValue (amplitude t) false (scaled t) 16777216
unfolding amplitude
amplitude_exact t h =
    subst (λ (b : Bool). HasValue (cond b (round binary32 false (scaled t) 16777216) positive_zero) false (scaled t) 16777216) (sym (lt-ltb t 601 h)) (exact (scaled t) (scaled_low t))

passes_of : (x : Float) (a c : ℕ) → HasValue x false a c → T (finite_clear x)
passes_of nan a c v = v
passes_of (inf s) a c v = v
passes_of (fin s m e) a c v = subst (λ (t : Bool). T (not t)) (sym v.0) tt

pub amplitude_passes : (t : ℕ) → T (finite_clear (amplitude t))
unfolding amplitude
amplitude_passes t = go (ltb t 601)
  where
    go : (b : Bool) → T (finite_clear (cond b (round binary32 false (scaled t) 16777216) positive_zero))
    go true = passes_of (round binary32 false (scaled t) 16777216) (scaled t) 16777216 (exact (scaled t) (scaled_low t))
    go false = tt
