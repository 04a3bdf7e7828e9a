-- The rule of the table, and that a ratio is exact: an entry is below 2^49, so four octaves up it has 53 digits. Assumes nothing.
use mathlib.Core.Path.{◌≡◌, sym, ap, ◌∙◌, subst}
use mathlib.Core.Bool.{Bool, false, not}
use mathlib.Core.List.{List}
use Prim.Native.Nat.{ℕ, suc, ◌+◌, ◌*◌, ◌/◌, ◌%◌, ◌^◌, ◌≤◌, ◌<◌}
use native.Mathlib.Nat.{le_trans, lt_of_lt_of_le, lt_of_le_of_lt, not-le_of_lt, pow-le-pow_left, mul-le-mul, mul_assoc}
use native.Mathlib.Omega.{arith}
use lib.Dec.{T, leb→le, le→leb, nleb→lt, not_T, lit<, lit≤}
use lib.IntN.{pos}
use lib.ListN.{length, get_or}
use lib.Pow.{pow_mono, shl_lt}
use lib.Ieee.{binary64, round, div, of_int, of_bits, in_float}
use lib.Ieee.Exact.{HasValue, round_exact}
use Rattle.tables.specs.Largest.{largest}
use Rattle.tables.proofs.Every.{every}
use Rattle.tables.proofs.Largest.{Down, right, entry_fits, entry_full, entry_largest, none_above, largest_fits, largest_full, largest_low}
use Rattle.tables.proofs.Quotients.{quotient}
use Rattle.semitones.specs.Ratios.{fits, Entry, scaled, Table, ratio}

-- e fits and e + 1 does not, for each entry: the one test
abbrev pub tested : List ℕ → Bool
tested xs = every (λ (n e : ℕ). right 562949953421311 (fits n) e) 0 xs

fits_down : (n : ℕ) → Down (fits n)
fits_down n a b h f = le→leb (a ^ 12) (2 ^ (n + 576)) (le_trans (pow-le-pow_left h 12) (leb→le (b ^ 12) (2 ^ (n + 576)) f))

entry_of_lem : (n e : ℕ) → T (fits n e) → T (not (fits n (suc e))) → Entry n e
entry_of_lem n e f g = (leb→le (e ^ 12) (2 ^ (n + 576)) f, nleb→lt (suc e ^ 12) (2 ^ (n + 576)) g)

pub table_rule : (xs : List ℕ) → T (tested xs) → length xs ≡ 12 → Table xs
unfolding Table scaled
table_rule xs passed whole = (
  whole,
  λ n h.
      let l : n < length xs = subst (λ (m : ℕ). n < m) (sym whole) h in
      (entry_largest fits 562949953421311 xs passed n l (fits_down n), entry_of_lem n (get_or xs n 0) (entry_fits fits 562949953421311 xs passed n l) (entry_full fits 562949953421311 xs passed n l)),
)

pub table_entry : (xs : List ℕ) → Table xs → (steps : ℕ) → get_or xs (steps % 12) 0 ≡ scaled (steps % 12)
unfolding Table
table_entry xs h steps = (h.1 (steps % 12) (omega arith)).0

scaled_low : (n : ℕ) → scaled n ≤ 562949953421311
unfolding scaled
scaled_low n = largest_low (fits n) 562949953421311

-- from 2^49 on nothing fits
too_large : (n : ℕ) → n < 12 → 2 ^ (n + 576) < 562949953421312 ^ 12
too_large n h = lt_of_le_of_lt (pow_mono {i = n + 576} {j = 587} (omega (arith, h))) (lit< {m = 2 ^ 587} {n = 562949953421312 ^ 12} tt)

pub scaled_rule : (n : ℕ) → n < 12 → Entry n (scaled n)
unfolding scaled
scaled_rule n h =
    entry_of_lem n (largest (fits n) 562949953421311) (largest_fits (fits n) (le→leb (0 ^ 12) (2 ^ (n + 576)) (omega arith)) 562949953421311)
    (largest_full (fits n) 562949953421311
    (not_T (fits n 562949953421312) (λ (f : T (fits n 562949953421312)). not-le_of_lt (too_large n h) (leb→le (562949953421312 ^ 12) (2 ^ (n + 576)) f))))

pub none_larger : (n e : ℕ) → n < 12 → T (fits n e) → e ≤ scaled n
none_larger n e h f =
    let r = scaled_rule n h in
    none_above (fits n) (fits_down n) (scaled n) (le→leb (scaled n ^ 12) (2 ^ (n + 576)) r.0)
    (not_T (fits n (suc (scaled n))) (λ (g : T (fits n (suc (scaled n)))). not-le_of_lt r.1 (leb→le (suc (scaled n) ^ 12) (2 ^ (n + 576)) g)))
    e f

-- ---- exact

octaves_low : (steps : ℕ) → steps ≤ 48 → steps / 12 ≤ 4
octaves_low steps h = omega (arith, h)

-- at most 16 times an entry
scaled_room : (n o : ℕ) → o ≤ 4 → scaled n * 2 ^ o ≤ 9007199254740976
scaled_room n o h = mul-le-mul (scaled_low n) (pow_mono {i = o} {j = 4} h)

pub ratio_exact : (steps : ℕ) → steps ≤ 48 → HasValue (ratio steps) false (scaled (steps % 12) * 2 ^ (steps / 12)) (2 ^ 50)
unfolding ratio
ratio_exact steps h = go (scaled (steps % 12) * 2 ^ (steps / 12)) (scaled_room (steps % 12) (steps / 12) (octaves_low steps h))
  where
    go : (x : ℕ) → x ≤ 9007199254740976 → HasValue (round binary64 false x (2 ^ 50)) false x (2 ^ 50)
    go x l =
        let s : x < 2 ^ 53 = lt_of_le_of_lt l (lit< {m = 9007199254740976} {n = 2 ^ 53} tt) in
        round_exact binary64 false x (2 ^ 50) x 1024 (lit< {m = 0} {n = 2 ^ 50} tt) s
        (lt_of_lt_of_le (shl_lt 53 1024 s) (lit≤ {m = 2 ^ 1077} {n = 2 ^ 2098} tt))
        (sym (mul_assoc x (2 ^ 1024) (2 ^ 50)))

-- ---- the result of the function

-- the dividend
pub record Product (steps x : ℕ) : Type 0 where
  pub low : x ≤ 9007199254740976
  pub is : x ≡ scaled (steps % 12) * 2 ^ (steps / 12)

-- an entry shifted by its octaves: no bit is lost
pub product : (steps e : ℕ) → steps ≤ 48 → e ≡ scaled (steps % 12) → Product steps (e * 2 ^ (steps / 12) % 18446744073709551616)
product steps e h p =
    let y : e * 2 ^ (steps / 12) ≡ scaled (steps % 12) * 2 ^ (steps / 12) = ap (λ (z : ℕ). z * 2 ^ (steps / 12)) p in
    let l : e * 2 ^ (steps / 12) ≤ 9007199254740976 = subst (λ (z : ℕ). z ≤ 9007199254740976) (sym y) (scaled_room (steps % 12) (steps / 12) (octaves_low steps h)) in
    let m = kept (e * 2 ^ (steps / 12)) l in
    record { low = subst (λ (z : ℕ). z ≤ 9007199254740976) (sym m) l; is = m ∙ y }
  where
    kept : (x : ℕ) → x ≤ 9007199254740976 → x % 18446744073709551616 ≡ x
    kept x l = omega arith

pub whole_float : (steps x : ℕ) → Product steps x → T (in_float binary64 (pos x))
unfolding in_float
whole_float steps x p = le→leb x (2 ^ 53) (le_trans p.low (lit≤ {m = 9007199254740976} {n = 2 ^ 53} tt))

pub at_steps : (steps x : ℕ) → Product steps x → div binary64 (of_int binary64 (pos x)) (of_bits binary64 4832362400168542208) ≡ ratio steps
unfolding ratio of_bits
at_steps steps x p =
    quotient binary64 50 x (le_trans p.low (lit≤ {m = 9007199254740976} {n = 2 ^ 53} tt)) ∙ ap (λ (z : ℕ). round binary64 false z (2 ^ 50)) p.is
