-- The rule of the table: a table that passes the test at each entry has the largest number that fits there; and the largest number itself meets the
-- rule at every level. Assumes nothing.
use mathlib.Core.Path.{◌≡◌, sym, subst}
use mathlib.Core.Bool.{Bool, not}
use mathlib.Core.List.{List}
use Prim.Native.Nat.{ℕ, suc, ◌*◌, ◌^◌, ◌≤◌, ◌<◌}
use native.Mathlib.Nat.{le_trans, zero-mul, one-le-pow, pow-le-pow_left, mul-le-mul_right, mul-le-mul_left, lt_of_lt_of_le, le_of_eq, mul-one, not-le_of_lt}
use lib.Dec.{T, leb→le, le→leb, nleb→lt, not_T, lit<, lit≤}
use lib.ListN.{length, get_or}
use Rattle.tables.specs.Largest.{largest}
use Rattle.tables.proofs.Every.{every}
use Rattle.tables.proofs.Largest.{Down, right, entry_fits, entry_full, entry_largest, none_above, largest_fits, largest_full, largest_low}
use Rattle.decibels.specs.Levels.{fits, Entry, scaled, Table}

-- e fits and e + 1 does not, for each entry: the one test
abbrev pub tested : List ℕ → Bool
tested xs = every (λ (t e : ℕ). right 16777216 (fits t) e) 0 xs

pub fits_down : (t : ℕ) → Down (fits t)
fits_down t a b h f =
    le→leb (a ^ 200 * 10 ^ t) (2 ^ 4800) (le_trans (mul-le-mul_right (10 ^ t) (pow-le-pow_left h 200)) (leb→le (b ^ 200 * 10 ^ t) (2 ^ 4800) f))

entry_of_lem : (t e : ℕ) → T (fits t e) → T (not (fits t (suc e))) → Entry t e
entry_of_lem t e f g = (leb→le (e ^ 200 * 10 ^ t) (2 ^ 4800) f, nleb→lt (suc e ^ 200 * 10 ^ t) (2 ^ 4800) g)

pub table_rule : (xs : List ℕ) → T (tested xs) → length xs ≡ 601 → Table xs
unfolding Table scaled
table_rule xs passed whole = (
  whole,
  λ t h.
      let l : t < length xs = subst (λ (n : ℕ). t < n) (sym whole) h in
      (entry_largest fits 16777216 xs passed t l (fits_down t), entry_of_lem t (get_or xs t 0) (entry_fits fits 16777216 xs passed t l) (entry_full fits 16777216 xs passed t l)),
)

pub table_length : (xs : List ℕ) → Table xs → length xs ≡ 601
unfolding Table
table_length xs h = h.0

pub table_entry : (xs : List ℕ) → Table xs → (t : ℕ) → t < 601 → (get_or xs t 0 ≡ scaled t) × Entry t (get_or xs t 0)
unfolding Table
table_entry xs h = h.1

pub scaled_low : (t : ℕ) → scaled t ≤ 16777216
unfolding scaled
scaled_low t = largest_low (fits t) 16777216

nothing_fits : (t : ℕ) → T (fits t 0)
nothing_fits t = le→leb (0 ^ 200 * 10 ^ t) (2 ^ 4800) (subst (λ (z : ℕ). z ≤ 2 ^ 4800) (sym (zero-mul (10 ^ t))) (lit≤ {m = 0} {n = 2 ^ 4800} tt))

-- above 2^24 nothing fits
too_large : (t : ℕ) → 2 ^ 4800 < 16777217 ^ 200 * 10 ^ t
too_large t =
    lt_of_lt_of_le (lit< {m = 2 ^ 4800} {n = 16777217 ^ 200} tt)
    (le_trans (le_of_eq (sym (mul-one (16777217 ^ 200)))) (mul-le-mul_left (16777217 ^ 200) (one-le-pow t 10 (lit< {m = 0} {n = 10} tt))))

pub scaled_rule : (t : ℕ) → Entry t (scaled t)
unfolding scaled
scaled_rule t =
    entry_of_lem t (largest (fits t) 16777216) (largest_fits (fits t) (nothing_fits t) 16777216)
    (largest_full (fits t) 16777216 (not_T (fits t 16777217) (λ (f : T (fits t 16777217)). not-le_of_lt (too_large t) (leb→le (16777217 ^ 200 * 10 ^ t) (2 ^ 4800) f))))

pub none_larger : (t e : ℕ) → T (fits t e) → e ≤ scaled t
none_larger t e f =
    let r = scaled_rule t in
    none_above (fits t) (fits_down t) (scaled t) (le→leb (scaled t ^ 200 * 10 ^ t) (2 ^ 4800) r.0)
    (not_T (fits t (suc (scaled t))) (λ (g : T (fits t (suc (scaled t)))). not-le_of_lt r.1 (leb→le (suc (scaled t) ^ 200 * 10 ^ t) (2 ^ 4800) g)))
    e f
