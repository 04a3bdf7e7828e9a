-- What `narrow` computes is the f32 nearest to x. In units of 2 ^ -1074 x is n, and c is 2 ^ 52 * U, where U = 2 ^ (925 + i) is the step of an f32 at x.
-- So x + c is rounded to a multiple of U, as an f32 rounds x, and taking c off again is exact. Assumes nothing.
use Rattle.std.proofs.Common.{◌≡◌, ℕ, zero, suc, ◌+◌, ◌-◌, ◌*◌, ◌/◌, ◌%◌, ◌^◌, ◌<◌, ◌≤◌, Bool, true, false, cond, not, ◌&&◌, T, eqb, ltb, leb, ◌⊎◌, ℤ, sym, refl, ap, ◌∙◌, subst, inl, inr, le_trans, le_of_eq, lt_of_lt_of_le, lt_of_le_of_lt, mul-le-mul_right, mod-eq_of_lt, mul_assoc, mul_comm, div-lt_iff_lt-mul, add-mul, eq-zero-or-pos, mul-le-mul, lt_of_mul-lt-mul_right, mul-lt-mul_of_pos_right, mul-pos, lt_of_not-le, le-div_iff_mul-le, zero-add, not-le_of_lt, mul-div_cancel, le-add_left, add-sub_cancel, arith, lit<, eqb→eq, pow_pos, pow_mono, pow-add}
use Prim.Native.Nat.{compare, Ordering}
use native.Mathlib.Nat.{mul-mod_left, add-mul-div_right, add-mul-mod_self_right}
use lib.Dec.{not_T}
use lib.Arith.{lt→nleb}
use lib.Ieee.{Float, nan, inf, fin, Format, binary32, binary64, prec, low, up, down, size, nearest, odd, units, round, add, sub, fits, is_nan, of_fields, of_bits, to_bits, nan_bits}
use lib.Ieee.Digits.{size-lt, size-le, size_reaches}
use lib.Ieee.Fits.{nearest-le, kept-lt, round-fits, sub-fits, fits_widens, and_i, down_pos}
use lib.Ieee.Bits.{is_false, cond_no, nan_bits_is}
use lib.Ieee.Exact.{HasValue, round_exact, odd_sign}
use lib.Ieee.Nearest.{closest, closest_same}
use lib.Ieee.Order.{drop, kept}
use lib.Ieee.Scale.{round_same, grid, overflow, round_val}
use Rattle.numbers.specs.Words.{proper, narrowed}
use Rattle.numbers.proofs.Fractions.{proper_lt}
use Rattle.numbers.proofs.Values.{rescale, value_unique, place, add_at, sub_at}

-- ---- rounding to a whole number, with an even number added
nearest_shift : (w q : ℕ) (o : Ordering) → nearest (w + (q + q)) o ≡ nearest w o + (q + q)
nearest_shift w q Ordering.lt = refl
nearest_shift w q Ordering.eq = omega arith
nearest_shift w q Ordering.gt = omega arith

closest_shift : (a b q : ℕ) → 0 < b → closest (a + (q + q) * b) b ≡ closest a b + (q + q)
closest_shift a b q B =
    ap (λ (x : ℕ). nearest x (compare ((a + (q + q) * b) % b * 2) b)) (add-mul-div_right a (q + q) B)
    ∙ ap (λ (x : ℕ). nearest (a / b + (q + q)) (compare (x * 2) b)) (add-mul-mod_self_right a (q + q) b)
    ∙ nearest_shift (a / b) q (compare (a % b * 2) b)

closest_le : (a b c : ℕ) → 0 < b → a < c * b → closest a b ≤ c
closest_le a b c B h = le_trans (nearest-le (a / b) (compare (a % b * 2) b)) ((div-lt_iff_lt-mul B).1 h)

-- ---- how many digits `round` drops
size_gt : (n j : ℕ) → 2 ^ j ≤ n → j < size n
size_gt n j h = lt_of_not-le (λ (g : size n ≤ j). not-le_of_lt (lt_of_lt_of_le (size-lt n) (pow_mono g)) h)

dropped : (z p i : ℕ) → z ≤ p + i → p - 1 + i < z → 0 < p → z - p ≡ i
dropped z p i a b c = omega arith

none : (z p i : ℕ) → z ≤ p + i → i ≡ 0 → z - p ≡ i
none z p i a b = omega arith

drop_is : (p n den i : ℕ) → 0 < p → 0 < den → n < 2 ^ (p + i) * den → (i ≡ 0) ⊎ (2 ^ (p - 1 + i) * den ≤ n) → drop p n den ≡ i
drop_is p n den i P D hi lo =
    let z = size (n / den) in
    let le : z ≤ p + i = size-le (n / den) (p + i) ((div-lt_iff_lt-mul D).1 hi) in
    elim lo [
      | inl e ↦ none z p i le e
      | inr g ↦ dropped z p i le (size_gt (n / den) (p - 1 + i) ((le-div_iff_mul-le D).1 g)) P
    ]

grid_at : (f : Format) (a c d : ℕ) → drop (prec f) (a * 2 ^ low f) c ≡ d → grid f a c ≡ closest (a * 2 ^ low f) (c * 2 ^ d) * 2 ^ d
grid_at f a c d e = ap (λ (z : ℕ). closest (a * 2 ^ low f) (c * 2 ^ z) * 2 ^ z) e

-- ---- n is x in units of 2 ^ -1074, below 2 ^ 24 steps, and from 2 ^ 23 steps up where the step is not the smallest
module _ (n i : ℕ) (top : i ≤ 125) (hi : n < 2 ^ 24 * 2 ^ (925 + i)) (lo : (i ≡ 0) ⊎ (2 ^ 23 * 2 ^ (925 + i) ≤ n)) where
  abbrev U : ℕ
  U = 2 ^ (925 + i)

  abbrev Q : ℕ
  Q = closest n U

  U_pos : 0 < U
  U_pos = pow_pos (925 + i)

  Q-le : Q ≤ 2 ^ 24
  Q-le = closest_le n U (2 ^ 24) U_pos hi

  U-le : U ≤ 2 ^ 1050
  U-le = pow_mono (le_of_i i top)
    where
      le_of_i : (k : ℕ) → k ≤ 125 → 925 + k ≤ 1050
      le_of_i k h = omega arith

  -- the sum
  sum_low : 2 ^ (52 + (925 + i)) * 2 ^ 1074 ≤ (n + 2 ^ 52 * U) * 2 ^ 1074
  sum_low = mul-le-mul_right (2 ^ 1074) (le_trans (le_of_eq (pow-add 2 52 (925 + i))) (le-add_left (2 ^ 52 * U) n))

  under : (a u : ℕ) → a < 2 ^ 24 * u → 0 < u → a + 2 ^ 52 * u < 2 ^ 53 * u
  under a u h p = omega arith

  sum_high : (n + 2 ^ 52 * U) * 2 ^ 1074 < 2 ^ (53 + (925 + i)) * 2 ^ 1074
  sum_high = mul-lt-mul_of_pos_right (lt_of_lt_of_le (under n U hi U_pos) (le_of_eq (sym (pow-add 2 53 (925 + i))))) (pow_pos 1074)

  sum_grid : grid binary64 (n + 2 ^ 52 * U) (2 ^ 1074) ≡ (Q + 2 ^ 52) * U
  sum_grid =
      grid_at binary64 (n + 2 ^ 52 * U) (2 ^ 1074) (925 + i) (drop_is 53 ((n + 2 ^ 52 * U) * 2 ^ 1074) (2 ^ 1074) (925 + i) (lit< tt) (pow_pos 1074) sum_high (inr sum_low))
      ∙ ap (λ (z : ℕ). z * U)
      (closest_same ((n + 2 ^ 52 * U) * 2 ^ 1074) (2 ^ 1074 * U) (n + 2 ^ 52 * U) U (mul-pos (pow_pos 1074) U_pos) U_pos (mul_assoc (n + 2 ^ 52 * U) (2 ^ 1074) U)
      ∙ closest_shift n U (2 ^ 51) U_pos)

  sum_under : grid binary64 (n + 2 ^ 52 * U) (2 ^ 1074) < overflow binary64
  sum_under = subst (λ (z : ℕ). z < overflow binary64) (sym sum_grid) (lt_of_le_of_lt (mul-le-mul (more Q Q-le) U-le) (lit< tt))
    where
      more : (q : ℕ) → q ≤ 2 ^ 24 → q + 2 ^ 52 ≤ 2 ^ 53
      more q h = omega arith

  sum_val : HasValue (round binary64 false (n + 2 ^ 52 * U) (2 ^ 1074)) false ((Q + 2 ^ 52) * U) (2 ^ 1074)
  sum_val = subst (λ (z : ℕ). HasValue (round binary64 false (n + 2 ^ 52 * U) (2 ^ 1074)) false z (2 ^ 1074)) sum_grid (round_val binary64 (n + 2 ^ 52 * U) (2 ^ 1074) sum_under)

  -- the difference
  diff_val : HasValue (round binary64 false (Q * U) (2 ^ 1074)) false (Q * U) (2 ^ 1074)
  diff_val = round_exact binary64 false (Q * U) (2 ^ 1074) Q (925 + i) (pow_pos 1074) (lt_of_le_of_lt Q-le (lit< tt)) (lt_of_le_of_lt (mul-le-mul Q-le U-le) (lit< tt)) refl

  taken_off : (Q + 2 ^ 52) * U - 2 ^ 52 * U ≡ Q * U
  taken_off = ap (λ (z : ℕ). z - 2 ^ 52 * U) (add-mul Q (2 ^ 52) U) ∙ add-sub_cancel (Q * U) (2 ^ 52 * U)

  -- what an f32 rounds x to
  split : 2 ^ 149 * U ≡ 2 ^ 1074 * 2 ^ i
  split = ap (λ (z : ℕ). 2 ^ 149 * z) (pow-add 2 925 i) ∙ sym (mul_assoc (2 ^ 149) (2 ^ 925) (2 ^ i))

  short_high : n * 2 ^ 149 < 2 ^ (24 + i) * 2 ^ 1074
  short_high =
      lt_of_lt_of_le (mul-lt-mul_of_pos_right hi (pow_pos 149))
      (le_of_eq
      (mul_assoc (2 ^ 24) U (2 ^ 149)
      ∙ ap (λ (z : ℕ). 2 ^ 24 * z) (mul_comm U (2 ^ 149) ∙ split ∙ mul_comm (2 ^ 1074) (2 ^ i))
      ∙ sym (mul_assoc (2 ^ 24) (2 ^ i) (2 ^ 1074))
      ∙ ap (λ (z : ℕ). z * 2 ^ 1074) (sym (pow-add 2 24 i))))

  short_low : (i ≡ 0) ⊎ (2 ^ (23 + i) * 2 ^ 1074 ≤ n * 2 ^ 149)
  short_low = elim lo [
    | inl e ↦ inl e
    | inr g ↦
        inr
        (le_trans
        (le_of_eq
        (ap (λ (z : ℕ). z * 2 ^ 1074) (pow-add 2 23 i)
        ∙ mul_assoc (2 ^ 23) (2 ^ i) (2 ^ 1074)
        ∙ ap (λ (z : ℕ). 2 ^ 23 * z) (mul_comm (2 ^ i) (2 ^ 1074) ∙ sym split ∙ mul_comm (2 ^ 149) U)
        ∙ sym (mul_assoc (2 ^ 23) U (2 ^ 149))))
        (mul-le-mul_right (2 ^ 149) g))
  ]

  short_grid : grid binary32 n (2 ^ 1074) ≡ Q * 2 ^ i
  short_grid =
      grid_at binary32 n (2 ^ 1074) i (drop_is 24 (n * 2 ^ 149) (2 ^ 1074) i (lit< tt) (pow_pos 1074) short_high short_low)
      ∙ ap (λ (z : ℕ). z * 2 ^ i)
      (closest_same (n * 2 ^ 149) (2 ^ 1074 * 2 ^ i) n U (mul-pos (pow_pos 1074) (pow_pos i)) U_pos (mul_assoc n (2 ^ 149) U ∙ ap (λ (z : ℕ). n * z) split))

  short_under : grid binary32 n (2 ^ 1074) < overflow binary32
  short_under = subst (λ (z : ℕ). z < overflow binary32) (sym short_grid) (lt_of_le_of_lt (mul-le-mul Q-le (pow_mono top)) (lit< tt))

  short_val : HasValue (round binary32 false n (2 ^ 1074)) false (Q * U) (2 ^ 1074)
  short_val =
      rescale (round binary32 false n (2 ^ 1074)) false (Q * 2 ^ i) (2 ^ 149) (Q * U) (2 ^ 1074) (pow_pos 149)
      (mul_assoc Q U (2 ^ 149) ∙ ap (λ (z : ℕ). Q * z) (mul_comm U (2 ^ 149) ∙ split ∙ mul_comm (2 ^ 1074) (2 ^ i)) ∙ sym (mul_assoc Q (2 ^ i) (2 ^ 1074)))
      (subst (λ (z : ℕ). HasValue (round binary32 false n (2 ^ 1074)) false z (2 ^ 149)) short_grid (round_val binary32 n (2 ^ 1074) short_under))

  -- the two are the same float
  pub same : (x c : Float) → HasValue x false n (2 ^ 1074) → HasValue c false (2 ^ 52 * U) (2 ^ 1074) → sub binary64 (add binary64 x c) c ≡ round binary32 false n (2 ^ 1074)
  same x c v w =
      let s = add_at binary64 x c n (2 ^ 52 * U) (2 ^ 1074) (pow_pos 1074) v w in
      let sv : HasValue (add binary64 x c) false ((Q + 2 ^ 52) * U) (2 ^ 1074) = subst (λ (z : Float). HasValue z false ((Q + 2 ^ 52) * U) (2 ^ 1074)) (sym s) sum_val in
      let d = sub_at binary64 (add binary64 x c) c ((Q + 2 ^ 52) * U) (2 ^ 52 * U) (2 ^ 1074) (pow_pos 1074) (mul-le-mul_right U (le-add_left (2 ^ 52) Q)) sv w in
      let dv : HasValue (sub binary64 (add binary64 x c) c) false (Q * U) (2 ^ 1074) =
      subst (λ (z : Float). HasValue z false (Q * U) (2 ^ 1074)) (sym (d ∙ ap (λ (z : ℕ). round binary64 false z (2 ^ 1074)) taken_off)) diff_val in
      value_unique binary64 (sub binary64 (add binary64 x c) c) (round binary32 false n (2 ^ 1074)) false (Q * U) (2 ^ 1074) (pow_pos 1074)
      (sub-fits binary64 (add binary64 x c) c) (fits_widens (round binary32 false n (2 ^ 1074)) (round-fits binary32 false n (2 ^ 1074))) dv short_val

-- ---- the exponent's field
-- the pattern of a value that is n units, its sign clear
abbrev pattern : ℕ → ℕ
pattern n = (size n - 53) * 2 ^ 52 + n / 2 ^ (size n - 53)

-- where digits are dropped, the leading digit is among those kept
leading : (n : ℕ) → 0 < size n - 53 → 2 ^ 52 ≤ n / 2 ^ (size n - 53)
leading n h =
    let k = size n - 53 in
    (le-div_iff_mul-le (pow_pos k)).1 (le_trans (le_of_eq (sym (pow-add 2 52 k))) (size_reaches n (52 + k) (last (size n) h)))
  where
    last : (z : ℕ) → 0 < z - 53 → 52 + (z - 53) < z
    last z h = omega arith

-- z is n's digits, q those that are kept, b the field, and 897 + i the larger of b and 897
field_bounds : (z q b at : ℕ) → b ≡ ((z - 53) * 2 ^ 52 + q) / 2 ^ 52 → q < 2 ^ 53 → (0 < z - 53 → 2 ^ 52 ≤ q) → z ≤ 1074
    → 897 ≤ at → b ≤ at → (at ≡ 897) ⊎ (at ≡ b) → (at - 897 ≤ 125) × (z ≤ 24 + (925 + (at - 897))) × ((at - 897 ≡ 0) ⊎ (23 + (925 + (at - 897)) < z))
field_bounds z q b at e h g t l m c =
    elim (eq-zero-or-pos (z - 53)) [
      | inl none ↦ elim c [
        | inl is ↦ (omega arith, omega arith, inl (omega arith))
        | inr is ↦ absurd (no_field z q b at e h none l is)
      ]
      | inr some ↦
          let f = field_of z q b e h (g some) some in
          elim c [ inl is ↦ (omega arith, omega arith, inl (omega arith)) | inr is ↦ (omega arith, omega arith, inr (omega arith)) ]
    ]
  where
    no_field : (z q b at : ℕ) → b ≡ ((z - 53) * 2 ^ 52 + q) / 2 ^ 52 → q < 2 ^ 53 → z - 53 ≡ 0 → 897 ≤ at → at ≡ b → ⊥
    no_field z q b at e h none l is = omega arith

    field_of : (z q b : ℕ) → b ≡ ((z - 53) * 2 ^ 52 + q) / 2 ^ 52 → q < 2 ^ 53 → 2 ^ 52 ≤ q → 0 < z - 53 → b + 52 ≡ z
    field_of z q b e h g some = omega arith

-- ---- the pattern of c
pattern_val : (x : ℕ) → suc x < 2047 → HasValue (of_bits binary64 (suc x * 2 ^ 52)) false (2 ^ 52 * 2 ^ x) (2 ^ 1074)
unfolding of_bits of_fields
pattern_val x h =
    let b = suc x * 2 ^ 52 in
    let under : b < 2 ^ 63 = below (suc x) h in
    let sign : leb (2 ^ 63) b ≡ false = is_false (leb (2 ^ 63) b) (lt→nleb (2 ^ 63) b under) in
    let field : b % 2 ^ 63 / 2 ^ 52 ≡ suc x = ap (λ (z : ℕ). z / 2 ^ 52) (mod-eq_of_lt under) ∙ mul-div_cancel (suc x) (pow_pos 52) in
    let digits : b % 2 ^ 52 ≡ 0 = mul-mod_left (suc x) (2 ^ 52) in
    subst (λ (z : Float). HasValue z false (2 ^ 52 * 2 ^ x) (2 ^ 1074))
    (sym
    (ap (λ (z : Bool). of_fields binary64 z (b % 2 ^ 63 / 2 ^ 52) (b % 2 ^ 52)) sign
    ∙ ap (λ (z : ℕ). of_fields binary64 false z (b % 2 ^ 52)) field
    ∙ ap (λ (z : ℕ). of_fields binary64 false (suc x) z) digits
    ∙ cond_no (eqb (suc x) 2047) (inf false) (odd 53 false (2 ^ 52) x 1074) (not_T (eqb (suc x) 2047) (λ t. differ (suc x) h (eqb→eq (suc x) 2047 t)))))
    (odd_sign 53 false (2 ^ 52) x 1074)
  where
    below : (y : ℕ) → y < 2047 → y * 2 ^ 52 < 2 ^ 63
    below y h = omega arith

    differ : (y : ℕ) → y < 2047 → y ≡ 2047 → ⊥
    differ y h e = omega arith

-- ---- the whole
field_of_units : (m : ℕ) (e : ℤ) (n : ℕ) → m * up e * 2 ^ 1074 ≡ n * down e → to_bits binary64 (fin false m e) / 2 ^ 52 ≡ pattern n / 2 ^ 52
unfolding to_bits
field_of_units m e n h =
    let is : m * up e * 2 ^ 1074 / down e ≡ n = ap (λ (z : ℕ). z / down e) h ∙ mul-div_cancel n (down_pos e) in
    ap (λ (z : ℕ). (0 + (size z - 53) * 2 ^ 52 + z / 2 ^ (size z - 53)) / 2 ^ 52) is
    ∙ ap (λ (z : ℕ). (z + n / 2 ^ (size n - 53)) / 2 ^ 52) (zero-add ((size n - 53) * 2 ^ 52))

-- the exponent's field of x that `narrow` uses: its own, and 897 at least
pub record Chosen (x : Float) (at : ℕ) : Type 0 where
  pub least : 897 ≤ at
  pub field : to_bits binary64 x / 2 ^ 52 ≤ at
  pub which : (at ≡ 897) ⊎ (at ≡ to_bits binary64 x / 2 ^ 52)

abbrev magic : ℕ → Float
magic at = of_bits binary64 ((at + 29) * 2 ^ 52 % 2 ^ 64)

pub record Narrows (x : Float) (at : ℕ) : Type 0 where
  pub small : at ≤ 1022
  pub result : sub binary64 (add binary64 x (magic at)) (magic at) ≡ narrowed x

at_is : (at : ℕ) → 897 ≤ at → at + 29 ≡ suc (925 + (at - 897))
at_is at h = omega arith

at_small : (at : ℕ) → 897 ≤ at → at - 897 ≤ 125 → at ≤ 1022
at_small at l h = omega arith

shift_fits : (y : ℕ) → y < 2048 → y * 2 ^ 52 < 2 ^ 64
shift_fits y h = omega arith

pub narrows : (x : Float) (at : ℕ) → T (fits binary64 x) → T (proper x) → Chosen x at → Narrows x at
unfolding narrowed
narrows nan at t u c = absurd u
narrows (inf s) at t u c = absurd u
narrows (fin true m e) at t u c = absurd u
narrows (fin false m e) at t u c =
    let un = place binary64 false m e t in
    let n = m * 2 ^ un.0 in
    let same-field = field_of_units m e n un.1 in
    let n-lt : n < 2 ^ 1074 =
    lt_of_mul-lt-mul_right (down e)
    (lt_of_le_of_lt (le_of_eq (sym un.1)) (lt_of_lt_of_le (mul-lt-mul_of_pos_right (proper_lt m e u) (pow_pos 1074)) (le_of_eq (mul_comm (down e) (2 ^ 1074))))) in
    let i = at - 897 in
    let fb = field_bounds (size n) (n / 2 ^ (size n - 53)) (to_bits binary64 (fin false m e) / 2 ^ 52) at same-field (kept-lt 53 n) (leading n) (size-le n 1074 n-lt) c.least c.field c.which in
    let hi : n < 2 ^ 24 * 2 ^ (925 + i) = lt_of_lt_of_le (size-lt n) (le_trans (pow_mono fb.1) (le_of_eq (pow-add 2 24 (925 + i)))) in
    let lo : (i ≡ 0) ⊎ (2 ^ 23 * 2 ^ (925 + i) ≤ n) =
    elim fb.2 [ inl z ↦ inl z | inr g ↦ inr (le_trans (le_of_eq (sym (pow-add 2 23 (925 + i)))) (size_reaches n (23 + (925 + i)) g)) ] in
    let small = at_small at c.least fb.0 in
    let bits : (at + 29) * 2 ^ 52 % 2 ^ 64 ≡ suc (925 + i) * 2 ^ 52 = mod-eq_of_lt (shift_fits (at + 29) (omega arith)) ∙ ap (λ (z : ℕ). z * 2 ^ 52) (at_is at c.least) in
    let w : HasValue (magic at) false (2 ^ 52 * 2 ^ (925 + i)) (2 ^ 1074) =
    subst (λ (z : ℕ). HasValue (of_bits binary64 z) false (2 ^ 52 * 2 ^ (925 + i)) (2 ^ 1074)) (sym bits) (pattern_val (925 + i) (omega arith)) in
    record {
      small = small;
      result =
          same n i fb.0 hi lo (fin false m e) (magic at) (refl, un.1) w
          ∙ round_same binary32 false n (2 ^ 1074) (m * up e) (down e) (pow_pos 1074) (down_pos e) (sym un.1);
    }

-- ---- no NaN
pub proper_no_nan : (x : Float) → T (proper x) → T (not (is_nan x))
unfolding is_nan
proper_no_nan nan u = absurd u
proper_no_nan (inf s) u = absurd u
proper_no_nan (fin s m e) u = tt

no_nan : (x : Float) (s : Bool) (a c : ℕ) → HasValue x s a c → T (not (is_nan x))
unfolding is_nan
no_nan nan s a c v = absurd v
no_nan (inf t) s a c v = absurd v
no_nan (fin t m e) s a c v = tt

odd_no_nan : (d : ℕ) (s : Bool) (q k l : ℕ) → T (not (is_nan (odd d s q k l)))
unfolding odd is_nan
odd_no_nan d s zero k l = tt
odd_no_nan d s (suc q) k l = tt

pub round_no_nan : (f : Format) (s : Bool) (a c : ℕ) → T (not (is_nan (round f s a c)))
unfolding round units is_nan
round_no_nan f s a c = go (ltb (q * 2 ^ k) (overflow f))
  where
    k : ℕ
    k = drop (prec f) (a * 2 ^ low f) c

    q : ℕ
    q = kept (prec f) (a * 2 ^ low f) c

    go : (b : Bool) → T (not (is_nan (cond b (odd (suc (prec f)) s q k (low f)) (inf s))))
    go true = odd_no_nan (suc (prec f)) s q k (low f)
    go false = tt

pub narrowed_fits : (x : Float) → T (proper x) → T (fits binary32 (narrowed x) && not (is_nan (narrowed x)))
unfolding narrowed
narrowed_fits nan u = absurd u
narrowed_fits (inf s) u = absurd u
narrowed_fits (fin s m e) u = and_i (fits binary32 (round binary32 s (m * up e) (down e))) (not (is_nan (round binary32 s (m * up e) (down e)))) (round-fits binary32 s (m * up e) (down e)) (round_no_nan binary32 s (m * up e) (down e))

pub magic_no_nan : (at : ℕ) → at ≤ 1022 → T (not (nan_bits binary64 ((at + 29) * 2 ^ 52 % 2 ^ 64)))
magic_no_nan at h =
    let bits : (at + 29) * 2 ^ 52 % 2 ^ 64 ≡ suc (at + 28) * 2 ^ 52 = mod-eq_of_lt (shift_fits (at + 29) (omega arith)) ∙ ap (λ (z : ℕ). z * 2 ^ 52) (next at) in
    subst (λ (b : Bool). T (not b)) (sym (nan_bits_is binary64 ((at + 29) * 2 ^ 52 % 2 ^ 64)))
    (subst (λ (z : ℕ). T (not (is_nan (of_bits binary64 z)))) (sym bits)
    (no_nan (of_bits binary64 (suc (at + 28) * 2 ^ 52)) false (2 ^ 52 * 2 ^ (at + 28)) (2 ^ 1074) (pattern_val (at + 28) (omega arith))))
  where
    next : (y : ℕ) → y + 29 ≡ suc (y + 28)
    next y = omega arith
