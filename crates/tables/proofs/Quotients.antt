-- A whole number divided by a power of two is one rounding of that fraction, in either format. Assumes nothing.
use mathlib.Core.Path.{◌≡◌, sym, ap, ◌∙◌}
use mathlib.Core.Bool.{Bool, false}
use Prim.Native.Nat.{ℕ, ◌*◌, ◌^◌, ◌≤◌}
use native.Mathlib.Nat.{mul_assoc, mul_comm, mul-pos, one-mul}
use lib.Dec.{lit<}
use lib.IntN.{pos}
use lib.Pow.{pow_pos}
use lib.Ieee.{Float, nan, inf, fin, Format, prec, up, down, unlike, round, div, of_int}
use lib.Ieee.Fits.{down_pos}
use lib.Ieee.Exact.{HasValue}
use lib.Ieee.Scale.{round_same}
use lib.Ieee.Back.{round_whole}

over : (f : Format) (k : ℕ) (x : Float) (e : ℕ) → HasValue x false e 1 → div f x (fin false 1 (pos k)) ≡ round f false e (2 ^ k)
unfolding div
over f k nan e v = absurd v
over f k (inf s) e v = absurd v
over f k (fin s m d) e v =
    ap (λ (t : Bool). round f (unlike t false) (m * up d * 1) (1 * 2 ^ k * down d)) v.0
    ∙ round_same f false (m * up d * 1) (1 * 2 ^ k * down d) e (2 ^ k) (mul-pos (mul-pos (lit< {m = 0} {n = 1} tt) (pow_pos k)) (down_pos d)) (pow_pos k)
    (ap (λ (z : ℕ). z * 2 ^ k) v.1
    ∙ mul_assoc e (down d) (2 ^ k)
    ∙ ap (λ (z : ℕ). e * z) (mul_comm (down d) (2 ^ k) ∙ ap (λ (z : ℕ). z * down d) (sym (one-mul (2 ^ k)))))

pub quotient : (f : Format) (k e : ℕ) → e ≤ 2 ^ prec f → div f (of_int f (pos e)) (fin false 1 (pos k)) ≡ round f false e (2 ^ k)
unfolding of_int
quotient f k e h = over f k (round f false e 1) e (round_whole f false e h)
