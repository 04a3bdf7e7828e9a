-- Positive zero stays positive zero: rounded, multiplied by a finite clear value, added to itself, taken from itself. Assumes nothing.
use Rattle.std.proofs.Common.{◌≡◌, ℕ, ◌*◌, ◌<◌, Bool, true, false, T, pos, sym, refl, ap, ◌∙◌, mul-pos, zero-mul, lit<}
use lib.Ieee.{Float, nan, inf, fin, Format, binary32, binary64, up, down, round, add, sub, mul}
use lib.Ieee.Fits.{down_pos}
use lib.Ieee.Scale.{round_same}
use Rattle.numbers.specs.Words.{positive_zero, finite_clear}

round_none : (f : Format) (s : Bool) → round f s 0 1 ≡ fin s 0 (pos 0)
unfolding round
round_none binary32 s = refl
round_none binary64 s = refl

pub round_positive_zero : (f : Format) (s : Bool) (d : ℕ) → 0 < d → round f s 0 d ≡ fin s 0 (pos 0)
round_positive_zero f s d h = round_same f s 0 d 0 1 h (lit< tt) (sym (zero-mul d)) ∙ round_none f s

pub mul_positive_zero : (f : Format) (x : Float) → T (finite_clear x) → mul f positive_zero x ≡ positive_zero
unfolding mul
mul_positive_zero f nan h = absurd h
mul_positive_zero f (inf s) h = absurd h
mul_positive_zero f (fin true n d) h = absurd h
mul_positive_zero f (fin false n d) h =
    ap (λ (z : ℕ). round f false z (1 * down d)) (zero-mul (n * up d)) ∙ round_positive_zero f false (1 * down d) (mul-pos (lit< tt) (down_pos d))

pub add_positive_zero : (f : Format) → add f positive_zero positive_zero ≡ positive_zero
unfolding add
add_positive_zero binary32 = refl
add_positive_zero binary64 = refl

pub sub_positive_zero : (f : Format) → sub f positive_zero positive_zero ≡ positive_zero
unfolding sub
sub_positive_zero binary32 = refl
sub_positive_zero binary64 = refl
