-- A difference the other way round is the negative, unless both are positive zero; and a sum with a product is a difference
-- with the product of the negative. Assumes nothing.
use mathlib.Core.Path.{◌≡◌, refl, sym, ap, ◌∙◌, subst}
use Prim.Native.Nat.{ℕ, ◌+◌, ◌-◌, ◌*◌, ◌<◌, ◌≤◌}
use native.Mathlib.Nat.{add_comm, mul_comm, mul-pos}
use native.Mathlib.Omega.{arith}
use mathlib.Core.Bool.{Bool, true, false, not, ◌&&◌, beq, cond}
use lib.IntN.{ℤ, pos}
use lib.Dec.{T, ltb, ltb→lt, nltb→le}
use lib.Ieee.{Float, nan, inf, fin, Format, up, down, round, neg, sum, add, sub, mul}
use lib.Ieee.Fits.{down_pos}
use Rattle.numbers.proofs.Bounds.{round_neg}
use Rattle.numbers.proofs.Silence.{round_positive_zero}
use Rattle.numbers.proofs.Products.{neg_neg, round_not, mul_neg}

-- y is the negative of x, or both are positive zero
pub data Swapped (x y : Float) : Type 0 where
  turned : y ≡ neg x → Swapped x y
  nought : x ≡ fin false 0 (pos 0) → y ≡ fin false 0 (pos 0) → Swapped x y

abbrev sum_by : Format → Bool → ℕ → Bool → ℕ → ℕ → Bool → Bool → Float
sum_by f s a t b c p q = cond (beq s t) (round f s (a + b) c) (cond p (round f t (b - a) c) (round f (s && q) (a - b) c))

none : (f : Format) (a b c : ℕ) → a ≡ b → 0 < c → round f false (a - b) c ≡ fin false 0 (pos 0)
none f a b c e h = ap (λ (z : ℕ). round f false z c) (gone a b e) ∙ round_positive_zero f false c h
  where
    gone : (a b : ℕ) → a ≡ b → a - b ≡ 0
    gone a b e = omega arith

swap_by : (f : Format) (s t : Bool) (a b c : ℕ) (p q : Bool) → (p ≡ true → q ≡ true → ⊥) → (p ≡ false → q ≡ false → a ≡ b) → 0 < c → Swapped (sum_by f s a (not t) b c p q) (sum_by f t b (not s) a c q p)
swap_by f true true a b c true true n e h = absurd (n refl refl)
swap_by f true true a b c true false n e h = turned (round_neg f (b - a) c)
swap_by f true true a b c false true n e h = turned (round_not f true (a - b) c)
swap_by f true true a b c false false n e h = nought (none f a b c (e refl refl) h) (none f b a c (sym (e refl refl)) h)
swap_by f false false a b c true true n e h = absurd (n refl refl)
swap_by f false false a b c true false n e h = turned (round_not f true (b - a) c)
swap_by f false false a b c false true n e h = turned (round_neg f (a - b) c)
swap_by f false false a b c false false n e h = nought (none f a b c (e refl refl) h) (none f b a c (sym (e refl refl)) h)
swap_by f true false a b c p q n e h = turned (ap (λ (z : ℕ). round f false z c) (add_comm b a) ∙ round_not f true (a + b) c)
swap_by f false true a b c p q n e h = turned (ap (λ (z : ℕ). round f true z c) (add_comm b a) ∙ round_neg f (a + b) c)

both : (a b : ℕ) → ltb a b ≡ true → ltb b a ≡ true → ⊥
both a b p q = go a b (ltb→lt a b (subst T (sym p) tt)) (ltb→lt b a (subst T (sym q) tt))
  where
    go : (a b : ℕ) → a < b → b < a → ⊥
    go a b p q = omega arith

neither : (a b : ℕ) → ltb a b ≡ false → ltb b a ≡ false → a ≡ b
neither a b p q = go a b (nltb→le a b (subst (λ (z : Bool). T (not z)) (sym p) tt)) (nltb→le b a (subst (λ (z : Bool). T (not z)) (sym q) tt))
  where
    go : (a b : ℕ) → b ≤ a → a ≤ b → a ≡ b
    go a b p q = omega arith

sum_swap : (f : Format) (s t : Bool) (a b c : ℕ) → 0 < c → Swapped (sum f s a (not t) b c) (sum f t b (not s) a c)
unfolding sum
sum_swap f s t a b c h = swap_by f s t a b c (ltb a b) (ltb b a) (both a b) (neither a b) h

pub sub_swap : (f : Format) (x y : Float) → Swapped (sub f x y) (sub f y x)
unfolding sub add neg
sub_swap f nan nan = turned refl
sub_swap f nan (inf t) = turned refl
sub_swap f nan (fin t n d) = turned refl
sub_swap f (inf s) nan = turned refl
sub_swap f (inf true) (inf true) = turned refl
sub_swap f (inf true) (inf false) = turned refl
sub_swap f (inf false) (inf true) = turned refl
sub_swap f (inf false) (inf false) = turned refl
sub_swap f (inf s) (fin t n d) = turned refl
sub_swap f (fin s m e) nan = turned refl
sub_swap f (fin s m e) (inf true) = turned refl
sub_swap f (fin s m e) (inf false) = turned refl
sub_swap f (fin s m e) (fin t n d) =
    subst (λ (z : ℕ). Swapped (sum f s (m * up e * down d) (not t) (n * up d * down e) (down e * down d)) (sum f t (n * up d * down e) (not s) (m * up e * down d) z)) (mul_comm (down e) (down d))
    (sum_swap f s t (m * up e * down d) (n * up d * down e) (down e * down d) (mul-pos (down_pos e) (down_pos d)))

-- if the difference changes its sign, so does the sum
pub as_difference : (f : Format) (u x y : Float) (n : ℕ) (d : ℤ) → y ≡ neg x → sub f u (mul f y (fin false n d)) ≡ add f u (mul f x (fin false n d))
unfolding sub
as_difference f u x y n d e =
    ap (λ (z : Float). add f u (neg (mul f z (fin false n d)))) e
    ∙ ap (λ (z : Float). add f u (neg z)) (mul_neg f x (fin false n d))
    ∙ ap (λ (z : Float). add f u z) (neg_neg (mul f x (fin false n d)))
