-- Bounds that go through rounding: a sum, a difference or a product of floats that are bounded by whole numbers is bounded by those numbers' sum or product.
-- Also, zeros as factors and as summands. Assumes nothing.
use Rattle.std.proofs.Common.{◌≡◌, ℕ, zero, suc, ◌+◌, ◌-◌, ◌*◌, ◌^◌, ◌<◌, ◌≤◌, Bool, true, false, cond, not, ◌&&◌, ◌||◌, T, eqb, ltb, leb, ℤ, pos, sym, refl, ap, ◌∙◌, subst, true≢false, le_trans, le_of_eq, add-le-add, lt_irrefl, mul-le-mul_right, zero-lt-suc, mul_assoc, mul_comm, add-mul, mul-le-mul, mul-pos, mul-zero, zero-add, zero-mul, mul-one, arith, lit<, eqb→eq, leb→le, nltb→le}
use native.Mathlib.Nat.{mul-mul-mul_comm, sub-zero}
use mathlib.Core.Bool.{beq}
use lib.Ieee.{Float, nan, inf, fin, Format, prec, low, up, down, unlike, odd, units, round, neg, sum, add, sub, mul, le, eq, fits}
use lib.Ieee.Fits.{down_pos, up_pos}
use lib.Ieee.Exact.{HasValue}
use lib.Ieee.Order.{round_mono, drop, kept}
use lib.Ieee.Scale.{overflow}
use lib.Ieee.Back.{round_whole}
use Rattle.numbers.specs.Words.{finite, finite_clear}
use Rattle.numbers.proofs.Values.{rescale, round_fixed, le_at}
use Rattle.numbers.proofs.Signs.{clear, round_clear, bounded, equal_self}
use Rattle.numbers.proofs.Silence.{round_positive_zero}

-- finite, and of magnitude k at most
unfoldable pub within : ℕ → Float → Bool
within k nan = false
within k (inf s) = false
within k (fin s m e) = leb (m * up e) (k * down e)

-- a zero of either sign
unfoldable pub is_zero : Float → Bool
is_zero nan = false
is_zero (inf s) = false
is_zero (fin s m e) = eqb m 0

-- ---- `round` with either sign
neg_odd : (d q k l : ℕ) → odd d true q k l ≡ neg (odd d false q k l)
unfolding odd neg
neg_odd d zero k l = refl
neg_odd d (suc q) k l = refl

pub round_neg : (f : Format) (a c : ℕ) → round f true a c ≡ neg (round f false a c)
unfolding round units neg
round_neg f a c = go (ltb (q * 2 ^ k) (overflow f))
  where
    k : ℕ
    k = drop (prec f) (a * 2 ^ low f) c

    q : ℕ
    q = kept (prec f) (a * 2 ^ low f) c

    go : (b : Bool) → cond b (odd (suc (prec f)) true q k (low f)) (inf true) ≡ neg (cond b (odd (suc (prec f)) false q k (low f)) (inf false))
    go true = neg_odd (suc (prec f)) q k (low f)
    go false = refl

pub neg_within : (k : ℕ) (x : Float) → T (within k x) → T (within k (neg x))
unfolding within neg
neg_within k nan h = h
neg_within k (inf s) h = h
neg_within k (fin s m e) h = h

-- what is at most a float of value k
pub within_of_le : (k : ℕ) (y w : Float) → T (clear y) → HasValue w false k 1 → T (le y w) → T (within k y)
unfolding within
within_of_le k y nan p v h = absurd v
within_of_le k y (inf s) p v h = absurd v
within_of_le k y (fin true n d) p v h = absurd (true≢false v.0)
within_of_le k y (fin false n d) p v h = go y (bounded y n d p h) h
  where
    go : (y : Float) → T (finite_clear y) → T (le y (fin false n d)) → T (within k y)
    go nan l h = absurd l
    go (inf s) l h = absurd l
    go (fin true m e) l h = absurd l
    go (fin false m e) l h =
        let D = down e in
        subst T (le_at (fin false m e) (fin false n d) (m * up e) (k * D) D (down_pos e) (refl, refl) (rescale (fin false n d) false k 1 (k * D) D (lit< tt) (mul-one (k * D)) v)) h

plus_within : (f : Format) (a c k : ℕ) → 0 < c → k ≤ 2 ^ prec f → a ≤ k * c → T (within k (round f false a c))
plus_within f a c k C K h =
    within_of_le k (round f false a c) (round f false k 1) (round_clear f a c) (round_whole f false k K) (round_mono f a c k 1 C (lit< tt) (le_trans (le_of_eq (mul-one a)) h))

pub round_within : (f : Format) (s : Bool) (a c k : ℕ) → 0 < c → k ≤ 2 ^ prec f → a ≤ k * c → T (within k (round f s a c))
round_within f false a c k C K h = plus_within f a c k C K h
round_within f true a c k C K h = subst (λ (z : Float). T (within k z)) (sym (round_neg f a c)) (neg_within k (round f false a c) (plus_within f a c k C K h))

-- ---- sums and products
cond_within : (k : ℕ) (b : Bool) (x y : Float) → T (within k x) → T (within k y) → T (within k (cond b x y))
cond_within k true x y p q = p
cond_within k false x y p q = q

sum_within : (f : Format) (s : Bool) (a : ℕ) (t : Bool) (b c k : ℕ) → 0 < c → k ≤ 2 ^ prec f → a + b ≤ k * c → T (within k (sum f s a t b c))
unfolding sum
sum_within f s a t b c k C K h =
    cond_within k (beq s t) (round f s (a + b) c) (cond (ltb a b) (round f t (b - a) c) (round f (s && ltb b a) (a - b) c)) (round_within f s (a + b) c k C K h)
    (cond_within k (ltb a b) (round f t (b - a) c) (round f (s && ltb b a) (a - b) c) (round_within f t (b - a) c k C K (le_trans (one a b) h)) (round_within f (s && ltb b a) (a - b) c k C K (le_trans (other a b) h)))
  where
    one : (a b : ℕ) → b - a ≤ a + b
    one a b = omega arith

    other : (a b : ℕ) → a - b ≤ a + b
    other a b = omega arith

pub add_within : (f : Format) (j k : ℕ) (x y : Float) → j + k ≤ 2 ^ prec f → T (within j x) → T (within k y) → T (within (j + k) (add f x y))
unfolding within add
add_within f j k nan y K p q = absurd p
add_within f j k (inf s) y K p q = absurd p
add_within f j k (fin s m e) nan K p q = absurd q
add_within f j k (fin s m e) (inf t) K p q = absurd q
add_within f j k (fin s m e) (fin t n d) K p q =
    sum_within f s (m * up e * down d) t (n * up d * down e) (down e * down d) (j + k) (mul-pos (down_pos e) (down_pos d)) K
    (le_trans
    (add-le-add
    (le_trans (mul-le-mul_right (down d) (leb→le (m * up e) (j * down e) p)) (le_of_eq (mul_assoc j (down e) (down d))))
    (le_trans (mul-le-mul_right (down e) (leb→le (n * up d) (k * down d) q)) (le_of_eq (mul_assoc k (down d) (down e) ∙ ap (λ (z : ℕ). k * z) (mul_comm (down d) (down e))))))
    (le_of_eq (sym (add-mul j k (down e * down d)))))

pub sub_within : (f : Format) (j k : ℕ) (x y : Float) → j + k ≤ 2 ^ prec f → T (within j x) → T (within k y) → T (within (j + k) (sub f x y))
unfolding sub
sub_within f j k x y K p q = add_within f j k x (neg y) K p (neg_within k y q)

pub mul_within : (f : Format) (j k : ℕ) (x y : Float) → j * k ≤ 2 ^ prec f → T (within j x) → T (within k y) → T (within (j * k) (mul f x y))
unfolding within mul
mul_within f j k nan y K p q = absurd p
mul_within f j k (inf s) y K p q = absurd p
mul_within f j k (fin s m e) nan K p q = absurd q
mul_within f j k (fin s m e) (inf t) K p q = absurd q
mul_within f j k (fin s m e) (fin t n d) K p q =
    round_within f (unlike s t) (m * up e * (n * up d)) (down e * down d) (j * k) (mul-pos (down_pos e) (down_pos d)) K
    (le_trans (mul-le-mul (leb→le (m * up e) (j * down e) p) (leb→le (n * up d) (k * down d) q)) (le_of_eq (mul-mul-mul_comm j (down e) k (down d))))

-- ---- zeros
zero_is_zero : (s : Bool) (e : ℤ) → T (is_zero (fin s 0 e))
unfolding is_zero
zero_is_zero s e = tt

round_is_zero : (f : Format) (s : Bool) (a c : ℕ) → 0 < c → a ≡ 0 → T (is_zero (round f s a c))
round_is_zero f s a c C h = subst (λ (z : Float). T (is_zero z)) (sym (ap (λ (z : ℕ). round f s z c) h ∙ round_positive_zero f s c C)) (zero_is_zero s (pos 0))

nothing : (m : ℕ) → T (eqb m 0) → (u d : ℕ) → m * u * d ≡ 0
nothing m t u d = ap (λ (z : ℕ). z * u * d) (eqb→eq m 0 t) ∙ ap (λ (z : ℕ). z * d) (zero-mul u) ∙ zero-mul d

-- a finite value times a zero is a zero
pub mul_zero_right : (f : Format) (k : ℕ) (x z : Float) → T (within k x) → T (is_zero z) → T (is_zero (mul f x z))
unfolding within is_zero mul
mul_zero_right f k nan z p h = absurd p
mul_zero_right f k (inf s) z p h = absurd p
mul_zero_right f k (fin s m e) nan p h = absurd h
mul_zero_right f k (fin s m e) (inf t) p h = absurd h
mul_zero_right f k (fin s m e) (fin t n d) p h =
    round_is_zero f (unlike s t) (m * up e * (n * up d)) (down e * down d) (mul-pos (down_pos e) (down_pos d))
    (ap (λ (z : ℕ). m * up e * z) (sym (mul-one (n * up d)) ∙ nothing n h (up d) 1) ∙ mul-zero (m * up e))

within_finite : (k : ℕ) (x : Float) → T (within k x) → T (finite x)
unfolding within
within_finite k nan h = h
within_finite k (inf s) h = h
within_finite k (fin s m e) h = tt

eq_zeros : (x y : Float) → T (is_zero x) → T (is_zero y) → eq x y ≡ true
unfolding is_zero eq
eq_zeros nan y p q = absurd p
eq_zeros (inf s) y p q = absurd p
eq_zeros (fin s m e) nan p q = absurd q
eq_zeros (fin s m e) (inf t) p q = absurd q
eq_zeros (fin s m e) (fin t n d) p q =
    ap (λ (z : ℕ). eqb z (n * up d * down e) && (beq s t || eqb z 0)) (nothing m p (up e) (down d))
    ∙ ap (λ (z : ℕ). eqb 0 z && (beq s t || true)) (nothing n q (up d) (down e))
    ∙ or_true (beq s t)
  where
    or_true : (b : Bool) → (b || true) ≡ true
    or_true true = refl
    or_true false = refl

-- a zero plus b is b, except for the sign of a zero
sum_zero : (f : Format) (s t : Bool) (b : Float) (B D k : ℕ) → 0 < D → T (within k b) → round f t B D ≡ b → (B ≡ 0 → T (is_zero b)) → eq (sum f s 0 t B D) b ≡ true
unfolding sum
sum_zero f s t b B D k P w r z = go s t r
  where
    same : (u : Bool) → round f u B D ≡ b → eq (round f u (0 + B) D) b ≡ true
    same u r = ap (λ (x : ℕ). eq (round f u x D) b) (zero-add B) ∙ ap (λ (x : Float). eq x b) r ∙ equal_self b (within_finite k b w)

    gone : (x : ℕ) → x ≤ 0 → (x ≡ 0) × (0 - x ≡ 0)
    gone x h = (omega arith, omega arith)

    apart : (p : Bool) (u v : Bool) → (T (not p) → B ≤ 0) → round f u B D ≡ b → eq (cond p (round f u (B - 0) D) (round f v (0 - B) D)) b ≡ true
    apart true u v l r = ap (λ (x : ℕ). eq (round f u x D) b) (sub-zero B) ∙ ap (λ (x : Float). eq x b) r ∙ equal_self b (within_finite k b w)
    apart false u v l r = let g = gone B (l tt) in eq_zeros (round f v (0 - B) D) b (round_is_zero f v (0 - B) D P g.1) (z g.0)

    go : (s t : Bool) → round f t B D ≡ b → eq (cond (beq s t) (round f s (0 + B) D) (cond (ltb 0 B) (round f t (B - 0) D) (round f (s && ltb B 0) (0 - B) D))) b ≡ true
    go true true r = same true r
    go false false r = same false r
    go true false r = apart (ltb 0 B) false (true && ltb B 0) (nltb→le 0 B) r
    go false true r = apart (ltb 0 B) true (false && ltb B 0) (nltb→le 0 B) r

no_digits : (n u d : ℕ) → 0 < u → 0 < d → n * u * d ≡ 0 → T (eqb n 0)
no_digits zero u d U D h = tt
no_digits (suc n) u d U D h = absurd (lt_irrefl 0 (subst (λ (x : ℕ). 0 < x) h (mul-pos (mul-pos (zero-lt-suc n) U) D)))

pub zero_add_eq : (f : Format) (k : ℕ) (z b : Float) → T (is_zero z) → T (fits f b) → T (within k b) → eq (add f z b) b ≡ true
unfolding is_zero add within
zero_add_eq f k nan b h t p = absurd h
zero_add_eq f k (inf s) b h t p = absurd h
zero_add_eq f k (fin s m e) nan h t p = absurd p
zero_add_eq f k (fin s m e) (inf u) h t p = absurd p
zero_add_eq f k (fin s m e) (fin u n d) h t p =
    let B = n * up d * down e in
    let D = down e * down d in
    let P = mul-pos (down_pos e) (down_pos d) in
    ap (λ (x : ℕ). eq (sum f s x u B D) (fin u n d)) (nothing m h (up e) (down d))
    ∙ sum_zero f s u (fin u n d) B D k P p (round_fixed f (fin u n d) u B D P t (refl, sym (mul_assoc (n * up d) (down e) (down d)))) (λ g. no_digits n (up d) (down e) (up_pos d) (down_pos e) g)
