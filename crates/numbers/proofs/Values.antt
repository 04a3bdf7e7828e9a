-- Floats by the fractions that they equal (`HasValue`): a fraction has one float of a format,
-- and a sum or a difference of two floats is the sum or difference of their fractions, rounded. Assumes nothing.
use Rattle.std.proofs.Common.{◌≡◌, ℕ, zero, suc, ◌+◌, ◌-◌, ◌*◌, ◌/◌, ◌%◌, ◌^◌, ◌<◌, ◌≤◌, min, Bool, true, false, cond, not, ◌&&◌, ◌||◌, T, eqb, ltb, leb, ℤ, pos, negsuc, sym, refl, ap, ◌∙◌, subst, true≢false, le_of_eq, lt_of_lt_of_le, lt_of_le_of_lt, le_of_lt, lt_irrefl, mul-le-mul_right, zero-lt-suc, mul_assoc, mul_comm, add-mul, lt_of_mul-lt-mul_right, mul-lt-mul_of_pos_right, mul-pos, one-mul, pow-suc, zero-mul, mul-one, mul_right_comm, not-le_of_lt, le_of_mul-le-mul_right, mul_left_comm, arith, le→leb, eqb→eq, ltb→lt, leb→le, pow_pos, pow-add}
use native.Mathlib.Nat.{mul-sub, eq_of_mul-eq-mul_right, pow-succ'}
use lib.Dec.{nleb→lt}
use lib.Pow.{pow-lt}
use lib.Ieee.{Float, nan, inf, fin, Format, prec, emax, low, up, down, unlike, round, sum, add, sub, mul, le, fits, to_unsigned}
use lib.Ieee.Fits.{up_pos, down_pos, and_l, and_r, round-fits}
use lib.Ieee.Exact.{HasValue, round_exact}
use lib.Ieee.Nearest.{div_same}
use lib.Ieee.Order.{transfer, le_of_values}
use lib.Ieee.Scale.{round_same}
use Rattle.numbers.specs.Words.{one}

-- ---- from one fraction to an equal one
pub rescale : (x : Float) (s : Bool) (a c b d : ℕ) → 0 < c → b * c ≡ a * d → HasValue x s a c → HasValue x s b d
rescale nan s a c b d p h v = v
rescale (inf t) s a c b d p h v = v
rescale (fin t m e) s a c b d p h v = (
  v.0,
  eq_of_mul-eq-mul_right c p (m * up e * d) (b * down e)
      (mul_right_comm (m * up e) d c
      ∙ ap (λ (x : ℕ). x * d) v.1
      ∙ mul_right_comm a (down e) d
      ∙ ap (λ (x : ℕ). x * down e) (sym h)
      ∙ mul_right_comm b c (down e)),
)

-- ---- a number is written in one way
even_odd : (m t : ℕ) → m % 2 ≡ 1 → m ≡ 2 * t → ⊥
even_odd m t o h = omega arith

odd_pow : (m n a b : ℕ) → m % 2 ≡ 1 → n % 2 ≡ 1 → m * 2 ^ a ≡ n * 2 ^ b → (m ≡ n) × (a ≡ b)
odd_pow m n zero zero o p h = (sym (mul-one m) ∙ h ∙ mul-one n, refl)
odd_pow m n zero (suc b) o p h = absurd (even_odd m (n * 2 ^ b) o (sym (mul-one m) ∙ h ∙ ap (λ (x : ℕ). n * x) (pow-succ' 2 b) ∙ mul_left_comm n 2 (2 ^ b)))
odd_pow m n (suc a) zero o p h = absurd (even_odd n (m * 2 ^ a) p (sym (mul-one n) ∙ sym h ∙ ap (λ (x : ℕ). m * x) (pow-succ' 2 a) ∙ mul_left_comm m 2 (2 ^ a)))
odd_pow m n (suc a) (suc b) o p h =
    let r = odd_pow m n a b o p (eq_of_mul-eq-mul_right 2 (zero-lt-suc 1) (m * 2 ^ a) (n * 2 ^ b)
    (mul_assoc m (2 ^ a) 2 ∙ ap (λ (x : ℕ). m * x) (sym (pow-suc 2 a)) ∙ h ∙ ap (λ (x : ℕ). n * x) (pow-suc 2 b) ∙ sym (mul_assoc n (2 ^ b) 2))) in
    (r.0, ap suc r.1)

never : (a b : ℕ) → a + suc b ≡ 0 → ⊥
never a b h = omega arith

-- m * 2 ^ e ≡ n * 2 ^ g, crosswise
odd_same : (m n : ℕ) (e g : ℤ) → m % 2 ≡ 1 → n % 2 ≡ 1 → m * up e * down g ≡ n * up g * down e → (m ≡ n) × (e ≡ g)
odd_same m n (pos a) (pos b) o p h =
    let r = odd_pow m n a b o p (sym (mul-one (m * 2 ^ a)) ∙ h ∙ mul-one (n * 2 ^ b)) in
    (r.0, ap pos r.1)
odd_same m n (pos a) (negsuc b) o p h =
    let r = odd_pow m n (a + suc b) 0 o p (ap (λ (x : ℕ). m * x) (pow-add 2 a (suc b)) ∙ sym (mul_assoc m (2 ^ a) (2 ^ suc b)) ∙ h ∙ mul-one (n * 1)) in
    absurd (never a b r.1)
odd_same m n (negsuc a) (pos b) o p h =
    let r = odd_pow m n 0 (b + suc a) o p (sym (mul-one (m * 1)) ∙ h ∙ mul_assoc n (2 ^ b) (2 ^ suc a) ∙ ap (λ (x : ℕ). n * x) (sym (pow-add 2 b (suc a)))) in
    absurd (never b a (sym r.1))
odd_same m n (negsuc a) (negsuc b) o p h =
    let r = odd_pow m n (suc b) (suc a) o p (ap (λ (x : ℕ). x * 2 ^ suc b) (sym (mul-one m)) ∙ h ∙ ap (λ (x : ℕ). x * 2 ^ suc a) (mul-one n)) in
    (r.0, ap negsuc (less b a r.1))
  where
    less : (x y : ℕ) → suc x ≡ suc y → y ≡ x
    less x y h = omega arith

-- of a value that fits: m is odd, or it is 0 with the exponent 0
is_odd : (f : Format) (s : Bool) (m : ℕ) (e : ℤ) → T (fits f (fin s (suc m) e)) → suc m % 2 ≡ 1
unfolding fits
is_odd f s m e t =
    eqb→eq (suc m % 2) 1 (and_l (eqb (suc m % 2) 1) (ltb (suc m) (2 ^ prec f)) (and_l (eqb (suc m % 2) 1 && ltb (suc m) (2 ^ prec f)) (leb (down e) (2 ^ low f))
    (and_l (eqb (suc m % 2) 1 && ltb (suc m) (2 ^ prec f) && leb (down e) (2 ^ low f)) (ltb (suc m * up e) (2 ^ suc (emax f) * down e)) t)))

pub down_le : (f : Format) (s : Bool) (m : ℕ) (e : ℤ) → T (fits f (fin s (suc m) e)) → down e ≤ 2 ^ low f
unfolding fits
down_le f s m e t =
    leb→le (down e) (2 ^ low f) (and_r (eqb (suc m % 2) 1 && ltb (suc m) (2 ^ prec f)) (leb (down e) (2 ^ low f))
    (and_l (eqb (suc m % 2) 1 && ltb (suc m) (2 ^ prec f) && leb (down e) (2 ^ low f)) (ltb (suc m * up e) (2 ^ suc (emax f) * down e)) t))

two_up : (p : ℕ) → 0 < p → 2 * p ≡ 1 → ⊥
two_up p h e = omega arith

flat : (e : ℤ) → up e * down e ≡ 1 → e ≡ pos 0
flat (pos zero) h = refl
flat (pos (suc k)) h = absurd (two_up (2 ^ k) (pow_pos k) (sym (pow-succ' 2 k) ∙ sym (mul-one (2 ^ suc k)) ∙ h))
flat (negsuc k) h = absurd (two_up (2 ^ k) (pow_pos k) (sym (pow-succ' 2 k) ∙ sym (one-mul (2 ^ suc k)) ∙ h))

pub zero_exp : (f : Format) (s : Bool) (e : ℤ) → T (fits f (fin s zero e)) → e ≡ pos 0
unfolding fits
zero_exp f s e t = flat e (eqb→eq (up e * down e) 1 t)

cross : (X Y a c p q : ℕ) → 0 < c → X * c ≡ a * p → Y * c ≡ a * q → X * q ≡ Y * p
cross X Y a c p q C h k =
    eq_of_mul-eq-mul_right c C (X * q) (Y * p)
    (mul_right_comm X q c ∙ ap (λ (x : ℕ). x * q) h ∙ mul_right_comm a p q ∙ ap (λ (x : ℕ). x * p) (sym k) ∙ mul_right_comm Y c p)

zero_not : (n : ℕ) (e g : ℤ) → zero * up e * down g ≡ suc n * up g * down e → ⊥
zero_not n e g h = lt_irrefl 0 (subst (λ (x : ℕ). 0 < x) (sym h ∙ ap (λ (y : ℕ). y * down g) (zero-mul (up e)) ∙ zero-mul (down g)) (mul-pos (mul-pos (zero-lt-suc n) (up_pos g)) (down_pos e)))

-- a fraction has at most one float of each sign
pub value_unique : (f : Format) (x y : Float) (s : Bool) (a c : ℕ) → 0 < c → T (fits f x) → T (fits f y) → HasValue x s a c → HasValue y s a c → x ≡ y
value_unique f nan y s a c C p q v w = elim v [ ]
value_unique f (inf _) y s a c C p q v w = elim v [ ]
value_unique f (fin t zero e) nan s a c C p q v w = elim w [ ]
value_unique f (fin t zero e) (inf _) s a c C p q v w = elim w [ ]
value_unique f (fin t (suc m) e) nan s a c C p q v w = elim w [ ]
value_unique f (fin t (suc m) e) (inf _) s a c C p q v w = elim w [ ]
value_unique f (fin t zero e) (fin u zero g) s a c C p q v w = λ i. fin ((v.0 ∙ sym w.0) i) zero ((zero_exp f t e p ∙ sym (zero_exp f u g q)) i)
value_unique f (fin t zero e) (fin u (suc n) g) s a c C p q v w =
    absurd (zero_not n e g (cross (zero * up e) (suc n * up g) a c (down e) (down g) C v.1 w.1))
value_unique f (fin t (suc m) e) (fin u zero g) s a c C p q v w =
    absurd (zero_not m g e (cross (zero * up g) (suc m * up e) a c (down g) (down e) C w.1 v.1))
value_unique f (fin t (suc m) e) (fin u (suc n) g) s a c C p q v w =
    let r = odd_same (suc m) (suc n) e g (is_odd f t m e p) (is_odd f u n g q) (cross (suc m * up e) (suc n * up g) a c (down e) (down g) C v.1 w.1) in
    λ i. fin ((v.0 ∙ sym w.0) i) (r.0 i) (r.1 i)

-- ---- a value that fits is a whole number of the format's smallest values
pub pow_le_back : (a l : ℕ) → 2 ^ a ≤ 2 ^ l → a ≤ l
pow_le_back a l h = go (leb a l) refl
  where
    go : (b : Bool) → leb a l ≡ b → a ≤ l
    go true e = leb→le a l (subst T (sym e) tt)
    go false e = absurd (not-le_of_lt (pow-lt (nleb→lt a l (subst (λ (z : Bool). T (not z)) (sym e) tt))) h)

pub back : (a l : ℕ) → l ≤ a → a - l + l ≡ a
back a l h = omega arith

-- the size of a number that fits: m * 2 ^ j of the smallest values
pub place : (f : Format) (s : Bool) (m : ℕ) (e : ℤ) → T (fits f (fin s m e)) → (j : ℕ) × (m * up e * 2 ^ low f ≡ m * 2 ^ j * down e)
place f s m (pos a) t = (a + low f, mul_assoc m (2 ^ a) (2 ^ low f) ∙ ap (λ (x : ℕ). m * x) (sym (pow-add 2 a (low f))) ∙ sym (mul-one (m * 2 ^ (a + low f))))
place f s zero (negsuc a) t = (0, ap (λ (x : ℕ). x * 2 ^ low f) (zero-mul 1) ∙ zero-mul (2 ^ low f) ∙ sym (ap (λ (x : ℕ). x * 2 ^ suc a) (zero-mul (2 ^ 0)) ∙ zero-mul (2 ^ suc a)))
place f s (suc m) (negsuc a) t =
    let l = low f in
    let h : suc a ≤ l = pow_le_back (suc a) l (down_le f s m (negsuc a) t) in (
      l - suc a,
      ap (λ (x : ℕ). x * 2 ^ l) (mul-one (suc m))
          ∙ ap (λ (x : ℕ). suc m * x) (ap (λ (x : ℕ). 2 ^ x) (sym (back l (suc a) h)) ∙ pow-add 2 (l - suc a) (suc a))
          ∙ sym (mul_assoc (suc m) (2 ^ (l - suc a)) (2 ^ suc a)),
    )

pub digits_lt : (f : Format) (s : Bool) (m : ℕ) (e : ℤ) → T (fits f (fin s m e)) → m < 2 ^ prec f
unfolding fits
digits_lt f s zero e t = pow_pos (prec f)
digits_lt f s (suc m) e t =
    ltb→lt (suc m) (2 ^ prec f) (and_r (eqb (suc m % 2) 1) (ltb (suc m) (2 ^ prec f)) (and_l (eqb (suc m % 2) 1 && ltb (suc m) (2 ^ prec f)) (leb (down e) (2 ^ low f))
    (and_l (eqb (suc m % 2) 1 && ltb (suc m) (2 ^ prec f) && leb (down e) (2 ^ low f)) (ltb (suc m * up e) (2 ^ suc (emax f) * down e)) t)))

pub range_lt : (f : Format) (s : Bool) (m : ℕ) (e : ℤ) → T (fits f (fin s m e)) → m * up e < 2 ^ suc (emax f) * down e
unfolding fits
range_lt f s zero e t = subst (λ (x : ℕ). x < 2 ^ suc (emax f) * down e) (sym (zero-mul (up e))) (mul-pos (pow_pos (suc (emax f))) (down_pos e))
range_lt f s (suc m) e t =
    ltb→lt (suc m * up e) (2 ^ suc (emax f) * down e) (and_r (eqb (suc m % 2) 1 && ltb (suc m) (2 ^ prec f) && leb (down e) (2 ^ low f)) (ltb (suc m * up e) (2 ^ suc (emax f) * down e)) t)

-- ---- a fraction that is a float's value rounds to that float
pub round_fixed : (f : Format) (x : Float) (s : Bool) (a c : ℕ) → 0 < c → T (fits f x) → HasValue x s a c → round f s a c ≡ x
round_fixed f nan s a c C t v = absurd v
round_fixed f (inf u) s a c C t v = absurd v
round_fixed f (fin u m e) s a c C t v =
    let pl = place f u m e t in
    let j = pl.0 in
    let l = low f in
    let n = m * 2 ^ j in
    let fine : n < 2 ^ (l + suc (emax f)) =
    lt_of_mul-lt-mul_right (down e)
    (lt_of_le_of_lt (le_of_eq (sym pl.1))
    (lt_of_lt_of_le (mul-lt-mul_of_pos_right (range_lt f u m e t) (pow_pos l))
    (le_of_eq (mul_right_comm (2 ^ suc (emax f)) (down e) (2 ^ l) ∙ ap (λ (z : ℕ). z * down e) (mul_comm (2 ^ suc (emax f)) (2 ^ l) ∙ sym (pow-add 2 l (suc (emax f)))))))) in
    let val : a * 2 ^ l ≡ n * c =
    eq_of_mul-eq-mul_right (down e) (down_pos e) (a * 2 ^ l) (n * c)
    (mul_right_comm a (2 ^ l) (down e) ∙ ap (λ (z : ℕ). z * 2 ^ l) (sym v.1) ∙ mul_right_comm (m * up e) c (2 ^ l) ∙ ap (λ (z : ℕ). z * c) pl.1 ∙ mul_right_comm n (down e) c) in
    value_unique f (round f s a c) (fin u m e) s a c C (round-fits f s a c) t (round_exact f s a c m j C (digits_lt f u m e t) fine val) v

-- ---- a product with 1
unlike_false : (s : Bool) → s ≡ unlike s false
unlike_false true = refl
unlike_false false = refl

pub mul_one_right : (f : Format) (x : Float) → T (fits f x) → mul f x one ≡ x
unfolding mul
mul_one_right f nan t = refl
mul_one_right f (inf true) t = refl
mul_one_right f (inf false) t = refl
mul_one_right f (fin s m e) t =
    let X = m * up e in
    round_fixed f (fin s m e) (unlike s false) (X * 1) (down e * 1) (mul-pos (down_pos e) (zero-lt-suc 0)) t
    (unlike_false s, ap (λ (z : ℕ). X * z) (mul-one (down e)) ∙ sym (ap (λ (z : ℕ). z * down e) (mul-one X)))

-- ---- sums and differences
sides : (X a c p q : ℕ) → X * c ≡ a * p → X * q * c ≡ a * (p * q)
sides X a c p q h = mul_right_comm X q c ∙ ap (λ (x : ℕ). x * q) h ∙ mul_assoc a p q

pub add_at : (f : Format) (x y : Float) (a b c : ℕ) → 0 < c → HasValue x false a c → HasValue y false b c → add f x y ≡ round f false (a + b) c
unfolding add sum
add_at f nan y a b c C v w = absurd v
add_at f (inf s) y a b c C v w = absurd v
add_at f (fin s m e) nan a b c C v w = absurd w
add_at f (fin s m e) (inf t) a b c C v w = absurd w
add_at f (fin true m e) (fin t n d) a b c C v w = absurd (true≢false v.0)
add_at f (fin false m e) (fin true n d) a b c C v w = absurd (true≢false w.0)
add_at f (fin false m e) (fin false n d) a b c C v w =
    let X = m * up e * down d in
    let Y = n * up d * down e in
    let D = down e * down d in
    round_same f false (X + Y) D (a + b) c (mul-pos (down_pos e) (down_pos d)) C
    (add-mul X Y c
    ∙ ap (λ (z : ℕ). z + Y * c) (sides (m * up e) a c (down e) (down d) v.1)
    ∙ ap (λ (z : ℕ). a * D + z) (sides (n * up d) b c (down d) (down e) w.1 ∙ ap (λ (z : ℕ). b * z) (mul_comm (down d) (down e)))
    ∙ sym (add-mul a b D))

sub_mul : (a b c : ℕ) → (a - b) * c ≡ a * c - b * c
sub_mul a b c = mul_comm (a - b) c ∙ mul-sub c a b ∙ ap (λ (z : ℕ). z - c * b) (mul_comm c a) ∙ ap (λ (z : ℕ). a * c - z) (mul_comm c b)

pick : (f : Format) (a b c : ℕ) → b ≤ a → sum f false a true b c ≡ round f false (a - b) c
unfolding sum
pick f a b c h = go (ltb a b) (ltb→lt a b)
  where
    go : (t : Bool) → (T t → a < b) → cond t (round f true (b - a) c) (round f false (a - b) c) ≡ round f false (a - b) c
    go true k = absurd (not-le_of_lt (k tt) h)
    go false k = refl

opened : (f : Format) (m : ℕ) (e : ℤ) (n : ℕ) (d : ℤ) → sub f (fin false m e) (fin false n d) ≡ sum f false (m * up e * down d) true (n * up d * down e) (down e * down d)
unfolding sub
opened f m e n d = refl

pub sub_at : (f : Format) (x y : Float) (a b c : ℕ) → 0 < c → b ≤ a → HasValue x false a c → HasValue y false b c → sub f x y ≡ round f false (a - b) c
sub_at f nan y a b c C h v w = absurd v
sub_at f (inf s) y a b c C h v w = absurd v
sub_at f (fin s m e) nan a b c C h v w = absurd w
sub_at f (fin s m e) (inf t) a b c C h v w = absurd w
sub_at f (fin true m e) (fin t n d) a b c C h v w = absurd (true≢false v.0)
sub_at f (fin false m e) (fin true n d) a b c C h v w = absurd (true≢false w.0)
sub_at f (fin false m e) (fin false n d) a b c C h v w =
    let X = m * up e * down d in
    let Y = n * up d * down e in
    let D = down e * down d in
    let le : Y ≤ X = transfer (n * up d) (m * up e) (down d) (down e) b a c c C C w.1 v.1 (mul-le-mul_right c h) in
    opened f m e n d
    ∙ pick f X Y D le
    ∙ round_same f false (X - Y) D (a - b) c (mul-pos (down_pos e) (down_pos d)) C
    (sub_mul X Y c
    ∙ ap (λ (z : ℕ). z - Y * c) (sides (m * up e) a c (down e) (down d) v.1)
    ∙ ap (λ (z : ℕ). a * D - z) (sides (n * up d) b c (down d) (down e) w.1 ∙ ap (λ (z : ℕ). b * z) (mul_comm (down d) (down e)))
    ∙ sym (sub_mul a b D))

-- ---- comparisons
same_test : (a b : Bool) → (T a → T b) → (T b → T a) → a ≡ b
same_test true true p q = refl
same_test true false p q = absurd (p tt)
same_test false true p q = absurd (q tt)
same_test false false p q = refl

lt_or_eq : (a b : ℕ) → T (ltb a b || (eqb a b && true)) → a ≤ b
lt_or_eq a b t = go (ltb a b) (eqb a b) (ltb→lt a b) (eqb→eq a b) t
  where
    go : (p q : Bool) → (T p → a < b) → (T q → a ≡ b) → T (p || (q && true)) → a ≤ b
    go true q h k t = le_of_lt (h tt)
    go false true h k t = le_of_eq (k tt)
    go false false h k t = absurd t

pub le_at : (x y : Float) (a b c : ℕ) → 0 < c → HasValue x false a c → HasValue y false b c → le x y ≡ leb a b
unfolding le
le_at nan y a b c C v w = absurd v
le_at (inf s) y a b c C v w = absurd v
le_at (fin s m e) nan a b c C v w = absurd w
le_at (fin s m e) (inf t) a b c C v w = absurd w
le_at (fin true m e) (fin t n d) a b c C v w = absurd (true≢false v.0)
le_at (fin false m e) (fin true n d) a b c C v w = absurd (true≢false w.0)
le_at (fin false m e) (fin false n d) a b c C v w =
    same_test (le (fin false m e) (fin false n d)) (leb a b)
    (λ t. le→leb a b (le_of_mul-le-mul_right (transfer a b c c (m * up e) (n * up d) (down e) (down d) (down_pos e) (down_pos d) (sym v.1) (sym w.1) (lt_or_eq (m * up e * down d) (n * up d * down e) t)) C))
    (λ t. le_of_values (fin false m e) (fin false n d) a c b c C C v w (mul-le-mul_right c (leb→le a b t)))

-- ---- the whole part, as a cast takes it
pub unsigned_of_value : (y : Float) (a c : ℕ) → 0 < c → HasValue y false a c → a / c < 2 ^ 64 → to_unsigned 64 y ≡ a / c
unfolding to_unsigned
unsigned_of_value nan a c C v h = absurd v
unsigned_of_value (inf s) a c C v h = absurd v
unsigned_of_value (fin true m e) a c C v h = absurd (true≢false v.0)
unsigned_of_value (fin false m e) a c C v h = ap (λ (z : ℕ). min z (2 ^ 64 - 1)) (div_same (m * up e) (down e) a c (down_pos e) C v.1) ∙ uncapped (a / c) h
  where
    uncapped : (q : ℕ) → q < 2 ^ 64 → min q (2 ^ 64 - 1) ≡ q
    uncapped q h = omega arith
