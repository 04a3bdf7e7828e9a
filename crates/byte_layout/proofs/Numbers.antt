-- Little-endian numbers: what was written is read back, and what was read is written again.
use mathlib.Core.Path.{◌≡◌, refl, sym, ap, ◌∙◌}
use Prim.Native.Nat.{ℕ, zero, suc, ◌+◌, ◌-◌, ◌*◌, ◌/◌, ◌%◌, ◌^◌, ◌≤◌, ◌<◌}
use native.Mathlib.Nat.{pow-succ', pow-le-pow_right, mod-add-div, mod-eq_of_lt, add-mul-mod_self_left, add-mul-div_left, div-eq_of_lt}
use native.Mathlib.Omega.{arith}
use mathlib.Core.Bool.{Bool, true, ◌&&◌}
use mathlib.Core.List.{List, [], ◌∷◌}
use lib.Dec.{T, ltb, ltb→lt}
use lib.ListN.{length, get_or, take, drop}
use lib.Seq.{drop-cons}
use lib.Ieee.Fits.{and_l, and_r}
use Rattle.byte_layout.specs.Numbers.{Bytes, num, bytes}

none : {A : Type 0} → ⊥ → A
none e = elim e [ ]

abbrev pub Small : List ℕ → Type 0
Small l = Bytes l

-- the same as a test, for a list that is written out
abbrev pub are_small : List ℕ → Bool
are_small [] = true
are_small (b ∷ l) = ltb b 256 && are_small l

pub small_of : (l : List ℕ) → T (are_small l) → Small l
small_of [] h i = omega arith
small_of (b ∷ l) h zero = ltb→lt b 256 (and_l (ltb b 256) (are_small l) h)
small_of (b ∷ l) h (suc i) = small_of l (and_r (ltb b 256) (are_small l) h) i

pub small_drop : (n : ℕ) (l : List ℕ) → Small l → Small (drop n l)
small_drop zero l h = h
small_drop (suc n) [] h = h
small_drop (suc n) (b ∷ l) h = small_drop n l (λ i. h (suc i))

pub length_bytes : (w x : ℕ) → length (bytes w x) ≡ w
unfolding bytes
length_bytes zero x = refl
length_bytes (suc w) x = ap suc (length_bytes w (x / 256))

pub num_lt : (m : ℕ) (l : List ℕ) → Small l → num (take m l) < 256 ^ m
unfolding num
num_lt zero l h = omega arith
num_lt (suc m) [] h = omega (arith, pow-succ' 256 m, num_lt m [] h)
num_lt (suc m) (b ∷ l) h = omega (arith, pow-succ' 256 m, num_lt m l (λ i. h (suc i)), h 0)

pub num_bytes : (w x : ℕ) → x < 256 ^ w → num (bytes w x) ≡ x
unfolding num bytes
num_bytes zero x h = omega arith
num_bytes (suc w) x h =
    let e = mod-add-div x 256 in
    let q : x / 256 < 256 ^ w = omega (arith, e, pow-succ' 256 w) in
    ap (λ (n : ℕ). x % 256 + 256 * n) (num_bytes w (x / 256) q) ∙ e

pub bytes_num : (m : ℕ) (l : List ℕ) → Small l → m ≤ length l → bytes m (num (take m l)) ≡ take m l
unfolding num bytes
bytes_num zero l h k = refl
bytes_num (suc m) [] h k = none (omega arith)
bytes_num (suc m) (b ∷ l) h k =
    let n = num (take m l) in
    let s : b < 256 = h 0 in
    let e : (b + 256 * n) % 256 ≡ b = add-mul-mod_self_left b 256 n ∙ mod-eq_of_lt s in
    let f : (b + 256 * n) / 256 ≡ n = add-mul-div_left b n (omega arith) ∙ ap (λ (z : ℕ). z + n) (div-eq_of_lt s) ∙ omega arith in
    rw (e, f) (ap (λ (z : List ℕ). b ∷ z) (bytes_num m l (λ i. h (suc i)) (omega arith)))

-- one more byte in front
pub num_step : (s : List ℕ) (i e : ℕ) → i < e → e ≤ length s → num (take (e - i) (drop i s)) ≡ get_or s i 0 + 256 * num (take (e - suc i) (drop (suc i) s))
unfolding num
num_step s i e a b =
    let f : e - i ≡ suc (e - suc i) = omega arith in
    rw (f, drop-cons s i 0 (omega arith)) refl

pub word : (m : ℕ) (l : List ℕ) → Small l → m ≤ 7 → num (take m l) < 72057594037927936
word m l h k = omega (arith, num_lt m l h, pow-le-pow_right {n = 256} (omega arith) {i = m} {j = 7} k)

-- the loop of `number`, from the end e down: one more byte, what it fits, and the last
pub turn : (s : List ℕ) (i e x : ℕ) → 0 < i → i ≤ e → e ≤ length s → x ≡ num (take (e - i) (drop i s))
    → x * 256 + get_or s (i - 1) 0 ≡ num (take (e - (i - 1)) (drop (i - 1) s))
turn s i e x p a b h =
    let f : suc (i - 1) ≡ i = omega arith in
    let n = num_step s (i - 1) e (omega arith) b in
    let m : num (take (e - suc (i - 1)) (drop (suc (i - 1)) s)) ≡ x = ap (λ (k : ℕ). num (take (e - k) (drop k s))) f ∙ sym h in
    omega (arith, n, m)

pub room : (s : List ℕ) (i e x : ℕ) → Small s → e ≤ i + 7 → x ≡ num (take (e - i) (drop i s)) → x < 72057594037927936
room s i e x h a q = omega (arith, q, word (e - i) (drop i s) (small_drop i s h) (omega arith))

pub counted : (s : List ℕ) (at w i x : ℕ) → i ≡ at → x ≡ num (take (at + w - i) (drop i s)) → x ≡ num (take w (drop at s))
counted s at w i x e h =
    let f : at + w - i ≡ w = omega arith in
    h ∙ ap (λ (n : ℕ). num (take n (drop i s))) f ∙ ap (λ (n : ℕ). num (take w (drop n s))) e
