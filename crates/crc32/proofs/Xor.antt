-- Laws of exclusive or that the kit does not have: its order of operands, and a number as its high and low digits. Assumes nothing.
use mathlib.Core.Path.{◌≡◌, refl, sym, ap, ap₂, ◌∙◌}
use Prim.Native.Nat.{ℕ, zero, suc, ◌+◌, ◌*◌, ◌/◌, ◌%◌, ◌^◌, ◌<◌}
use native.Mathlib.Nat.{mod-lt, div-add-mod'}
use native.Mathlib.Omega.{arith}
use lib.Arith.{bin_ind}
use lib.Pow.{pow_pos}
use lib.Bits.{bit_xor, differ, xor_step, xor_shr, xor_mod, xor_comm, xor_shifted}

none : {A : Type 0} → ⊥ → A
none e = elim e [ ]

differ_assoc : (x y z : ℕ) → x < 2 → y < 2 → z < 2 → differ (differ x y) z ≡ differ x (differ y z)
differ_assoc zero y z p q r = refl
differ_assoc (suc zero) zero z p q r = refl
differ_assoc (suc zero) (suc zero) zero p q r = refl
differ_assoc (suc zero) (suc zero) (suc zero) p q r = refl
differ_assoc (suc zero) (suc zero) (suc (suc z)) p q r = none (omega arith)
differ_assoc (suc zero) (suc (suc y)) z p q r = none (omega arith)
differ_assoc (suc (suc x)) y z p q r = none (omega arith)

low : (n : ℕ) → n % 2 < 2
low n = omega arith

pub xor_half : (a b : ℕ) → bit_xor a b / 2 ≡ bit_xor (a / 2) (b / 2)
xor_half a b = xor_shr a b 1

differ_low : (x y : ℕ) → x < 2 → y < 2 → bit_xor x y ≡ differ x y
differ_low zero y p q = refl
differ_low (suc zero) zero p q = refl
differ_low (suc zero) (suc zero) p q = refl
differ_low (suc zero) (suc (suc y)) p q = none (omega arith)
differ_low (suc (suc x)) y p q = none (omega arith)

pub xor_odd : (a b : ℕ) → bit_xor a b % 2 ≡ differ (a % 2) (b % 2)
xor_odd a b = xor_mod a b 1 ∙ differ_low (a % 2) (b % 2) (low a) (low b)

pub xor_assoc : (a b c : ℕ) → bit_xor (bit_xor a b) c ≡ bit_xor a (bit_xor b c)
xor_assoc a =
    bin_ind (λ (n : ℕ). (b c : ℕ) → bit_xor (bit_xor n b) c ≡ bit_xor n (bit_xor b c)) (λ b c. refl)
    (λ n ih b c.
    xor_step (bit_xor n b) c
    ∙ ap₂ (λ (x y : ℕ). x * 2 + y)
    (ap (λ (z : ℕ). bit_xor z (c / 2)) (xor_half n b) ∙ ih (b / 2) (c / 2) ∙ ap (bit_xor (n / 2)) (sym (xor_half b c)))
    (ap (λ (z : ℕ). differ z (c % 2)) (xor_odd n b) ∙ differ_assoc (n % 2) (b % 2) (c % 2) (low n) (low b) (low c) ∙ ap (differ (n % 2)) (sym (xor_odd b c)))
    ∙ sym (xor_step n (bit_xor b c)))
    a

-- four operands, the inner two exchanged
pub xor_four : (a b c d : ℕ) → bit_xor (bit_xor a b) (bit_xor c d) ≡ bit_xor (bit_xor a c) (bit_xor b d)
xor_four a b c d =
    xor_assoc a b (bit_xor c d)
    ∙ ap (bit_xor a) (sym (xor_assoc b c d) ∙ ap (λ (z : ℕ). bit_xor z d) (xor_comm b c) ∙ xor_assoc c b d)
    ∙ sym (xor_assoc a c (bit_xor b d))

-- the k low digits, and the rest
pub xor_split : (k x : ℕ) → x ≡ bit_xor (x % 2 ^ k) (x / 2 ^ k * 2 ^ k)
xor_split k x =
    sym (div-add-mod' x (2 ^ k)) ∙ sym (xor_shifted (x / 2 ^ k) k (x % 2 ^ k) (mod-lt x (pow_pos k))) ∙ xor_comm (x / 2 ^ k * 2 ^ k) (x % 2 ^ k)
