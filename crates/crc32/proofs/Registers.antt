-- Eight bits of the register at once: the table has the effect of the low byte, and the rest is shifted. Assumes nothing.
use mathlib.Core.Path.{◌≡◌, refl, sym, ap, ap₂, ◌∙◌, subst}
use mathlib.Core.Bool.{Bool}
use mathlib.Core.List.{List}
use Prim.Native.Nat.{ℕ, zero, suc, ◌+◌, ◌*◌, ◌/◌, ◌%◌, ◌^◌, ◌<◌}
use native.Mathlib.Omega.{arith}
use lib.Dec.{T, eqb, eqb→eq}
use lib.ListN.{length, get_or, drop, drop_of_length-le}
use native.Mathlib.Numerals.{add-one}
use lib.Seq.{drop-cons}
use lib.Bits.{bit_xor, bit_and, differ, and_mask, shifted_half, shifted_even}
use Rattle.tables.proofs.Every.{every, at}
use Rattle.crc32.specs.Checksums.{bit, bits, byte, register, Table}
use Rattle.crc32.proofs.Xor.{xor_half, xor_odd, xor_four, xor_split}

none : {A : Type 0} → ⊥ → A
none e = elim e [ ]

low : (n : ℕ) → n % 2 < 2
low n = omega arith

scaled : (x y : ℕ) → x < 2 → y < 2 → differ x y * 3988292384 ≡ bit_xor (x * 3988292384) (y * 3988292384)
scaled zero y p q = refl
scaled (suc zero) zero p q = refl
scaled (suc zero) (suc zero) p q = refl
scaled (suc zero) (suc (suc y)) p q = none (omega arith)
scaled (suc (suc x)) y p q = none (omega arith)

-- the bits of two numbers, exclusive or, are those of their exclusive or
bit_xor_lem : (x y : ℕ) → bit (bit_xor x y) ≡ bit_xor (bit x) (bit y)
unfolding bit
bit_xor_lem x y =
    ap₂ bit_xor (ap (λ (z : ℕ). z * 3988292384) (xor_odd x y) ∙ scaled (x % 2) (y % 2) (low x) (low y)) (xor_half x y)
    ∙ xor_four (x % 2 * 3988292384) (y % 2 * 3988292384) (x / 2) (y / 2)

bits_xor : (n x y : ℕ) → bits n (bit_xor x y) ≡ bit_xor (bits n x) (bits n y)
unfolding bits
bits_xor zero x y = refl
bits_xor (suc n) x y = ap (bits n) (bit_xor_lem x y) ∙ bits_xor n (bit x) (bit y)

bit_shifted : (h n : ℕ) → bit (h * 2 ^ suc n) ≡ h * 2 ^ n
unfolding bit
bit_shifted h n = ap₂ (λ (x y : ℕ). bit_xor (x * 3988292384) y) (shifted_even h n) (shifted_half h n)

bits_shifted : (n h : ℕ) → bits n (h * 2 ^ n) ≡ h
unfolding bits
bits_shifted zero h = omega arith
bits_shifted (suc n) h = ap (bits n) (bit_shifted h n) ∙ bits_shifted n h

bits_split : (n x : ℕ) → bits n x ≡ bit_xor (bits n (x % 2 ^ n)) (x / 2 ^ n)
bits_split n x = ap (bits n) (xor_split n x) ∙ bits_xor n (x % 2 ^ n) (x / 2 ^ n * 2 ^ n) ∙ ap (bit_xor (bits n (x % 2 ^ n))) (bits_shifted n (x / 2 ^ n))

-- each entry is the result of eight bits for its index: the one test
abbrev pub tested : List ℕ → Bool
tested xs = every (λ (n e : ℕ). eqb e (bits 8 n)) 0 xs

pub table_rule : (xs : List ℕ) → T (tested xs) → length xs ≡ 256 → Table xs
unfolding Table
table_rule xs passed whole = (whole, λ n h. eqb→eq (get_or xs n 0) (bits 8 n) (at (λ (n e : ℕ). eqb e (bits 8 n)) xs passed n (subst (λ (m : ℕ). n < m) (sym whole) h)))

-- one byte by the table
pub by_table : (xs : List ℕ) (c b : ℕ) → Table xs → bit_xor (get_or xs (bit_and (bit_xor c b) 255) 0) (bit_xor c b / 256) ≡ byte c b
unfolding Table byte
by_table xs c b t =
    let x = bit_xor c b in
    let m : bit_and x 255 ≡ x % 256 = and_mask x 8 in
    ap (λ (i : ℕ). bit_xor (get_or xs i 0) (x / 256)) m ∙ ap (λ (e : ℕ). bit_xor e (x / 256)) (t.1 (x % 256) (omega arith)) ∙ sym (bits_split 8 x)

-- ---- the loop

pub byte_on : (c : ℕ) (s : List ℕ) (i : ℕ) → i < length s → register c (drop i s) ≡ register (byte c (get_or s i 0)) (drop (i + 1) s)
unfolding register
byte_on c s i h = rw (add-one, drop-cons s i 0) refl

pub at_end_lem : (c : ℕ) (s : List ℕ) (i : ℕ) → length s < suc i → register c (drop i s) ≡ c
unfolding register
at_end_lem c s i h = ap (register c) (drop_of_length-le s {i = i} (omega arith))
