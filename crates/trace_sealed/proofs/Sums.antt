-- A checksum of bytes is a number of 32 bits, and what a layout writes are bytes. Assumes nothing.
use Prim.Native.Nat.{ℕ, zero, suc, ◌*◌, ◌/◌, ◌%◌, ◌^◌, ◌<◌}
use native.Mathlib.Omega.{arith}
use mathlib.Core.Bool.{Bool, true, false}
use mathlib.Core.List.{List, [], ◌∷◌, ◌++◌}
use lib.ListN.{take}
use lib.Bits.{bit_xor, xor_lt}
use Rattle.byte_layout.specs.declared.Row.{Row}
use Rattle.byte_layout.specs.Numbers.{bytes}
use Rattle.byte_layout.specs.Rows.{stands}
use Rattle.byte_layout.specs.Writes.{field, payload}
use Rattle.byte_layout.proofs.Numbers.{Small}
use Rattle.crc32.specs.Checksums.{bit, bits, byte, register, checksum_of}

bit_low : (c : ℕ) → c < 2 ^ 32 → bit c < 2 ^ 32
unfolding bit
bit_low c h = xor_lt 32 (c % 2 * 3988292384) (c / 2) (omega arith) (omega arith)

bits_low : (n c : ℕ) → c < 2 ^ 32 → bits n c < 2 ^ 32
unfolding bits
bits_low zero c h = h
bits_low (suc n) c h = bits_low n (bit c) (bit_low c h)

register_low : (bs : List ℕ) (c : ℕ) → Small bs → c < 2 ^ 32 → register c bs < 2 ^ 32
unfolding register byte
register_low [] c s h = h
register_low (b ∷ bs) c s h =
    let l : b < 256 = s 0 in
    register_low bs (bits 8 (bit_xor c b)) (λ i. s (suc i)) (bits_low 8 (bit_xor c b) (xor_lt 32 c b h (omega arith)))

pub checksum_low : (bs : List ℕ) → Small bs → checksum_of bs < 256 ^ 4
unfolding checksum_of
checksum_low bs s = xor_lt 32 (register 4294967295 bs) 4294967295 (register_low bs 4294967295 s (omega arith)) (omega arith)

pub small_append : (xs ys : List ℕ) → Small xs → Small ys → Small (xs ++ ys)
small_append [] ys a b i = b i
small_append (x ∷ xs) ys a b zero = a 0
small_append (x ∷ xs) ys a b (suc i) = small_append xs ys (λ j. a (suc j)) b i

small_bytes : (w x : ℕ) → Small (bytes w x)
unfolding bytes
small_bytes zero x i = omega arith
small_bytes (suc w) x zero = omega arith
small_bytes (suc w) x (suc i) = small_bytes w (x / 256) i

small_field : (b : Bool) (r : Row) (x : ℕ) → Small (field b r x)
unfolding field
small_field true r x = small_bytes r.width x
small_field false r x = λ i. omega arith

pub small_payload : (rs : List Row) (vs ws : List ℕ) → Small (payload rs vs ws)
unfolding payload
small_payload [] vs ws = λ i. omega arith
small_payload (r ∷ rs) vs [] = λ i. omega arith
small_payload (r ∷ rs) vs (x ∷ ws) = small_append (field (stands r vs) r x) (payload rs (vs ++ (x ∷ [])) ws) (small_field (stands r vs) r x) (small_payload rs (vs ++ (x ∷ [])) ws)

small_cons : (x : ℕ) (l : List ℕ) → x < 256 → Small l → Small (x ∷ l)
small_cons x l h s zero = h
small_cons x l h s (suc i) = s i

pub small_take : (n : ℕ) (l : List ℕ) → Small l → Small (take n l)
small_take zero l s = λ i. omega arith
small_take (suc n) [] s = λ i. omega arith
small_take (suc n) (x ∷ l) s = small_cons x (take n l) (s 0) (small_take n l (λ j. s (suc j)))
