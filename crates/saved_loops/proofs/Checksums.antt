-- A checksum of bytes has 32 bits. Assumes nothing.
use Prim.Native.Nat.{ℕ, zero, suc, ◌*◌, ◌/◌, ◌%◌, ◌^◌, ◌<◌}
use native.Mathlib.Omega.{arith}
use mathlib.Core.List.{List, [], ◌∷◌}
use lib.Bits.{bit_xor, xor_lt}
use Rattle.byte_layout.specs.Numbers.{Bytes}
use Rattle.crc32.specs.Checksums.{bit, bits, byte, register, checksum_of}

bit_word : (c : ℕ) → c < 2 ^ 32 → bit c < 2 ^ 32
unfolding bit
bit_word c h = xor_lt 32 (c % 2 * 3988292384) (c / 2) (omega (arith, h)) (omega (arith, h))

bits_word : (n c : ℕ) → c < 2 ^ 32 → bits n c < 2 ^ 32
unfolding bits
bits_word zero c h = h
bits_word (suc n) c h = bits_word n (bit c) (bit_word c h)

byte_word : (c b : ℕ) → c < 2 ^ 32 → b < 256 → byte c b < 2 ^ 32
unfolding byte
byte_word c b h l = bits_word 8 (bit_xor c b) (xor_lt 32 c b h (omega (arith, l)))

register_word : (c : ℕ) (l : List ℕ) → c < 2 ^ 32 → Bytes l → register c l < 2 ^ 32
unfolding register
register_word c [] h s = h
register_word c (b ∷ l) h s = register_word (byte c b) l (byte_word c b h (s 0)) (λ i. s (suc i))

pub checksum_word : (l : List ℕ) → Bytes l → checksum_of l < 2 ^ 32
unfolding checksum_of
checksum_word l s = xor_lt 32 (register 4294967295 l) 4294967295 (register_word 4294967295 l (omega arith) s) (omega arith)
