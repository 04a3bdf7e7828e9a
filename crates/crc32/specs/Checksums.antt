-- CRC-32, the checksum of IEEE 802.3, bit by bit. A register of 32 bits begins with ones. Each byte, lowest bit
-- first, goes into its low end. The checksum is the register with every bit inverted.
use Rattle.std.specs.Prelude.{ℕ, zero, suc, ◌*◌, ◌/◌, ◌%◌, ◌<◌, ◌≡◌, List, [], ◌∷◌, length, get_or}
use Rattle.std.specs.Int.Bits.{bit_xor}

-- one bit: shift the register right by one; if the bit that falls out is 1, xor with the polynomial EDB88320
unfoldable pub bit : ℕ → ℕ
bit c = bit_xor (c % 2 * 3988292384) (c / 2)

-- n bits
unfoldable pub bits : ℕ → ℕ → ℕ
bits zero c = c
bits (suc n) c = bits n (bit c)

-- one byte
unfoldable pub byte : ℕ → ℕ → ℕ
byte c b = bits 8 (bit_xor c b)

-- the register c after bytes
unfoldable pub register : ℕ → List ℕ → ℕ
register c [] = c
register c (b ∷ bs) = register (byte c b) bs

unfoldable pub checksum_of : List ℕ → ℕ
checksum_of bs = bit_xor (register 4294967295 bs) 4294967295

-- a table of what eight bits make of each low byte
unfoldable pub Table : List ℕ → Type 0
Table xs = (length xs ≡ 256) × ((n : ℕ) → n < 256 → get_or xs n 0 ≡ bits 8 n)
