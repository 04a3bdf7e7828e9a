-- The theorems, computed. Assumes nothing.
use mathlib.Core.Path.{refl}
use Rattle.crc32.specs.Checksums.{bit, bits, byte, register, checksum_of}
use Rattle.crc32.specs.Promises.{Promises}

pub kept : Promises
unfolding bit bits byte register checksum_of
kept = record { vector = refl; empty = refl }
