-- `crc32::step` meets its contract: eight bits at once by the table. Assumes nothing.
use native.Mathlib.Omega.{arith}
use lib.Bits.{bit_xor, mask_lt}
use Rattle.crc32.proofs.Registers.{by_table}
use Rattle.crc32.proofs.step.Goals as goal

pub overflow_cast-i : goal.overflow_cast-i
overflow_cast-i c = record { fits = omega (arith, mask_lt (bit_xor c.args.register c.args.b) 8) }

pub offset_bounds-entries-i : goal.offset_bounds-entries-i
offset_bounds-entries-i c = record { fits = omega (arith, mask_lt (bit_xor c.args.register c.args.b) 8) }

pub bounds-entries-i : goal.bounds-entries-i
bounds-entries-i c = mask_lt (bit_xor c.args.register c.args.b) 8

pub returns : goal.returns
returns c = by_table _ c.args.register c.args.b c.all-entries.ensures
