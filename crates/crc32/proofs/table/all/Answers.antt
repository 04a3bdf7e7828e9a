-- `crc32::table::all` meets its contract: one test over the whole table, which antt computes. Assumes nothing.
use mathlib.Core.Path.{refl}
use Rattle.crc32.specs.Checksums.{bit, bits}
use Rattle.crc32.proofs.Registers.{table_rule}
use Rattle.crc32.proofs.table.all.Goals as goal

pub returns : goal.returns
unfolding bit bits
returns c = table_rule _ tt refl
