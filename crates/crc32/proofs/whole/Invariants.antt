-- `crc32::whole` meets its contract: the final register does not change. Assumes nothing.
use mathlib.Core.Path.{◌≡◌}
use lib.ListN.{drop}
use Rattle.crc32.specs.Checksums.{register}
use Rattle.crc32.proofs.whole.Given as goal

abbrev pub invariant-loop-b : goal.invariant-loop-b
invariant-loop-b l = register l.c (drop l.b-index l.s) ≡ register 4294967295 l.s
