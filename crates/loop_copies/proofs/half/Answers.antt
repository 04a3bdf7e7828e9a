-- `loop_copies::half` meets its contract: of sixteen slots eight are left after the first eight.
use mathlib.Core.Path.{◌≡◌}
use native.Mathlib.Omega.{arith}
use lib.ListN.{length, drop}
use lib.Seq.{take_all}
use Rattle.std.proofs.Common.{length-drop, rules}
use Rattle.loop_copies.proofs.half.Goals as goal

pub returns-in-B-clause-slots : goal.returns-in-B-clause-slots
returns-in-B-clause-slots c =
    let l = c.args.table.now.slots in
    let s : length l ≡ 16 = search rules in
    rw c.in-B.is (take_all 8 (drop 8 l) (omega (arith, length-drop 8 l, s)))
