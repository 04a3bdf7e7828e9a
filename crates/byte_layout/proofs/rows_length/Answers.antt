-- `byte_layout::rows_length`: the bytes counted and those of the rows left are the payload's.
use native.Mathlib.Omega.{arith}
use mathlib.Core.Path.{ap}
use lib.ListN.{length, get_or}
use Rattle.byte_layout.proofs.Loops.{blank, sound_row}
use Rattle.byte_layout.proofs.Puts.{row_room, tail_start, tail_end}
use borrow.Author.Rules.{rules}
use Rattle.byte_layout.proofs.rows_length.Goals as goal

pub loop-i-init : goal.loop-i-init
loop-i-init c = (search rules, (let e = ap length (tail_start c.args.table.now c.args.values) in omega (arith, e)))

pub length-k-requires : goal.length-k-requires
length-k-requires c = (sound_row c.args.table.now c.loop-i.i _ c.requires.1 c.loop-i-test.true).narrow

pub loop-i-preserved : goal.loop-i-preserved
loop-i-preserved c =
    let a = c.args in
    let l = c.loop-i in
    let e = row_room a.table.now blank a.values l.i c.loop-i-test.true (search rules) in
    (search rules, omega (arith, e, c.length-k.ensures.0 (get_or a.values l.i 0), l.invariant.1))

pub returns : goal.returns
returns c =
    let a = c.args in
    let e = ap length (tail_end a.table.now a.values c.loop-i.i c.loop-i-test.false) in
    omega (arith, e, c.loop-i.invariant.1)
