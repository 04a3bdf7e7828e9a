-- `byte_layout::put_rows`: what is still to store, stored, is the whole payload stored.
use Prim.Native.Nat.{◌+◌, ◌<◌}
use native.Mathlib.Omega.{arith}
use mathlib.Core.Path.{◌≡◌, refl, sym, ap, ◌∙◌}
use lib.ListN.{length}
use lib.Seq.{sets, length-sets}
use Rattle.byte_layout.proofs.Loops.{blank}
use Rattle.byte_layout.proofs.Puts.{row_room, row_put, tail_start, tail_end}
use borrow.Author.Rules.{rules}
use Rattle.byte_layout.proofs.put_rows.Goals.{In-loop-i}
use Rattle.byte_layout.proofs.put_rows.Goals as goal

pub loop-i-init : goal.loop-i-init
loop-i-init c =
    let a = c.args in
    let e = tail_start a.table.now a.values in
    (refl, ap (λ t. sets a.buf.now a.at t) e, ap (λ t. a.at + length t) e)

held : (c : In-loop-i) → c.loop-i.i < length c.args.values
held c = search rules

pub put-a-requires : goal.put-a-requires
put-a-requires c =
    let a = c.args in
    let l = c.loop-i in
    omega (arith, row_room a.table.now blank a.values l.i c.loop-i-test.true (search rules), l.invariant.2, l.invariant.0, c.requires.1)

pub loop-i-preserved : goal.loop-i-preserved
loop-i-preserved c =
    let p = c.before.before in
    let q = p.before.before in
    let a = q.args in
    let l = q.loop-i in
    let h : l.i < length a.table.now = q.loop-i-test.true in
    let k = held (goal.at.loop-i-preserved c).In-loop-i in
    let e : length l.buf ≡ length a.buf.now = l.invariant.0 in
    let m = row_room a.table.now blank a.values l.i h k in (
      ap length p.put-a.ensures.0 ∙ simp length-sets e,
      row_put a.table.now blank a.values l.i h k l.buf p.put-a.new.buf l.a p.put-a.result p.put-a.ensures.0 p.put-a.ensures.1 ∙ l.invariant.1,
      omega (arith, m, p.put-a.ensures.1, l.invariant.2),
    )

pub returns : goal.returns
returns c =
    let a = c.args in
    let l = c.loop-i in
    let e = tail_end a.table.now a.values l.i c.loop-i-test.false in
    (sym (ap (λ t. sets l.buf l.a t) e) ∙ l.invariant.1, omega (arith, ap length e, l.invariant.2))
