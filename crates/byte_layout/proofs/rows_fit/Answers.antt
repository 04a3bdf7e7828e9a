-- `byte_layout::rows_fit`: the rest of the rows decides as all of them do.
use Prim.Native.Nat.{◌+◌}
use mathlib.Core.Path.{◌≡◌, sym, ap, ◌∙◌}
use mathlib.Core.Bool.{false, cond}
use Rattle.byte_layout.proofs.Puts.{fine_of, fine_start, fine_next, fine_end}
use borrow.Author.Rules.{rules}
use Rattle.byte_layout.proofs.rows_fit.Goals.{After-accepts}
use Rattle.byte_layout.proofs.rows_fit.Goals as goal

one : (c : After-accepts)
    → fine_of c.args.table.now c.args.values c.loop-i.i
    ≡ cond c.accepts.result (fine_of c.args.table.now c.args.values (c.loop-i.i + 1)) false
one c =
    let a = c.args in
    let i = c.loop-i.i in
    fine_next a.table.now _ a.values i c.loop-i-test.true (search rules)
    ∙ ap (λ b. cond b (fine_of a.table.now a.values (i + 1)) false) (sym c.accepts.ensures)

pub loop-i-init : goal.loop-i-init
loop-i-init c = fine_start _ _

pub loop-i-preserved : goal.loop-i-preserved
loop-i-preserved c =
    let a = c.args in
    let i = c.loop-i.i in
    sym (one (goal.at.loop-i-preserved c).After-accepts ∙ ap (λ b. cond b (fine_of a.table.now a.values (i + 1)) false) c.if-not-accepts.false) ∙ c.loop-i.invariant

pub returns-then-not-accepts : goal.returns-then-not-accepts
returns-then-not-accepts c = sym (sym c.loop-i.invariant ∙ one (goal.at.returns-then-not-accepts c).After-accepts ∙ ap (λ b. cond b (fine_of c.args.table.now c.args.values (c.loop-i.i + 1)) false) c.if-not-accepts.true)

pub returns : goal.returns
returns c = sym (fine_end _ _ _ c.loop-i-test.false) ∙ c.loop-i.invariant
