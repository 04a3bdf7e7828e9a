-- `byte_layout::Row::read`: each return is one of the ways of proofs/Ways.antt.
use native.Mathlib.Omega.{arith}
use Prim.Native.Nat.{◌+◌}
use mathlib.Core.Path.{◌≡◌, refl, sym, ◌∙◌}
use mathlib.Core.Bool.{true}
use lib.Seq.{drop-set-lt}
use lib.ListN.{take}
use Rattle.byte_layout.specs.Rows.{stands}
use Rattle.byte_layout.proofs.Ways.{absent, ends, cut, short, wrong, right}
use borrow.Author.Rules.{rules}
use Rattle.byte_layout.proofs.Row.read.Goals.{Else-not-stands}
use Rattle.byte_layout.proofs.Row.read.Goals as goal

here : (c : Else-not-stands) → true ≡ stands c.args.self (take c.args.i c.args.p.values)
here c = sym c.if-not-stands.false ∙ c.stands.ensures

pub returns-then-not-stands : goal.returns-then-not-stands
returns-then-not-stands c =
    let a = c.args in
    (absent a.s.now a.i a.p a.self a.p.values refl (search rules) (sym c.if-not-stands.true ∙ c.stands.ensures), (search rules, drop-set-lt (a.i + 1) a.p.values a.i _ (omega arith)))

pub returns-then-left-n : goal.returns-then-left-n
returns-then-left-n c = let a = c.args in (ends a.s.now a.i a.p a.self (here (goal.at.returns-then-left-n c).Else-not-stands) c.if-left-w.true c.if-left-n.true, tt)

pub returns-then-left-w : goal.returns-then-left-w
returns-then-left-w c = let a = c.args in (cut a.s.now a.i a.p a.self (here (goal.at.returns-then-left-w c).Else-not-stands) c.if-left-w.true c.if-left-n.false, tt)

pub returns-then-n-w : goal.returns-then-n-w
returns-then-n-w c = let a = c.args in (short a.s.now a.i a.p a.self (here (goal.at.returns-then-n-w c).Else-not-stands) c.if-left-w.false c.if-n-w.true, tt)

pub returns-then-not-contains : goal.returns-then-not-contains
returns-then-not-contains c =
    let a = c.args in
    (wrong a.s.now a.i a.p a.self (here (goal.at.returns-then-not-contains c).Else-not-stands) c.if-left-w.false c.if-n-w.false c.number-x.result c.number-x.ensures (sym c.if-not-contains.true ∙ c.contains.ensures), tt)

pub returns : goal.returns
returns c =
    let a = c.args in
    (right a.s.now a.i a.p a.self (here (goal.at.returns c).Else-not-stands) c.if-left-w.false c.if-n-w.false c.number-x.result c.number-x.ensures a.p.values refl (search rules) (sym c.if-not-contains.false ∙ c.contains.ensures), (search rules, drop-set-lt (a.i + 1) a.p.values a.i _ (omega arith)))
