-- `byte_layout::Row::put`: a row that is present is its number's bytes, any other is none.
use Prim.Native.Nat.{◌+◌, ◌≤◌}
use native.Mathlib.Omega.{arith}
use mathlib.Core.Path.{◌≡◌, refl, sym, ap, ◌∙◌}
use lib.ListN.{length}
use Rattle.byte_layout.specs.Numbers.{bytes}
use Rattle.byte_layout.specs.Rows.{stands}
use Rattle.byte_layout.specs.Writes.{field}
use Rattle.byte_layout.proofs.Numbers.{length_bytes}
use Rattle.byte_layout.proofs.Puts.{fielded, unfielded}
use Rattle.byte_layout.proofs.Row.put.Goals.{Then-stands}
use Rattle.byte_layout.proofs.Row.put.Goals as goal

here : (c : Then-stands) → field (stands c.args.self c.args.before.now) c.args.self c.args.x ≡ bytes c.args.self.width c.args.x
here c = fielded _ _ _ (sym c.if-stands.true ∙ c.stands.ensures)

wide : (c : Then-stands) → c.args.at + c.args.self.width ≤ length c.args.buf.now
wide c = omega (arith, c.requires, ap length (here c) ∙ length_bytes _ _)

pub put_number-requires : goal.put_number-requires
put_number-requires c = wide (goal.at.put_number-requires c).Then-stands

pub overflow_add-result : goal.overflow_add-result
overflow_add-result c = omega (arith, wide (goal.at.overflow_add-result c).Then-stands)

pub returns-then-stands : goal.returns-then-stands
returns-then-stands c =
    let e = here (goal.at.returns-then-stands c).Then-stands in
    (rw e c.put_number.ensures, rw (e, length_bytes c.args.self.width c.args.x) refl)

pub returns : goal.returns
returns c =
    let a = c.args in
    let e = unfielded (stands a.self a.before.now) a.self a.x (sym c.if-stands.false ∙ c.stands.ensures) in
    (rw e refl, rw e (omega arith))
