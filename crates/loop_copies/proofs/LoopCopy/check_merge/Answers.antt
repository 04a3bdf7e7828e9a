-- `loop_copies::LoopCopy::check_merge` meets its contract: it makes the tests of `refused_merge` in the same order.
use mathlib.Core.Path.{◌≡◌, refl}
use mathlib.Core.Bool.{true, false, ◌&&◌}
use borrow.Author.Tests.{eq-eqb, ne_eqb}
use Rattle.loop_table.specs.Tables.{well_formed_table}
use Rattle.loop_table.specs.declared.Hall.TheVariants as hall
use Rattle.loop_copies.specs.Copies.{agrees, refused_merge}
use Rattle.loop_copies.proofs.LoopCopy.check_merge.Goals.{Else-not-agrees, Else-not-is_well_formed, Then-not-agrees, Then-not-is_well_formed, then-agrees, else-agrees, then-is_well_formed, else-is_well_formed}
use Rattle.loop_copies.proofs.LoopCopy.check_merge.Goals as goal

tables-not : (c : Then-not-is_well_formed) → (well_formed_table c.args.self.table && well_formed_table c.args.theirs.table) ≡ false
tables-not c =
    elim c.if-is_well_formed.branch [
      | then-is_well_formed w ↦ rw (← w.if-is_well_formed.ensures, ← w.is_well_formed-then-is_well_formed.ensures, ← w.value-is) c.if-not-is_well_formed.true
      | else-is_well_formed w ↦ rw (← w.if-is_well_formed.ensures) refl
    ]

tables-so : (c : Else-not-is_well_formed) → (well_formed_table c.args.self.table && well_formed_table c.args.theirs.table) ≡ true
tables-so c =
    elim c.if-is_well_formed.branch [
      | then-is_well_formed w ↦ rw (← w.if-is_well_formed.ensures, ← w.is_well_formed-then-is_well_formed.ensures, ← w.value-is) c.if-not-is_well_formed.false
      | else-is_well_formed w ↦ cc
    ]

halves-not : (c : Then-not-agrees) → let a = c.args in (agrees hall.A a.self a.theirs && agrees hall.B a.self a.theirs) ≡ false
halves-not c =
    elim c.if-agrees.branch [
      | then-agrees w ↦ rw (← w.if-agrees.ensures, ← w.agrees-then-agrees.ensures, ← w.value-is) c.if-not-agrees.true
      | else-agrees w ↦ rw (← w.if-agrees.ensures) refl
    ]

halves-so : (c : Else-not-agrees) → let a = c.args in (agrees hall.A a.self a.theirs && agrees hall.B a.self a.theirs) ≡ true
halves-so c =
    elim c.if-agrees.branch [
      | then-agrees w ↦ rw (← w.if-agrees.ensures, ← w.agrees-then-agrees.ensures, ← w.value-is) c.if-not-agrees.false
      | else-agrees w ↦ cc
    ]

pub returns-then-not-is_well_formed : goal.returns-then-not-is_well_formed
unfolding refused_merge
returns-then-not-is_well_formed c = rw (tables-not (goal.at.returns-then-not-is_well_formed c).Then-not-is_well_formed)

pub returns-then-self-theirs : goal.returns-then-self-theirs
unfolding refused_merge
returns-then-self-theirs c = rw (tables-so (goal.at.returns-then-self-theirs c).Else-not-is_well_formed, ne_eqb _ _ c.if-self-theirs.true)

pub returns-then-not-agrees : goal.returns-then-not-agrees
unfolding refused_merge
returns-then-not-agrees c =
    rw (tables-so (goal.at.returns-then-not-agrees c).Else-not-is_well_formed, eq-eqb _ _ c.if-self-theirs.false, halves-not (goal.at.returns-then-not-agrees c).Then-not-agrees)

pub returns : goal.returns
unfolding refused_merge
returns c =
    rw (tables-so (goal.at.returns c).Else-not-is_well_formed, eq-eqb _ _ c.if-self-theirs.false, halves-so (goal.at.returns c).Else-not-agrees)
