-- The copy after a write or a clear of its table, by what the table's own call returns. Assumes nothing.
use mathlib.Core.Path.{◌≡◌}
use Rattle.refusals.specs.declared.Refusal.{Refusal}
use Rattle.refusals.specs.Numbers.{number}
use Rattle.refusals.proofs.Numbers.{number_eqb}
use Rattle.loop_table.specs.declared.Hall.{Hall}
use Rattle.loop_table.specs.declared.LoopTable.{LoopTable}
use Rattle.loop_table.specs.Tables.{LoopChanged}
use Rattle.loop_copies.specs.declared.LoopCopy.{LoopCopy}
use Rattle.loop_copies.specs.Copies.{CopyChanged, counted_by, counted}

module _ (h : Hall) (c : LoopCopy) where
  pub counted_refused : (r : Refusal) (x : LoopChanged) → ◌≡◌ {A = LoopChanged} (record { table = c.table; refusal = number r }) x → ◌≡◌ {A = CopyChanged} (record { copy = c; refusal = number r }) (counted h c x)
  counted_refused r x e = rw (← e, number_eqb r)

  pub counted_accepted : (t : LoopTable) (d : LoopCopy) (x : LoopChanged) → ◌≡◌ {A = LoopChanged} (record { table = t; refusal = 0 }) x → d ≡ counted_by h c t → ◌≡◌ {A = CopyChanged} (record { copy = d; refusal = 0 }) (counted h c x)
  counted_accepted t d x e f = rw (← e, f)
