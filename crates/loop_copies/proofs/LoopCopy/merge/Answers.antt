-- `loop_copies::LoopCopy::merge` meets its contract: if refused, our copy; if accepted, each hall's newer half.
use mathlib.Core.Path.{◌≡◌}
use mathlib.Core.List.{List, ◌++◌}
use lib.ListN.{take, drop}
use Rattle.std.proofs.lemmas.Result.{err_from_is_err_and}
use Rattle.refusals.specs.declared.Refusal.{Refusal}
use Rattle.refusals.specs.Numbers.{number}
use Rattle.refusals.proofs.Numbers.{number_eqb}
use Rattle.loop_table.specs.declared.Hall.TheVariants as hall
use Rattle.loop_table.specs.declared.LoopSlot.{LoopSlot}
use Rattle.loop_copies.specs.declared.LoopCopy.{LoopCopy}
use Rattle.loop_copies.specs.Copies.{CopyChanged, refused_merge, newer, merged_copy}
use Rattle.loop_copies.proofs.LoopCopy.merge.Goals as goal

-- the copy made from two newer copies and their halves
joined : (c d a b : LoopCopy) (slots : List LoopSlot) → 0 ≡ refused_merge c d → a ≡ newer hall.A c d → b ≡ newer hall.B c d → slots ≡ take 8 a.table.slots ++ drop 8 b.table.slots
    → ◌≡◌ {A = CopyChanged} (record { copy = record { table = record { num_frames = c.table.num_frames; slots = slots }; changes_a = a.changes_a; changes_b = b.changes_b }; refusal = 0 }) (merged_copy c d)
unfolding merged_copy
joined c d a b slots z e f g = rw (← z, g, e, f)

refused : (c d : LoopCopy) (r : Refusal) → number r ≡ refused_merge c d → ◌≡◌ {A = CopyChanged} (record { copy = c; refusal = number r }) (merged_copy c d)
unfolding merged_copy
refused c d r e = rw (← e, number_eqb r)

pub returns-in_err-check_merge : goal.returns-in_err-check_merge
returns-in_err-check_merge c =
    let p = err_from_is_err_and c.from_residual.result c.from_residual.ensures.1 in
    rw (p.1, p.2) (refused _ _ _ c.in_err-check_merge.ensures)

pub returns : goal.returns
returns c = joined _ _ _ _ _ c.in_ok-check_merge.ensures c.newer-a.ensures c.newer-b.ensures c.halves.ensures
