-- `cableowl_write_copy` meets its contract: by the hall with that number.
use Rattle.std.proofs.Common.{rules}
use mathlib.Core.Path.{◌∙◌}
use Rattle.loop_table.specs.declared.Hall.{Hall}
use Rattle.loop_copies.specs.Copies.{copy_written, copy_changed_of}
use Rattle.cableowl.specs.Loops.{copy_changed_c}
use Rattle.cableowl.proofs.Results.{by_hall}
use Rattle.cableowl.proofs.copies.cableowl_write_copy.Goals as goal

pub returns : goal.returns
returns c =
    let a = c.args in
    c.changed.ensures
    ∙ by_hall (copy_changed_of a.copy) copy_changed_c (λ (h : Hall). copy_written a.copy h a.slot a.start a.end) a.hall c.hall_of.result _ c.hall_of.ensures (search rules)
