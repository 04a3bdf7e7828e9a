-- `cableowl_clear_loop` meets its contract: by the hall with that number.
use Rattle.std.proofs.Common.{rules}
use mathlib.Core.Path.{◌∙◌}
use Rattle.loop_table.specs.declared.Hall.{Hall}
use Rattle.loop_table.specs.Tables.{cleared, changed_of}
use Rattle.cableowl.specs.Loops.{changed_c}
use Rattle.cableowl.proofs.Results.{by_hall}
use Rattle.cableowl.proofs.loops.cableowl_clear_loop.Goals as goal

pub returns : goal.returns
returns c =
    let a = c.args in
    c.changed.ensures
    ∙ by_hall (changed_of a.table) changed_c (λ (h : Hall). cleared a.table h a.slot) a.hall c.hall_of.result _ c.hall_of.ensures (search rules)
