-- `loop_table::LoopTable::is_well_formed` meets its contract: the test of every slot. Assumes nothing.
use Rattle.std.proofs.Common.{rules}
use Rattle.std.proofs.lemmas.Iterator.{YieldsList-from_slice}
use Rattle.std.proofs.lemmas.Iterator.Search.{all_from_yields_List}
use Rattle.loop_table.specs.Tables.{well_formed_slot, well_formed_table}
use Rattle.loop_table.proofs.LoopTable.is_well_formed.Goals as goal

pub returns : goal.returns
unfolding well_formed_table
returns c =
    let s = c.args.self in
    all_from_yields_List (well_formed_slot s.num_frames) _ _ _ c.all.ensures.ran (YieldsList-from_slice s.slots (cc)) (λ x b q k. search rules)
