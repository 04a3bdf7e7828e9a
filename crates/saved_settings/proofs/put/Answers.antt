-- `saved_settings::put` meets its contract. Assumes nothing.
use Rattle.std.proofs.Common.{◌∙◌}
use Rattle.saved_settings.proofs.Loads.{few}
use Rattle.saved_settings.proofs.Stores.{room_for, put_in}
use Rattle.saved_settings.proofs.put.Goals as goal

pub put_rows-requires : goal.put_rows-requires
put_rows-requires c = let a = c.args in rw c.layout.ensures (few a.version, room_for a.version a.s c.numbers-values.result _ c.numbers-values.ensures c.requires)

pub returns : goal.returns
returns c =
    let a = c.args in
    rw c.layout.ensures at c.put_rows.ensures.0 ∙ put_in a.version a.s c.numbers-values.result a.buffer.now c.numbers-values.ensures
