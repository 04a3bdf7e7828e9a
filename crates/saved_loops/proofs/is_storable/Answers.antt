-- `saved_loops::is_storable` meets its contract. Assumes nothing.
use mathlib.Core.Path.{refl}
use Rattle.saved_loops.proofs.is_storable.Goals as goal

pub returns : goal.returns
returns c = rw c.is_well_formed.ensures refl
