-- `saved_loops::are_slots`: `ok` is the test over the slots so far.
use mathlib.Core.Path.{◌≡◌}
use Rattle.saved_loops.specs.Records.{well_formed_slots}
use Rattle.saved_loops.proofs.are_slots.Given as goal

abbrev pub invariant-loop-k : goal.invariant-loop-k
invariant-loop-k l = l.ok ≡ well_formed_slots l.k l.words
