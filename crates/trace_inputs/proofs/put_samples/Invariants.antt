-- `trace_inputs::put_samples`: what is still to store, stored, is the whole sound stored.
use mathlib.Core.Path.{◌≡◌, ◌∙◌}
use Prim.Native.Nat.{ℕ, ◌+◌, ◌-◌, ◌*◌, ◌≤◌, ◌<◌}
use lib.ListN.{length}
use lib.Seq.{sets}
use Rattle.trace_inputs.proofs.Samples.{left}
use Rattle.trace_inputs.proofs.put_samples.Given as goal

abbrev pub invariant-loop-k : goal.invariant-loop-k
invariant-loop-k l = (l.k ≤ l.n) × (l.n ≤ 64) × (128 ≤ length l.out) × (length l.out ≡ length l.initial.out) × (sets l.out (2 * l.k) (left l.values l.n l.k) ≡ sets l.initial.out 0 (left l.values l.n 0))

abbrev pub decreases-loop-k : goal.decreases-loop-k
decreases-loop-k l = l.n - l.k
