-- `trace_salvage::salvage_by`: the rest, done, completes the whole salvage.
use Prim.Native.Nat.{◌+◌, ◌-◌, ◌≤◌}
use mathlib.Core.Path.{◌≡◌}
use lib.ListN.{length, drop}
use lib.Seq.{sets}
use Rattle.trace_salvage.specs.Salvage.{kept, skipped, records, first, placed, size_by}
use Rattle.trace_salvage.proofs.salvage_by.Given as goal

abbrev pub invariant-loop-t : goal.invariant-loop-t
invariant-loop-t l =
    (l.t.at ≤ length l.s) × (l.t.w ≤ l.t.at) × (l.t.skip ≤ l.t.at) × (l.t.records ≤ l.t.at) × (length l.out ≡ length l.initial.out) × (sets l.out l.t.w (kept (size_by l.reader) (drop l.t.at l.s) 0) ≡ sets l.initial.out 0 (kept (size_by l.reader) l.s 0))
    × (l.t.skip + skipped (size_by l.reader) (drop l.t.at l.s) 0 ≡ skipped (size_by l.reader) l.s 0) × (l.t.records + records (size_by l.reader) (drop l.t.at l.s) 0 ≡ records (size_by l.reader) l.s 0) × (placed l.reader l.t l.s ≡ first (size_by l.reader) 0 l.s 0)

abbrev pub decreases-loop-t : goal.decreases-loop-t
decreases-loop-t l = length l.s - l.t.at
