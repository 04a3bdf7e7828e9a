-- `replay::replay`: the window stays in its buffer.
use Rattle.std.proofs.Common.{◌≤◌, length}
use Rattle.replay.specs.Windows.{Held}
use Rattle.replay.proofs.replay.Given as goal

abbrev pub invariant-records : goal.invariant-records
invariant-records l = Held l.p.window l.bytes × (1024 ≤ length l.spare) × (128 ≤ length l.sound) × (l.p.run.samples ≤ length l.sound) × (139 ≤ length l.line)
