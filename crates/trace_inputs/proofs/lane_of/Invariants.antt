-- `trace_inputs::lane_of`: what is still to store, stored, is the whole lane stored.
use Rattle.std.proofs.Common.{◌≡◌, ◌≤◌, length, replicate}
use Rattle.std.proofs.lemmas.List.Edits.{sets}
use Rattle.trace_inputs.proofs.LaneLoops.{to_store}
use Rattle.trace_inputs.proofs.lane_of.Given as goal

abbrev pub invariant-loop-i : goal.invariant-loop-i
invariant-loop-i g l =
    let t = g.T.LaneValue in
    (length l.lane ≡ 1024) × (sets l.lane l.i (to_store t.WIDTH t.value l.bytes l.at l.frames l.i) ≡ sets (replicate 1024 (t.value 0)) 0 (to_store t.WIDTH t.value l.bytes l.at l.frames 0))
