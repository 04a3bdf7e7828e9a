-- `trace_inputs::doubles_of`: the zeros after the lane.
use Rattle.std.proofs.Common.{◌≡◌, ap, ◌∙◌, replicate, drop}
use Rattle.std.proofs.lemmas.List.Edits.{sets}
use Rattle.trace_inputs.specs.Inputs.{doubles}
use Rattle.trace_inputs.proofs.LaneLoops.{double-zero}
use Rattle.trace_inputs.proofs.doubles_of.Goals as goal

pub returns : goal.returns
returns c =
    let a = c.args in
    c.lane_of.ensures ∙ ap (λ z. sets (replicate 1024 z) 0 (doubles a.frames (drop a.at a.bytes.now))) double-zero
