-- `trace_inputs::number_of`: no bytes, or at most as many as there are.
use Rattle.std.proofs.Common.{◌≡◌, ◌-◌, ap, ◌∙◌, length, take, drop, min, length-drop}
use Rattle.std.proofs.lemmas.List.{take_min}
use Rattle.byte_layout.specs.Numbers.{num}
use Rattle.trace_inputs.proofs.LaneLoops.{past}
use Rattle.trace_inputs.proofs.number_of.Goals as goal

pub returns-then-bytes-at : goal.returns-then-bytes-at
returns-then-bytes-at c = let a = c.args in past a.bytes.now a.at a.width c.if-bytes-at.true

pub returns : goal.returns
returns c =
    let w = c.args.width in
    let at = c.args.at in
    let bs = c.args.bytes.now in
    let e : take (min w (length bs - at)) (drop at bs) ≡ take w (drop at bs) = rw (← length-drop at bs) (take_min w (drop at bs)) in
    c.number.ensures ∙ ap num (ap (λ n. take n (drop at bs)) c.min.ensures ∙ e)
