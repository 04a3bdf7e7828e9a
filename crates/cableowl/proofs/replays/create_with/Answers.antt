-- `create_with`: the written samples are the sound of the creation.
use mathlib.Core.Path.{◌≡◌, ap, ◌∙◌}
use Prim.Native.Nat.{◌≤◌}
use native.Mathlib.Omega.{arith}
use mathlib.Core.List.{List}
use lib.Ieee.{Float}
use lib.ListN.{length, take}
use Rattle.trace_inputs.specs.Inputs.{samples_of}
use Rattle.cableowl.specs.Replays.{creation_over}
use Rattle.cableowl.proofs.ReplaySteps.{prefix, inside, part_long, few_samples, creation_is}
use borrow.Author.Rules.{rules}
use Rattle.cableowl.proofs.replays.create_with.Goals.{After-put_samples-samples}
use Rattle.cableowl.proofs.replays.create_with.Goals as goal

long : (c : After-put_samples-samples) → 77 ≤ length c.args.values
long c = search rules

fits : (c : After-put_samples-samples) → let w = c.put_samples-samples in w.result ≤ length w.new.out
fits c =
    let a = c.args in
    let w = c.put_samples-samples in
    inside a.sound.now w.new.out (samples_of a.values) w.result w.ensures.0 w.ensures.1 (few_samples a.values (long c)) c.requires

pub slice_bounds-create_over-end : goal.slice_bounds-create_over-end
slice_bounds-create_over-end c = fits (goal.at.slice_bounds-create_over-end c).After-put_samples-samples

pub slice_bounds-create_over-end-2 : goal.slice_bounds-create_over-end-2
slice_bounds-create_over-end-2 c =
    let w = c.put_samples-samples in
    part_long w.result w.new.out (fits (goal.at.slice_bounds-create_over-end-2 c).After-put_samples-samples)

pub returns : goal.returns
returns c =
    let a = c.args in
    let w = c.put_samples-samples in
    let g = w.ensures in
    let few = few_samples a.values (long (goal.at.returns c).After-put_samples-samples) in
    let x : take w.result w.new.out ≡ samples_of a.values = prefix a.sound.now w.new.out (samples_of a.values) w.result g.0 g.1 (omega (arith, few, c.requires)) in
    (c.create_over.ensures ∙ ap (λ (s : List Float). creation_over s 1 a.replay a.size a.values) x ∙ creation_is a.replay a.size a.values, g.0)
