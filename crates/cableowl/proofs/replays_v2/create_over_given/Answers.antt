-- `create_over_given`: another sound, or the given one.
use mathlib.Core.Path.{sym, ◌∙◌}
use Prim.Native.Nat.{◌≤◌}
use native.Mathlib.Omega.{arith}
use lib.ListN.{length}
use Rattle.cableowl.proofs.ReplaySteps.{part_long}
use Rattle.cableowl.proofs.ReplayStepsV2.{long_enough, given_other, given_is}
use Rattle.cableowl.proofs.replays_v2.create_over_given.Goals.{After-given_samples_of-samples}
use Rattle.cableowl.proofs.replays_v2.create_over_given.Goals as goal

inside : (c : After-given_samples_of-samples) → c.given_samples_of-samples.result ≤ length c.args.given.now
inside c =
    let a = c.args in
    omega (arith, c.given_samples_of-samples.ensures, long_enough a.sounds (length a.given.now) a.values c.requires (sym c.is_other_sound.ensures ∙ c.if-is_other_sound.false))

pub returns-then-is_other_sound : goal.returns-then-is_other_sound
returns-then-is_other_sound c =
    let a = c.args in
    given_other a.given.now a.sounds a.replay a.size a.values _ _ c.is_other_sound.ensures c.if-is_other_sound.true c.refuse_sound.ensures

pub slice_bounds-create_over-end : goal.slice_bounds-create_over-end
slice_bounds-create_over-end c =
    part_long c.given_samples_of-samples.result c.args.given.now (inside (goal.at.slice_bounds-create_over-end c).After-given_samples_of-samples)

pub returns : goal.returns
returns c =
    let a = c.args in
    let m = c.given_samples_of-samples in
    given_is a.given.now a.sounds a.replay a.size a.values _ m.result _ _ c.is_other_sound.ensures c.if-is_other_sound.false m.ensures
    (part_long m.result a.given.now (inside (goal.at.returns c).After-given_samples_of-samples)) c.playing_of.ensures c.create_over.ensures
