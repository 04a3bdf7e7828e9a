-- `check` is the lowest number that applies, test by test.
use mathlib.Core.Path.{◌≡◌, sym, ap, ◌∙◌, subst}
use lib.Dec.{T}
use mathlib.Core.Bool.{true}
use Rattle.sound_lanes.specs.Lanes.{Lanes, sized, is_time_step, judged}
use Rattle.sound_held.specs.Held.{held_lanes}
use Rattle.sound_fast_path.specs.BlockLanes.{block_lanes}
use Rattle.sound_state.specs.WellFormed.{well_formed_for}
use Rattle.static_sound.proofs.Calls.{number_1, number_9, number_9_place, number_10, number_judged, fails, passes}
use Rattle.static_sound.proofs.Held.{judged_some}
use Rattle.static_sound.proofs.checks.check.Goals.{Else-not-are_sized, Else-not-is_time_step, Else-not-is_well_formed}
use Rattle.static_sound.proofs.checks.check.Goals as goal

well_formed : (c : Else-not-is_well_formed) → well_formed_for c.args.samples c.args.voice ≡ true
well_formed c = passes c.is_well_formed.ensures c.if-not-is_well_formed.false

lanes-sized : (c : Else-not-are_sized) → sized (block_lanes c.args.lanes) ≡ true
lanes-sized c = passes c.are_sized.ensures c.if-not-are_sized.false

time-step-one : (c : Else-not-is_time_step) → is_time_step c.args.dt ≡ true
time-step-one c = passes c.is_time_step.ensures c.if-not-is_time_step.false

pub returns-then-not-is_well_formed : goal.returns-then-not-is_well_formed
returns-then-not-is_well_formed c = number_1 _ _ _ _ _ (fails c.is_well_formed.ensures c.if-not-is_well_formed.true)

pub returns-then-not-are_sized : goal.returns-then-not-are_sized
returns-then-not-are_sized c = number_9 _ _ _ _ _ (well_formed (goal.at.returns-then-not-are_sized c).Else-not-is_well_formed) (fails c.are_sized.ensures c.if-not-are_sized.true)

pub returns-then-not-placed : goal.returns-then-not-placed
returns-then-not-placed c = number_9_place _ _ _ _ _ (well_formed (goal.at.returns-then-not-placed c).Else-not-is_well_formed) (lanes-sized (goal.at.returns-then-not-placed c).Else-not-are_sized) (c.if-not-placed.true)

pub returns-then-not-is_time_step : goal.returns-then-not-is_time_step
returns-then-not-is_time_step c = number_10 _ _ _ _ _ (well_formed (goal.at.returns-then-not-is_time_step c).Else-not-is_well_formed) (lanes-sized (goal.at.returns-then-not-is_time_step c).Else-not-are_sized) c.if-not-placed.false (fails c.is_time_step.ensures c.if-not-is_time_step.true)

pub judge-requires : goal.judge-requires
judge-requires c =
    let p = goal.at.judge-requires c in
    record {
      t = subst T (sym (ap sized (sym (ap block_lanes c.in-Each.is)) ∙ lanes-sized p.Else-not-are_sized)) tt;
      t_2 = subst T (sym (time-step-one p.Else-not-is_time_step)) tt;
    }

pub judge-requires-in-Held : goal.judge-requires-in-Held
judge-requires-in-Held c =
    record {
      t = subst (λ (b : Lanes). T (sized b)) (sym c.lanes-one.ensures) tt;
      t_2 = subst T (sym (time-step-one (goal.at.judge-requires-in-Held c).Else-not-is_time_step)) tt;
    }

pub returns-then-frames-eq0 : goal.returns-then-frames-eq0
returns-then-frames-eq0 c =
    let a = c.args in
    let p = goal.at.returns-then-frames-eq0 c in
    ap (judged a.voice.setup.sample_rate a.dt) (sym (ap block_lanes c.in-Held.is ∙ ap (held_lanes c.in-Held.held) c.if-frames-eq0.true))
    ∙ number_judged _ _ _ _ _ (well_formed p.Else-not-is_well_formed) (lanes-sized p.Else-not-are_sized) c.if-not-placed.false (time-step-one p.Else-not-is_time_step)

pub returns-in-Each : goal.returns-in-Each
returns-in-Each c =
    let a = c.args in
    let p = goal.at.returns-in-Each c in
    c.judge.ensures
    ∙ ap (judged a.voice.setup.sample_rate a.dt) (sym (ap block_lanes c.in-Each.is))
    ∙ number_judged _ _ _ _ _ (well_formed p.Else-not-is_well_formed) (lanes-sized p.Else-not-are_sized) c.if-not-placed.false (time-step-one p.Else-not-is_time_step)

pub returns-else-frames-eq0 : goal.returns-else-frames-eq0
returns-else-frames-eq0 c =
    let a = c.args in
    let p = goal.at.returns-else-frames-eq0 c in
    c.judge-in-Held.ensures
    ∙ ap (judged a.voice.setup.sample_rate a.dt) c.lanes-one.ensures
    ∙ judged_some _ _ c.in-Held.held c.in-Held.frames c.if-frames-eq0.false
    ∙ ap (judged a.voice.setup.sample_rate a.dt) (sym (ap block_lanes c.in-Held.is))
    ∙ number_judged _ _ _ _ _ (well_formed p.Else-not-is_well_formed) (lanes-sized p.Else-not-are_sized) c.if-not-placed.false (time-step-one p.Else-not-is_time_step)
