-- `sound_creation::check` meets its contract: it makes the tests of `refused_new` in the same order.
use mathlib.Core.Path.{◌≡◌, refl, ap, ◌∙◌}
use Prim.Native.Nat.{ℕ}
use Rattle.numbers.specs.Words.{finite}
use Rattle.sound_state.specs.Voices.{length_of_slice}
use Rattle.sound_state.specs.Refusals.{unless}
use Rattle.sound_creation.specs.Creation.{allowed, setup_of, startable, refused_new}
use Rattle.sound_state.proofs.Refusals.{refused_here, passed_here}
use Rattle.sound_creation.proofs.check.Goals.{After-is_finite, After-is_start, After-is_well_formed-2}
use Rattle.sound_creation.proofs.check.Goals as goal

-- N is the slice's length, or all frames
start-told : (c : After-is_start) → let a = c.args in
    c.is_start.result ≡ startable (length_of_slice (setup_of a.samples a.settings)) a.settings
start-told c =
    let a = c.args in
    c.is_start.ensures ∙ ap (λ (n : ℕ). startable n a.settings) (c.num_frames-num_frames.ensures ∙ ap length_of_slice c.setup_of-setup.ensures)

loop-told : (c : After-is_well_formed-2) → let a = c.args in
    c.is_well_formed-2.result ≡ allowed a.settings.sample_rate (length_of_slice (setup_of a.samples a.settings)) a.settings.loop_region
loop-told c =
    let a = c.args in
    c.is_well_formed-2.ensures ∙ ap (λ (n : ℕ). allowed a.settings.sample_rate n a.settings.loop_region) (c.num_frames-num_frames.ensures ∙ ap length_of_slice c.setup_of-setup.ensures)

pub returns-then-not-is_sample_rate : goal.returns-then-not-is_sample_rate
unfolding refused_new
returns-then-not-is_sample_rate c = refused_here _ _ _ _ c.is_sample_rate.ensures c.if-not-is_sample_rate.true

pub returns-then-not-is_sound : goal.returns-then-not-is_sound
unfolding refused_new
returns-then-not-is_sound c =
    passed_here _ _ _ _ _ c.is_sample_rate.ensures c.if-not-is_sample_rate.false
    (refused_here _ _ _ _ c.is_sound.ensures c.if-not-is_sound.true)

pub returns-then-not-is_well_formed : goal.returns-then-not-is_well_formed
unfolding refused_new
returns-then-not-is_well_formed c =
    passed_here _ _ _ _ _ c.is_sample_rate.ensures c.if-not-is_sample_rate.false
    (passed_here _ _ _ _ _ c.is_sound.ensures c.if-not-is_sound.false
    (refused_here _ _ _ _ c.is_well_formed.ensures c.if-not-is_well_formed.true))

pub returns-then-not-is_start : goal.returns-then-not-is_start
unfolding refused_new
returns-then-not-is_start c =
    passed_here _ _ _ _ _ c.is_sample_rate.ensures c.if-not-is_sample_rate.false
    (passed_here _ _ _ _ _ c.is_sound.ensures c.if-not-is_sound.false
    (passed_here _ _ _ _ _ c.is_well_formed.ensures c.if-not-is_well_formed.false
    (refused_here _ _ _ _ (start-told (goal.at.returns-then-not-is_start c).After-is_start) c.if-not-is_start.true)))

pub returns-then-not-is_well_formed-2 : goal.returns-then-not-is_well_formed-2
unfolding refused_new
returns-then-not-is_well_formed-2 c =
    passed_here _ _ _ _ _ c.is_sample_rate.ensures c.if-not-is_sample_rate.false
    (passed_here _ _ _ _ _ c.is_sound.ensures c.if-not-is_sound.false
    (passed_here _ _ _ _ _ c.is_well_formed.ensures c.if-not-is_well_formed.false
    (passed_here _ _ _ _ _ (start-told (goal.at.returns-then-not-is_well_formed-2 c).After-is_start) c.if-not-is_start.false
    (refused_here _ _ _ _ (loop-told (goal.at.returns-then-not-is_well_formed-2 c).After-is_well_formed-2) c.if-not-is_well_formed-2.true))))

-- once five tests are passed, the sixth decides
last-test : (c : After-is_finite) (n : ℕ)
    → c.is_start.result ≡ startable (length_of_slice (setup_of c.args.samples c.args.settings)) c.args.settings
    → c.is_well_formed-2.result ≡ allowed c.args.settings.sample_rate (length_of_slice (setup_of c.args.samples c.args.settings)) c.args.settings.loop_region
    → n ≡ unless (finite c.args.settings.playback_rate) 7 0 → n ≡ refused_new c.args.samples c.args.settings
unfolding refused_new
last-test c n start loop h =
    passed_here _ _ _ _ _ c.is_sample_rate.ensures c.if-not-is_sample_rate.false
    (passed_here _ _ _ _ _ c.is_sound.ensures c.if-not-is_sound.false
    (passed_here _ _ _ _ _ c.is_well_formed.ensures c.if-not-is_well_formed.false
    (passed_here _ _ _ _ _ start c.if-not-is_start.false
    (passed_here _ _ _ _ _ loop c.if-not-is_well_formed-2.false h))))

pub returns-then-not-is_finite : goal.returns-then-not-is_finite
returns-then-not-is_finite c =
    let at = goal.at.returns-then-not-is_finite c in
    last-test at.After-is_finite 7 (start-told at.After-is_start) (loop-told at.After-is_well_formed-2) (refused_here _ _ _ _ c.is_finite.ensures c.if-not-is_finite.true)

pub returns : goal.returns
returns c =
    let at = goal.at.returns c in
    last-test at.After-is_finite 0 (start-told at.After-is_start) (loop-told at.After-is_well_formed-2) (passed_here _ _ _ _ _ c.is_finite.ensures c.if-not-is_finite.false refl)
