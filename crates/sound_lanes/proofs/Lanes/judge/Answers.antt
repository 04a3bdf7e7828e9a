-- `Lanes::judge` meets its contract: the lanes' own tests decide, by `judged_lanes`. Assumes nothing.
use Prim.Native.Nat.{ℕ}
use mathlib.Core.Path.{◌≡◌, refl, sym, ap, ◌∙◌}
use mathlib.Core.Bool.{Bool, true, false, cond}
use Rattle.numbers.specs.Words.{finite}
use Rattle.numbers.specs.Lists.{all}
use Rattle.sound_lanes.specs.Lanes.{Lanes, lanes_of, judged, slow, four_finite_clear}
use Rattle.sound_lanes.proofs.Rows.{judged_lanes}
use Rattle.sound_lanes.proofs.Lanes.judge.Goals.{Start}
use Rattle.sound_lanes.proofs.Lanes.judge.Goals as goal

abbrev given : Start → Lanes
given st = lanes_of st.args.self

abbrev levels : Start → Bool
levels st = let b = given st in four_finite_clear b.fade b.volume b.left b.right

abbrev slows : Start → Bool
slows st = all (slow st.args.sample_rate st.args.dt) (given st).rate

-- the result, by the results of the passes
answer : (st : Start) (a s f : Bool) → levels st ≡ a → slows st ≡ s → all finite (given st).rate ≡ f
    → ◌≡◌ {A = ℕ} (cond a (cond s 0 (cond f 12 11)) 11) (judged st.args.sample_rate st.args.dt (given st))
answer st a s f p q r =
    sym
    (judged_lanes st.args.sample_rate st.args.dt (given st) st.requires.t_2 st.requires.t
    ∙ ap (λ (x : Bool). cond x (cond (slows st) 0 (cond (all finite (given st).rate) 12 11)) 11) p
    ∙ ap (λ (x : Bool). cond a (cond x 0 (cond (all finite (given st).rate) 12 11)) 11) q
    ∙ ap (λ (x : Bool). cond a (cond s 0 (cond x 12 11)) 11) r)

pub four_finite_clear-requires : goal.four_finite_clear-requires
four_finite_clear-requires c = c.requires.t

pub returns-then-not-four_finite_clear : goal.returns-then-not-four_finite_clear
returns-then-not-four_finite_clear c = answer (goal.at.returns-then-not-four_finite_clear c).Start false _ _ (sym c.four_finite_clear.ensures ∙ c.if-not-four_finite_clear.true) refl refl

pub returns-then-all_slow : goal.returns-then-all_slow
returns-then-all_slow c = answer (goal.at.returns-then-all_slow c).Start true true _ (sym c.four_finite_clear.ensures ∙ c.if-not-four_finite_clear.false) (sym c.all_slow.ensures ∙ c.if-all_slow.true) refl

pub returns-then-all_finite : goal.returns-then-all_finite
returns-then-all_finite c = answer (goal.at.returns-then-all_finite c).Start true false true (sym c.four_finite_clear.ensures ∙ c.if-not-four_finite_clear.false) (sym c.all_slow.ensures ∙ c.if-all_slow.false) (sym c.all_finite.ensures ∙ c.if-all_finite.true)

pub returns-else-all_finite : goal.returns-else-all_finite
returns-else-all_finite c = answer (goal.at.returns-else-all_finite c).Start true false false (sym c.four_finite_clear.ensures ∙ c.if-not-four_finite_clear.false) (sym c.all_slow.ensures ∙ c.if-all_slow.false) (sym c.all_finite.ensures ∙ c.if-all_finite.false)
