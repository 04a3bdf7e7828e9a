-- `sound_commands::check` meets its contract: it makes the tests of `refused_set` in the same order.
use mathlib.Core.Path.{◌≡◌, refl, sym, ap₂, ◌∙◌, subst}
use Prim.Native.Nat.{ℕ}
use mathlib.Core.Bool.{Bool, ◌&&◌}
use lib.Dec.{T}
use Rattle.sound_state.specs.WellFormed.{well_formed_for}
use Rattle.sound_state.proofs.WellFormed.{well_formed_for_parts}
use Rattle.sound_state.specs.Refusals.{unless}
use Rattle.sound_commands.specs.Commands.{target_by, target_to, seekable, refused_set}
use Rattle.sound_state.proofs.Refusals.{refused_here, passed_here}
use Rattle.sound_commands.proofs.check.Goals.{After-is_seek_to, Else-not-is_well_formed}
use Rattle.sound_commands.proofs.check.Goals as goal

well-formed : (c : Else-not-is_well_formed) → T (well_formed_for c.args.samples c.args.voice)
well-formed c = subst T (sym (sym c.is_well_formed.ensures ∙ c.if-not-is_well_formed.false)) tt

pub returns-then-not-is_well_formed : goal.returns-then-not-is_well_formed
unfolding refused_set
returns-then-not-is_well_formed c = refused_here _ _ _ _ c.is_well_formed.ensures c.if-not-is_well_formed.true

pub returns-then-not-is_loop : goal.returns-then-not-is_loop
unfolding refused_set
returns-then-not-is_loop c =
    passed_here _ _ _ _ _ c.is_well_formed.ensures c.if-not-is_well_formed.false
    (refused_here _ _ _ _ c.is_loop.ensures c.if-not-is_loop.true)

pub returns-then-not-is_rate : goal.returns-then-not-is_rate
unfolding refused_set
returns-then-not-is_rate c =
    passed_here _ _ _ _ _ c.is_well_formed.ensures c.if-not-is_well_formed.false
    (passed_here _ _ _ _ _ c.is_loop.ensures c.if-not-is_loop.false
    (refused_here _ _ _ _ c.is_rate.ensures c.if-not-is_rate.true))

pub is_seek_by-requires : goal.is_seek_by-requires
is_seek_by-requires c = (well_formed_for_parts _ _ (well-formed (goal.at.is_seek_by-requires c).Else-not-is_well_formed)).0.transport_well_formed.low

-- once three tests are passed, the seeks decide
last-test : (c : After-is_seek_to) (n : ℕ) → let a = c.args in
    n ≡ unless (seekable (target_by a.voice) a.commands.seek_by && seekable (target_to a.voice) a.commands.seek_to) 8 0
    → n ≡ refused_set a.samples a.voice a.commands
unfolding refused_set
last-test c n h =
    passed_here _ _ _ _ _ c.is_well_formed.ensures c.if-not-is_well_formed.false
    (passed_here _ _ _ _ _ c.is_loop.ensures c.if-not-is_loop.false
    (passed_here _ _ _ _ _ c.is_rate.ensures c.if-not-is_rate.false h))

both : (c : After-is_seek_to) → let a = c.args in
    c.is_seek_by.result && c.is_seek_to.result
    ≡ seekable (target_by a.voice) a.commands.seek_by && seekable (target_to a.voice) a.commands.seek_to
both c = ap₂ (λ (x y : Bool). x && y) c.is_seek_by.ensures c.is_seek_to.ensures

pub returns-then-not-is_seek_by-is_seek_to : goal.returns-then-not-is_seek_by-is_seek_to
returns-then-not-is_seek_by-is_seek_to c = last-test (goal.at.returns-then-not-is_seek_by-is_seek_to c).After-is_seek_to 8 (refused_here _ _ _ _ (both (goal.at.returns-then-not-is_seek_by-is_seek_to c).After-is_seek_to) c.if-not-is_seek_by-is_seek_to.true)

pub returns : goal.returns
returns c = last-test (goal.at.returns c).After-is_seek_to 0 (passed_here _ _ _ _ _ (both (goal.at.returns c).After-is_seek_to) c.if-not-is_seek_by-is_seek_to.false refl)
