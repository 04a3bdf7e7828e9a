-- `update_positions` makes as many updates as it is asked to. The invariant: the remaining updates from the current state lead to the same result.
-- The moving part is in pieces, and is assembled for each update with the same loop.
use mathlib.Core.Path.{◌≡◌, refl, sym, ap, ◌∙◌, subst}
use Prim.Native.Nat.{◌-◌}
use native.Mathlib.Nat.{sub-zero}
use native.Mathlib.Omega.{arith}
use Rattle.sound_update.specs.Updates.{updates, moving_of, Updatable}
use Rattle.sound_update.specs.Windows.{window_of}
use Rattle.sound_update.proofs.Kept.{updated_updatable}
use Rattle.sound_update.proofs.Updates.{together_as, updates_one, updates_none, updated_apart}
use Rattle.sound_update.proofs.Moving.update_positions.Goals.{After-moving_of-moving, After-numbers_of-numbers}
use Rattle.sound_update.proofs.Moving.update_positions.Goals as goal

-- what the loop starts with: the window is an array of four
begins : (c : After-numbers_of-numbers)
    → let m = c.args.self in
    moving_of m.transport.loop_region m.state m.transport.position m.transport.playing m.wraps (window_of c.frames_of-frames.result c.numbers_of-numbers.result) ≡ m
begins c =
    together_as _ c.args.self c.args.self _ _ refl refl c.well_formed.0.1.1.1.1.0.1.1.0.1.0.1 c.frames_of-frames.ensures c.numbers_of-numbers.ensures

-- what is updated
given : (c : After-moving_of-moving) → c.moving_of-moving.result ≡ moving_of c.args.self.transport.loop_region c.loop.state c.loop.position c.loop.playing c.loop.wraps (window_of c.loop.frames c.loop.numbers)
given c = c.moving_of-moving.ensures ∙ ap (moving_of _ _ _ _ _) c.window_of-window.ensures

-- ---- the needs
pub loop-init : goal.loop-init
loop-init c = (subst (Updatable _ _) (sym (begins (goal.at.loop-init c).After-numbers_of-numbers)) c.requires, rw sub-zero)

pub update_position-next-requires : goal.update_position-next-requires
update_position-next-requires c = subst (Updatable _ _) (sym (given (goal.at.update_position-next-requires c).After-moving_of-moving)) c.loop.invariant.0

pub loop-preserved : goal.loop-preserved
loop-preserved c =
    let l = c.loop in
    rw (updated_apart _ _ _ (moving_of c.args.self.transport.loop_region l.state l.position l.playing l.wraps (window_of l.frames l.numbers)) _ _ _ _ (given (goal.at.loop-preserved c).After-moving_of-moving) c.update_position-next.ensures refl c.frames_of-frames-in-loop.ensures c.numbers_of-numbers-in-loop.ensures)
    (updated_updatable _ _ _ l.invariant.0, updates_one c.args.steps l.counter _ _ _ c.loop-test.true ∙ l.invariant.1)

pub returns : goal.returns
returns c =
    c.moving_of.ensures ∙ ap (moving_of _ _ _ _ _) c.window_of-window-2.ensures ∙ sym (updates_none (c.args.steps - c.loop.counter) _ _ _ (omega (arith, c.loop-test.false))) ∙ c.loop.invariant.1
    ∙ ap (updates c.args.steps c.args.sound.now c.args.slice) (begins (goal.at.returns c).After-numbers_of-numbers)
