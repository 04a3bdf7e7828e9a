-- `read`, forward: four consecutive frames.
use mathlib.Core.Path.{◌≡◌, ap, sym, ◌∙◌}
use Prim.Native.Nat.{ℕ, ◌+◌, ◌-◌}
use native.Mathlib.Omega.{arith}
use mathlib.Core.Bool.{Bool, cond}
use Rattle.sound_fast_straight.proofs.Consecutive.{read_straight}
use Rattle.sound_fast_straight.proofs.ForwardStraight.read.Goals as goal

pub returns : goal.returns
returns c =
    let a = c.args in
    let k = a.track in
    let r = c.requires in
    let far = ap (λ (b : Bool). cond b (a.at - k.low) (k.high - 1 - a.at)) r.backwards_value in
    let l = r.far_enough in
    let on = λ (m p : ℕ) (e : p ≡ k.start + (a.at + m)). e ∙ ap (λ (q : ℕ). k.start + q) (sym (ap (λ (b : Bool). cond b (a.at - m) (a.at + m)) r.backwards_value)) in
    read_straight a.sound.now k a.at r.on l _ _ _ a.fractional_position _ _ _ _ _ _ (on 1 _ (omega arith)) (on 2 _ (omega arith)) (on 3 _ (omega arith))
    c.frame_in.ensures c.frame_in-2.ensures c.frame_in-3.ensures c.frame_in-4.ensures c.narrow.ensures c.interpolate_frame.ensures
