-- Lanes that each repeat their first number are constant, and every lane of constant lanes has a first number. Assumes nothing.
use mathlib.Core.Path.{◌≡◌, refl, sym, ap, ◌∙◌, subst}
use Prim.Native.Nat.{ℕ, ◌<◌}
use mathlib.Core.List.{List}
use lib.Dec.{T}
use lib.ListN.{length, get_or, replicate, length-replicate}
use lib.Ieee.{Float, nan}
use Rattle.sound_lanes.specs.Lanes.{Lanes, five, sized}
use Rattle.sound_lanes.proofs.Rows.{sized_parts}
use Rattle.sound_held.specs.Held.{held_lanes}
use Rattle.sound_constant.specs.Constant.{first, Constant}

-- all five lanes repeat their first number
pub constant_of : (b : Lanes) → T (sized b) → 0 < length b.rate → b.rate ≡ replicate (length b.rate) (get_or b.rate 0 nan) → b.fade ≡ replicate (length b.fade) (get_or b.fade 0 nan)
    → b.volume ≡ replicate (length b.volume) (get_or b.volume 0 nan) → b.left ≡ replicate (length b.left) (get_or b.left 0 nan) → b.right ≡ replicate (length b.right) (get_or b.right 0 nan)
    → Constant b
constant_of b s h r f v l g =
    let p = sized_parts b s in
    record {
      some = h;
      each =
          ap (λ (x : List Float). five x b.volume b.left b.right b.rate) (f ∙ ap (λ (n : ℕ). replicate n (get_or b.fade 0 nan)) p.fade)
          ∙ ap (λ (x : List Float). five (replicate (length b.rate) (get_or b.fade 0 nan)) x b.left b.right b.rate) (v ∙ ap (λ (n : ℕ). replicate n (get_or b.volume 0 nan)) p.volume)
          ∙ ap (λ (x : List Float). five (replicate (length b.rate) (get_or b.fade 0 nan)) (replicate (length b.rate) (get_or b.volume 0 nan)) x b.right b.rate) (l ∙ ap (λ (n : ℕ). replicate n (get_or b.left 0 nan)) p.left)
          ∙ ap (λ (x : List Float). five (replicate (length b.rate) (get_or b.fade 0 nan)) (replicate (length b.rate) (get_or b.volume 0 nan)) (replicate (length b.rate) (get_or b.left 0 nan)) x b.rate) (g ∙ ap (λ (n : ℕ). replicate n (get_or b.right 0 nan)) p.right)
          ∙ ap (λ (x : List Float). five (replicate (length b.rate) (get_or b.fade 0 nan)) (replicate (length b.rate) (get_or b.volume 0 nan)) (replicate (length b.rate) (get_or b.left 0 nan)) (replicate (length b.rate) (get_or b.right 0 nan)) x) r;
    }

-- every lane of constant lanes has a first number
module _ (b : Lanes) (c : Constant b) where
  lane_some : (lane : Lanes → List Float) (x : Float) → lane (held_lanes (first b) (length b.rate)) ≡ replicate (length b.rate) x → 0 < length (lane b)
  lane_some lane x e =
      subst (λ (n : ℕ). 0 < n) (sym (ap (λ (b : Lanes). length (lane b)) c.each ∙ ap length e ∙ length-replicate (length b.rate) x)) c.some

  pub fade_some : 0 < length b.fade
  fade_some = lane_some (λ b. b.fade) (get_or b.fade 0 nan) refl

  pub volume_some : 0 < length b.volume
  volume_some = lane_some (λ b. b.volume) (get_or b.volume 0 nan) refl

  pub left_some : 0 < length b.left
  left_some = lane_some (λ b. b.left) (get_or b.left 0 nan) refl

  pub right_some : 0 < length b.right
  right_some = lane_some (λ b. b.right) (get_or b.right 0 nan) refl
