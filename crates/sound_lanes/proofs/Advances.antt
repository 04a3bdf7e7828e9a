-- A rate whose advance is bounded is finite, since an infinity times what is not negative is an infinity or a NaN. Assumes nothing.
use mathlib.Core.Path.{◌≡◌, refl, ap, ap₂, ◌∙◌, subst}
use Prim.Native.Nat.{ℕ, ◌*◌}
use native.Mathlib.Nat.{mul_comm}
use mathlib.Core.Bool.{Bool, true, false, not, cond}
use mathlib.Core.List.{List, [], ◌∷◌}
use lib.IntN.{pos}
use lib.Dec.{T, eqb}
use lib.Ieee.{Float, nan, inf, fin, Format, binary64, up, down, unlike, round, mul, lt, le, eq, of_int}
use lib.Ieee.Fits.{and_i, and_l, and_r}
use Rattle.numbers.specs.Words.{finite, finite_clear, magnitude, advance}
use Rattle.numbers.specs.Lists.{all}
use Rattle.numbers.proofs.Signs.{clear, round_clear, finite_clear_clear}
use Rattle.sound_lanes.specs.Lanes.{is_time_step, slow}

-- a product's factors changed over
unlike_comm : (s t : Bool) → unlike s t ≡ unlike t s
unlike_comm true true = refl
unlike_comm true false = refl
unlike_comm false true = refl
unlike_comm false false = refl

mul_swap : (f : Format) (x y : Float) → mul f x y ≡ mul f y x
unfolding mul
mul_swap f nan nan = refl
mul_swap f nan (inf t) = refl
mul_swap f nan (fin t n d) = refl
mul_swap f (inf s) nan = refl
mul_swap f (inf s) (inf t) = ap inf (unlike_comm s t)
mul_swap f (inf s) (fin t n d) = ap (λ (u : Bool). cond (eqb n 0) nan (inf u)) (unlike_comm s t)
mul_swap f (fin s m e) nan = refl
mul_swap f (fin s m e) (inf t) = ap (λ (u : Bool). cond (eqb m 0) nan (inf u)) (unlike_comm s t)
mul_swap f (fin s m e) (fin t n d) =
    ap (λ (u : Bool). round f u (m * up e * (n * up d)) (down e * down d)) (unlike_comm s t)
    ∙ ap₂ (λ (a c : ℕ). round f (unlike t s) a c) (mul_comm (m * up e) (n * up d)) (mul_comm (down e) (down d))

abbrev most : Float
most = fin false 1 (pos 8)

time_step_finite_clear : (dt : Float) → T (is_time_step dt) → T (finite_clear dt)
unfolding lt
time_step_finite_clear nan h = h
time_step_finite_clear (inf s) h = h
time_step_finite_clear (fin true m e) h = h
time_step_finite_clear (fin false m e) h = tt

-- a NaN, or infinity
abbrev endless : Float → Bool
endless nan = true
endless (inf s) = not s
endless (fin s m e) = false

-- a NaN or infinity stays one in a product with a number whose sign bit is clear
mul_endless : (f : Format) (x y : Float) → T (endless x) → T (clear y) → T (endless (mul f x y))
unfolding mul
mul_endless f nan y h k = tt
mul_endless f (inf true) y h k = absurd h
mul_endless f (inf false) nan h k = tt
mul_endless f (inf false) (inf true) h k = absurd k
mul_endless f (inf false) (inf false) h k = tt
mul_endless f (inf false) (fin true n d) h k = absurd k
mul_endless f (inf false) (fin false n d) h k = go (eqb n 0)
  where
    go : (b : Bool) → T (endless (cond b nan (inf false)))
    go true = tt
    go false = tt
mul_endless f (fin s m e) y h k = absurd h

fast : (x : Float) → T (endless x) → T (le x most) → ⊥
unfolding le lt eq
fast nan h k = k
fast (inf true) h k = h
fast (inf false) h k = k
fast (fin s m e) h k = h

advance_endless : (hz : ℕ) (dt q : Float) → T (is_time_step dt) → T (endless (magnitude q)) → T (endless (advance hz q dt))
unfolding advance of_int
advance_endless hz dt q t h =
    mul_endless binary64 _ dt
    (subst (λ (x : Float). T (endless x)) (mul_swap binary64 (magnitude q) (round binary64 false hz 1)) (mul_endless binary64 (magnitude q) (round binary64 false hz 1) h (round_clear binary64 hz 1)))
    (finite_clear_clear dt (time_step_finite_clear dt t))

pub near_finite : (hz : ℕ) (dt q : Float) → T (is_time_step dt) → T (slow hz dt q) → T (finite q)
unfolding magnitude
near_finite hz dt nan t h = fast (advance hz nan dt) (advance_endless hz dt nan t tt) h
near_finite hz dt (inf s) t h = fast (advance hz (inf s) dt) (advance_endless hz dt (inf s) t tt) h
near_finite hz dt (fin s m e) t h = tt

pub slow_finite : (hz : ℕ) (dt : Float) (qs : List Float) → T (is_time_step dt) → T (all (slow hz dt) qs) → T (all finite qs)
slow_finite hz dt [] t h = tt
slow_finite hz dt (q ∷ qs) t h =
    and_i (finite q) (all finite qs) (near_finite hz dt q t (and_l (slow hz dt q) (all (slow hz dt) qs) h)) (slow_finite hz dt qs t (and_r (slow hz dt q) (all (slow hz dt) qs) h))
