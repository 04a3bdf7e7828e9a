-- One frame's advance, sum and steps, as the code works them out.
use mathlib.Core.Path.{◌≡◌, ap, ◌∙◌}
use mathlib.Core.List.{List}
use mathlib.Core.Bool.{false}
use Prim.Native.Nat.{ℕ}
use lib.Dec.{T}
use lib.IntN.{pos}
use lib.Ieee.{Float, fin, binary64, mul, add, le, lt, of_int}
use Rattle.numbers.specs.declared.Stepped.{Stepped}
use Rattle.numbers.specs.Words.{positive_zero, finite_clear, magnitude, stepped, advance}
use Rattle.numbers.proofs.Fractions.{advance_finite_clear}
use Rattle.sound_lanes.specs.Lanes.{slow}
use Rattle.sound_update.specs.declared.Slice.{Slice}
use Rattle.sound_update.specs.declared.Moving.{Moving}
use Rattle.sound_update.specs.Updates.{updates}
use Rattle.sound_slow_path.specs.FrameSteps.{frame_steps}

-- the code's product, m being the rate without its sign
abbrev product : ℕ → Float → Float → Float
product hz m dt = mul binary64 (mul binary64 (of_int binary64 (pos hz)) m) dt

advance_is : (hz : ℕ) (r dt m : Float) → m ≡ magnitude r → product hz m dt ≡ advance hz r dt
unfolding advance
advance_is hz r dt m e = ap (λ (x : Float). product hz x dt) e

-- what the sum asks of the advance
pub asks : (hz : ℕ) (r dt m : Float) → m ≡ magnitude r → T (lt positive_zero dt) → T (slow hz dt r) → T (finite_clear (product hz m dt)) × T (le (product hz m dt) (fin false 1 (pos 8)))
asks hz r dt m e t s = rw (advance_is hz r dt m e) (advance_finite_clear hz r dt t s, s)

-- the steps, the sum's fractional part and the updates are the frame's
pub turned_as : (snd : List Float) (c : Slice) (hz : ℕ) (r dt m : Float) (mo : Moving) (f : Float) (a : Stepped) (u : Moving)
    → m ≡ magnitude r → a ≡ stepped (add binary64 f (product hz m dt)) → u ≡ updates a.steps snd c mo
    → record { moving = u; fractional_position = a.fraction; steps = a.steps } ≡ frame_steps snd c hz r dt mo f
unfolding frame_steps
turned_as snd c hz r dt m mo f a u e h g =
    let k : a ≡ stepped (add binary64 f (advance hz r dt)) = h ∙ ap (λ (x : Float). stepped (add binary64 f x)) (advance_is hz r dt m e) in
    ap (λ (w : Moving). record { moving = w; fractional_position = a.fraction; steps = a.steps }) g
    ∙ ap (λ (b : Stepped). record { moving = updates b.steps snd c mo; fractional_position = b.fraction; steps = b.steps }) k
