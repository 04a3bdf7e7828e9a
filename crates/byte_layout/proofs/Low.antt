-- A refusal's number is above 0, and so is the number by which a reading is refused. Assumes nothing.
use mathlib.Core.Path.{◌≡◌, subst}
use Prim.Native.Nat.{ℕ, ◌-◌, ◌<◌}
use native.Mathlib.Omega.{arith}
use mathlib.Core.Bool.{Bool, true, false, cond}
use mathlib.Core.List.{List, [], ◌∷◌, ◌++◌}
use lib.Dec.{T, leb}
use lib.ListN.{length, take, drop}
use Rattle.refusals.specs.declared.Refusal.{Refusal}
use Rattle.refusals.specs.declared.Refusal.TheVariants.{State, SampleRate, FrameCount, Slice, StartPosition, LoopRegion, PlaybackRate, Seek, Block, TimeStep, Lane, Advance, Level, Ramp, Mark, Kind, Record, Truncated, Room, LoopSlot, OtherHall, EmptySlot, Version, SavedField, Output, OtherSound, OtherFrames, TwoHalves}
use Rattle.refusals.specs.Numbers.{number}
use Rattle.byte_layout.specs.declared.Row.{Row}
use Rattle.byte_layout.specs.Numbers.{num}
use Rattle.byte_layout.specs.Rows.{stands, within}
use Rattle.byte_layout.specs.Reads.{Reading, bad, good, taken, step, steps}

pub numbered : (r : Refusal) → 0 < number r
numbered State = omega arith
numbered SampleRate = omega arith
numbered FrameCount = omega arith
numbered Slice = omega arith
numbered StartPosition = omega arith
numbered LoopRegion = omega arith
numbered PlaybackRate = omega arith
numbered Seek = omega arith
numbered Block = omega arith
numbered TimeStep = omega arith
numbered Lane = omega arith
numbered Advance = omega arith
numbered Level = omega arith
numbered Ramp = omega arith
numbered Mark = omega arith
numbered Kind = omega arith
numbered Record = omega arith
numbered Truncated = omega arith
numbered Room = omega arith
numbered LoopSlot = omega arith
numbered OtherHall = omega arith
numbered EmptySlot = omega arith
numbered Version = omega arith
numbered SavedField = omega arith
numbered Output = omega arith
numbered OtherSound = omega arith
numbered OtherFrames = omega arith
numbered TwoHalves = omega arith

Low : Reading → Type 0
Low (bad k) = 0 < k
Low (good left vs bs) = T true

either : (b : Bool) (x y : Reading) → Low x → Low y → Low (cond b x y)
either true x y p q = p
either false x y p q = q

step_low : (r : Row) (d : Reading) → Low d → Low (step r d)
unfolding step taken Low
step_low r (bad k) l = l
step_low r (good left vs bs) l =
    let w = r.width in
    let n = num (take w bs) in
    let x = good (left - w) (vs ++ (n ∷ [])) (drop w bs) in
    let y = cond (within r n) x (bad (number r.refusal)) in
    either (stands r vs) (taken r left vs bs) (good left (vs ++ (0 ∷ [])) bs)
    (either (leb w left) (cond (leb w (length bs)) y (bad 18)) (cond (leb left (length bs)) (bad 17) (bad 18))
    (either (leb w (length bs)) y (bad 18) (either (within r n) x (bad (number r.refusal)) tt (numbered r.refusal)) (omega arith))
    (either (leb left (length bs)) (bad 17) (bad 18) (omega arith) (omega arith)))
    tt

steps_low : (rs : List Row) (d : Reading) → Low d → Low (steps rs d)
unfolding steps
steps_low [] d l = l
steps_low (r ∷ rs) d l = steps_low rs (step r d) (step_low r d l)

pub some_refusal : (rs : List Row) (s : List ℕ) (n k : ℕ) → steps rs (good n [] s) ≡ bad k → 0 < k
unfolding Low
some_refusal rs s n k e = subst Low e (steps_low rs (good n [] s) tt)
