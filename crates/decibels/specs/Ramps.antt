-- The fade ramp: a lane of amplitudes whose levels go in a straight line from one level to another, rounded down
-- (request #101).
use Rattle.std.specs.Prelude.{ℕ, zero, suc, ◌+◌, ◌-◌, ◌*◌, ◌/◌, cond, ◌&&◌, List, [], ◌∷◌, ◌++◌, leb, eqb, length}
use Rattle.std.specs.Prelude.{Float}
use Rattle.decibels.specs.Levels.{amplitude}

-- the level of frame i of n; a single frame has the end level
abbrev pub level_at : ℕ → ℕ → ℕ → ℕ → ℕ
level_at start end n i = cond (eqb n 1) end ((start * (n - 1 - i) + end * i) / (n - 1))

-- the amplitudes of the first k of n frames
abbrev pub frames : ℕ → ℕ → ℕ → ℕ → List Float
frames start end n zero = []
frames start end n (suc k) = frames start end n k ++ (amplitude (level_at start end n k) ∷ [])

-- refusals 13 and 14, in this order; 0 if both pass
abbrev pub refusal : ℕ → ℕ → ℕ → ℕ → ℕ
refusal start end count room =
    cond (leb start 601 && leb end 601) (cond (leb 1 count && leb count 65536 && eqb count room) 0 14) 13

-- the lane afterwards: all of it written, or unchanged
abbrev pub faded : ℕ → ℕ → ℕ → List Float → List Float
faded start end count lane = cond (eqb (refusal start end count (length lane)) 0) (frames start end count count) lane
