-- docs/assurance/RULES.md, "The window of four": for f = 0 and samples of magnitude at most 8 the value equals b,
-- apart from the sign of a zero.
use Rattle.std.specs.Prelude.{◌≡◌, true, false, pos, T, Float}
use Rattle.std.specs.Float.{fin, binary32}
use Rattle.std.specs.Float.Ieee.{le, eq, fits}
use Rattle.numbers.specs.Words.{positive_zero, magnitude}
use Rattle.frame.specs.declared.Frame.{Frame}
use Rattle.frame.specs.Frames.{interpolated}

-- an f32 of magnitude at most 8
abbrev pub Small : Float → Type 0
Small x = T (le (magnitude x) (fin false 8 (pos 0))) × T (fits binary32 x)

-- both channels
abbrev pub SmallFrame : Frame → Type 0
SmallFrame f = Small f.left × Small f.right

-- equal numbers in both channels: zeros of either sign are equal
abbrev pub Equal : Frame → Frame → Type 0
Equal f g = (eq f.left g.left ≡ true) × (eq f.right g.right ≡ true)

-- hypothesis on the four entries
abbrev pub SmallFrames : Frame → Frame → Frame → Frame → Type 0
SmallFrames a b c d = SmallFrame a × SmallFrame b × SmallFrame c × SmallFrame d

abbrev pub ReadsB : Type 0
ReadsB = (a b c d : Frame) → SmallFrames a b c d → Equal (interpolated a b c d positive_zero) b
