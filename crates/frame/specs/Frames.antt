-- docs/assurance/RULES.md, "What the host supplies" (a sound's frames) and "The window of four" (the cubic).
use Rattle.std.specs.Prelude.{ℕ, ◌+◌, ◌*◌, false, List, pos, negsuc, get_or, Float}
use Rattle.std.specs.Float.{nan, fin, binary32}
use Rattle.std.specs.Float.Ieee.{add, sub, mul}
use Rattle.numbers.specs.Words.{positive_zero}
use Rattle.frame.specs.declared.Frame.{Frame}

-- positive zero in both channels
abbrev pub last_zero : Frame
last_zero = record { left = positive_zero; right = positive_zero }

-- frame i of interleaved samples, left then right
abbrev pub frame_of : List Float → ℕ → Frame
frame_of snd i = record { left = get_or snd (2 * i) nan; right = get_or snd (2 * i + 1) nan }

-- the cubic through a, b, c, d at f, each operation rounded once in the written order
unfoldable pub cubic : Float → Float → Float → Float → Float → Float
cubic a b c d f =
    let half = fin false 1 (negsuc 0) in
    let c1 = mul binary32 (sub binary32 c a) half in
    let c2 =
    sub binary32
    (add binary32 (sub binary32 a (mul binary32 b (fin false 5 (negsuc 0)))) (mul binary32 c (fin false 1 (pos 1))))
    (mul binary32 d half)
    in
    let c3 = add binary32 (mul binary32 (sub binary32 d a) half)
    (mul binary32 (sub binary32 b c) (fin false 3 (negsuc 0))) in
    add binary32 (mul binary32 (add binary32 (mul binary32 (add binary32 (mul binary32 c3 f) c2) f) c1) f) b

-- the cubic in each channel
unfoldable pub interpolated : Frame → Frame → Frame → Frame → Float → Frame
interpolated a b c d f =
    record {
      left = cubic a.left b.left c.left d.left f;
      right = cubic a.right b.right c.right d.right f;
    }
