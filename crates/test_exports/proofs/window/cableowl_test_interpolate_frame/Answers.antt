-- `test_exports::window::cableowl_test_interpolate_frame` meets its contract, by its callees'. Assumes nothing.
use mathlib.Core.Path.{◌≡◌}
use lib.Ieee.{Float}
use Rattle.frame.specs.declared.Frame.{Frame}
use Rattle.frame.specs.Frames.{interpolated}
use Rattle.test_exports.specs.declared.window.PlainFrame.{PlainFrame}
use Rattle.test_exports.specs.Windows.{plain_frame}
use Rattle.test_exports.proofs.window.cableowl_test_interpolate_frame.Goals as goal

-- the result, once the frames are known
answer : {a b c d p q r s m : Frame} {x : PlainFrame} (f : Float) → a ≡ p → b ≡ q → c ≡ r → d ≡ s → m ≡ interpolated a b c d f → x ≡ plain_frame m → x ≡ plain_frame (interpolated p q r s f)
answer f h i j k l n = rw (← h, ← i, ← j, ← k, ← l) n

pub returns : goal.returns
returns c =
    let fourth = c.before.before in
    let second = fourth.before.before in
    answer _ second.from.ensures second.from-2.ensures fourth.from-3.ensures fourth.from-4.ensures c.interpolate_frame.ensures c.from-5.ensures
