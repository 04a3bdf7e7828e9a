-- `gain_by` scales one frame and writes it.
use mathlib.Core.Path.{ap, ◌∙◌}
use Prim.Native.Nat.{◌+◌, ◌*◌}
use lib.ListN.{set}
use Rattle.frame.specs.declared.Frame.{Frame}
use Rattle.sound_gains.proofs.gain_by.Goals as goal

pub returns : goal.returns
returns c = c.store.ensures ∙ ap (λ (x : Frame). let a = c.args in set (set a.out.now (2 * a.i) x.left) (2 * a.i + 1) x.right) c.scale-x.ensures
