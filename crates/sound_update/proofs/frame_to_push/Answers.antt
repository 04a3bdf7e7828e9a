-- `frame_to_push` meets its contract: by whether it plays.
use Rattle.std.specs.Prelude.{Some}
use mathlib.Core.Path.{ap}
use Rattle.sound_update.proofs.frame_to_push.Goals as goal

pub frame_in-requires : goal.frame_in-requires
frame_in-requires c = c.requires c.if-playing.true

pub returns-then-playing : goal.returns-then-playing
returns-then-playing c = rw c.if-playing.true (ap Some c.frame_in.ensures)
