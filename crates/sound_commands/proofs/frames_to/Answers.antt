-- `sound_commands::frames_to` meets its contract: it is the product of `target_to`.
use mathlib.Core.Path.{refl}
use Rattle.sound_commands.specs.Commands.{target_to}
use Rattle.sound_commands.proofs.frames_to.Goals as goal

pub returns : goal.returns
unfolding target_to
returns c = refl
