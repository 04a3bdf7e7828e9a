-- `sound_commands::last_played_position` meets its contract: an f64 represents a number in range exactly.
use mathlib.Core.Path.{sym, subst}
use Prim.Native.Nat.{ℕ, ◌≤◌}
use Rattle.numbers.specs.Frames.{most}
use Rattle.numbers.proofs.Frames.{number_held}
use Rattle.sound_commands.specs.Commands.{reported}
use Rattle.sound_commands.proofs.last_played_position.Goals as goal

pub int_to_float-result : goal.int_to_float-result
int_to_float-result c = number_held _ (subst (λ (n : ℕ). n ≤ most) (sym c.current_frame_index.ensures) c.requires)

pub returns : goal.returns
unfolding reported
returns c = rw c.current_frame_index.ensures
