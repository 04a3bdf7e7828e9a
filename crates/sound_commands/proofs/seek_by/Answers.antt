-- `sound_commands::seek_by` meets its contract: each arm is a case of `sought_by`, and a seek's frames are cut to a frame index in range.
use mathlib.Core.Path.{sym, ap, ◌∙◌, subst}
use Prim.Native.Nat.{ℕ, ◌≤◌}
use Rattle.numbers.specs.Frames.{most, cut_off}
use Rattle.numbers.proofs.Frames.{cut_le}
use Rattle.sound_state.proofs.WellFormed.{well_formed_for_parts}
use Rattle.sound_commands.specs.Commands.{sought}
use Rattle.sound_commands.proofs.seek_by.Goals as goal

pub frames_by-requires : goal.frames_by-requires
frames_by-requires c = (well_formed_for_parts _ _ c.requires).0.transport_well_formed.low

pub seek_to_index-requires : goal.seek_to_index-requires
seek_to_index-requires c =
    record { well_formed = c.requires; index_le_most = subst (λ (n : ℕ). n ≤ most) (sym c.cut.ensures) (cut_le _) }

pub returns-in-None : goal.returns-in-None
returns-in-None c = rw c.in-None.is

pub returns-in-Some : goal.returns-in-Some
returns-in-Some c =
    rw c.in-Some.is
    (c.seek_to_index.ensures ∙ ap (sought _ _) (c.cut.ensures ∙ ap cut_off c.frames_by.ensures))
