-- `step` meets its contract: by the direction.
use mathlib.Core.Path.{◌≡◌, sym, ap, ◌∙◌}
use mathlib.Core.Bool.{Bool, cond}
use Rattle.playback_position.proofs.Ranges.{within_ordered}
use Rattle.transport.specs.declared.Transport.{Transport}
use Rattle.transport.specs.Moves.{forward, backward}
use Rattle.sound_update.specs.declared.Slice.{Slice}
use Rattle.sound_update.specs.Updates.{stepped}
use Rattle.sound_update.proofs.step.Goals as goal

stepped_by : (c : Slice) (t : Transport) (b : Bool) → c.backwards ≡ b → cond b (backward t) (forward c.num_frames t) ≡ stepped c t
unfolding stepped
stepped_by c t b e = ap (λ (b : Bool). cond b (backward t) (forward c.num_frames t)) (sym e)

pub decrement_position-requires : goal.decrement_position-requires
decrement_position-requires c = within_ordered c.args.slice.num_frames c.args.transport.loop_region c.requires.loop

pub returns-then-slice : goal.returns-then-slice
returns-then-slice c = c.decrement_position.ensures ∙ stepped_by _ _ _ c.if-slice.true

pub returns-else-slice : goal.returns-else-slice
returns-else-slice c = c.increment_position.ensures ∙ stepped_by _ _ _ c.if-slice.false
