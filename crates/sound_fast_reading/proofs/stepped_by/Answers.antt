-- `stepped_by` makes few steps, and leaves a fraction.
use Rattle.sound_fast_reading.proofs.Moves.{stepped_move}
use Rattle.sound_fast_reading.proofs.stepped_by.Goals as goal

pub returns : goal.returns
returns c = stepped_move _ _ c.requires.t c.requires.slow _ c.advance_by.ensures
