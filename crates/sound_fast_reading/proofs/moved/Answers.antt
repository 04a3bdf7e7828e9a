-- `moved` makes the steps of a rate's advance.
use Rattle.sound_fast_reading.proofs.Moves.{slow_advance}
use Rattle.sound_fast_reading.proofs.moved.Goals as goal

pub stepped_by-requires-clause-slow : goal.stepped_by-requires-clause-slow
stepped_by-requires-clause-slow c = let a = c.args in slow_advance a.sample_rate a.dt a.rate _ c.advance_of.ensures c.requires.t_2 c.requires.t_3
