-- `advance_of` is the product that the definition has.
use Rattle.sound_fast_reading.proofs.Moves.{advance_is, slow_number}
use Rattle.sound_fast_reading.proofs.advance_of.Goals as goal

pub magnitude_of-requires : goal.magnitude_of-requires
magnitude_of-requires c = slow_number _ _ _ c.requires

pub returns : goal.returns
returns c = let a = c.args in advance_is a.sample_rate a.rate a.dt _ c.magnitude_of.ensures
