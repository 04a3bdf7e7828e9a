-- `read` reads the four frames from a place on.
use Rattle.sound_fast_reading.proofs.Readings.{read_as}
use Rattle.sound_fast_wrapping.proofs.read.Goals as goal

pub returns : goal.returns
returns g c = let a = c.args in read_as a.sound.now a.track a.at _ _ _ a.fractional_position _ _ _ _ _ _ c.next-b.ensures.value c.next-c.ensures.value c.next-d.ensures.value c.frame_at.ensures c.frame_at-2.ensures c.frame_at-3.ensures c.frame_at-4.ensures c.narrow.ensures c.interpolate_frame.ensures
