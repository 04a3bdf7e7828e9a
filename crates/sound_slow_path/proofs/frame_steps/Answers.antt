-- `frame_steps` adds the advance to the fraction and makes as many updates as the sum has steps.
use Rattle.sound_slow_path.proofs.FrameSteps.{asks, turned_as}
use Rattle.sound_slow_path.proofs.frame_steps.Goals as goal

pub advance_by-sum-requires : goal.advance_by-sum-requires
advance_by-sum-requires c =
    let a = asks _ _ _ _ c.magnitude.ensures c.requires.is_time_step c.requires.slow in
    record { fraction_proper = c.requires.below; advance_clear = a.0; advance_most = a.1 }

pub returns : goal.returns
returns c = turned_as _ _ _ _ _ _ _ _ _ _ c.magnitude.ensures c.advance_by-sum.ensures c.update_positions.ensures
