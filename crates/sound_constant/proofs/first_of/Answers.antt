-- `first_of`: every lane of constant lanes has a first number.
use Rattle.sound_lanes.specs.Lanes.{lanes_of}
use Rattle.sound_constant.proofs.Lanes.{fade_some, volume_some, left_some, right_some}
use Rattle.sound_constant.proofs.first_of.Goals as goal

pub gains-gains-requires : goal.gains-gains-requires
gains-gains-requires c =
    let b = lanes_of c.args.lanes in
    record { fade = fade_some b c.requires; volume = volume_some b c.requires; left = left_some b c.requires; right = right_some b c.requires }
