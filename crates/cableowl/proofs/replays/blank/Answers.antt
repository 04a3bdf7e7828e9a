-- `blank`: the blank voice.
use Rattle.cableowl.proofs.ReplaySteps.{blank_few}
use Rattle.cableowl.proofs.replays.blank.Goals as goal

pub encode-requires : goal.encode-requires
encode-requires c = blank_few _ c.blank.ensures

pub returns : goal.returns
returns c = rw (c.encode.ensures, c.blank.ensures)
