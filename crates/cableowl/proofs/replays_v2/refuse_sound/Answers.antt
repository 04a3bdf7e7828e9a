-- `refuse_sound`: the blank voice.
use Rattle.cableowl.proofs.ReplaySteps.{blank_few}
use Rattle.cableowl.proofs.replays_v2.refuse_sound.Goals as goal

pub encode-voice-requires : goal.encode-voice-requires
encode-voice-requires c = blank_few _ c.blank.ensures

pub returns : goal.returns
returns c = rw (c.played.ensures, c.behind_record-after.ensures, c.playing_of.ensures, c.encode-voice.ensures, c.blank.ensures, c.from.ensures)
