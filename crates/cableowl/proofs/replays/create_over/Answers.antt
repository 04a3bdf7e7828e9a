-- `create_over`: the answer of the creation.
use Rattle.cableowl.specs.Replays.{creation_over}
use Rattle.cableowl.proofs.replays.create_over.Goals as goal

pub returns : goal.returns
unfolding creation_over
returns c = rw (c.played.ensures, c.behind_record-after.ensures, c.create-created.ensures, c.settings_of.ensures)
