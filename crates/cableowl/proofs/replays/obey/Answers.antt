-- `obey`: the answer of the command set.
use Rattle.cableowl.specs.Replays.{commands_c}
use Rattle.cableowl.proofs.replays.obey.Goals as goal

pub returns : goal.returns
unfolding commands_c
returns c = rw (c.played.ensures, c.behind_record-after.ensures, c.command-obeyed.ensures, c.commands_of.ensures)
