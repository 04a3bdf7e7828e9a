-- `cableowl_read_record` meets its contract: the record that was read. Assumes nothing.
use mathlib.Core.Path.{ap, ◌∙◌}
use Rattle.cableowl.specs.Traces.{record_c}
use Rattle.cableowl.proofs.traces.cableowl_read_record.Goals as goal

pub returns : goal.returns
returns c = c.record_of.ensures ∙ ap record_c c.read.ensures
