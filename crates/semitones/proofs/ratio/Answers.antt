-- `semitones::ratio` meets its contract: the dividend is a whole f64, and its quotient by 2^50 is exact. Assumes nothing.
use Rattle.semitones.proofs.Ratios.{product, table_entry, whole_float, at_steps}
use Rattle.semitones.proofs.ratio.Goals as goal

pub int_to_float-result : goal.int_to_float-result
int_to_float-result c = whole_float _ _ (product c.args.steps _ c.requires (table_entry _ c.all.ensures _))

pub returns : goal.returns
returns c = at_steps _ _ (product c.args.steps _ c.requires (table_entry _ c.all.ensures _))
