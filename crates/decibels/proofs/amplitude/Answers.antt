-- `decibels::amplitude` meets its contract: an entry is a whole f32, and its quotient by 2^24 is exact. Assumes nothing.
use Rattle.decibels.proofs.Levels.{table_entry}
use Rattle.decibels.proofs.Amplitudes.{whole_float, at_level, at_silence}
use Rattle.decibels.proofs.amplitude.Goals as goal

pub int_to_float-result : goal.int_to_float-result
int_to_float-result c = whole_float _ _ (table_entry _ c.all.ensures _ c.if-level-lt601.true).0

pub returns-then-level-lt601 : goal.returns-then-level-lt601
returns-then-level-lt601 c = at_level _ _ c.if-level-lt601.true (table_entry _ c.all.ensures _ c.if-level-lt601.true).0

pub returns-else-level-lt601 : goal.returns-else-level-lt601
returns-else-level-lt601 c = at_silence _ c.if-level-lt601.false
