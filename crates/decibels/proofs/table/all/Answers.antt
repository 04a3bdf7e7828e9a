-- `decibels::table::all` meets its contract: one test over the whole table, which antt computes. Assumes nothing.
use mathlib.Core.Path.{refl}
use Rattle.decibels.proofs.Levels.{table_rule}
use Rattle.decibels.proofs.table.all.Goals as goal

pub returns : goal.returns
returns c = table_rule _ tt refl
