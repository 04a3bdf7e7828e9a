-- `saved_settings::Version::layout` meets its contract: the tables of the code are those of specs/Tables.antt.
use Rattle.std.proofs.Common.{sym, ap}
use Rattle.saved_settings.specs.Tables.{first_rows, second_rows}
use Rattle.saved_settings.specs.Records.{layout}
use Rattle.saved_settings.proofs.Version.layout.Goals as goal

pub returns-in-First : goal.returns-in-First
unfolding first_rows
returns-in-First c = ap layout (sym c.in-First.is)

pub returns-in-Second : goal.returns-in-Second
unfolding second_rows
returns-in-Second c = ap layout (sym c.in-Second.is)
