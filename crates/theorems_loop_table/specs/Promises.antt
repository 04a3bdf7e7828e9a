-- The theorems about two halls at one table, one field each. The contract of `promised` is this record, so the prover
-- refuses a field that is false or has no proof.
use Rattle.theorems_loop_table.specs.Apart.{HallsApart, TakenStays, ReadsFollow}
use Rattle.theorems_loop_table.specs.Witnesses.{Witnesses}

pub record Promises : Type 0 where
  -- whatever one hall calls, the other's results, slots and voices are the same
  pub halls_apart : HallsApart
  -- a loop taken earlier does not change with the table
  pub taken_stays : TakenStays
  -- a read of a slot follows the hall that writes it
  pub reads_follow : ReadsFollow
  -- one input for each hypothesis
  pub witnesses : Witnesses
