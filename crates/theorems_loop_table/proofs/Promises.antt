-- All theorems about two halls at one table, in one record. Assumes nothing.
use mathlib.Core.Path.{refl}
use Rattle.loop_table.specs.Tables.{well_formed_table, refused_write, refused_clear, written, cleared}
use Rattle.loop_table.specs.declared.Hall.TheVariants.{A}
use Rattle.theorems_loop_table.specs.Apart.{AcceptedWrite, AcceptedClear}
use Rattle.theorems_loop_table.specs.Witnesses.{evening, Witnesses}
use Rattle.theorems_loop_table.specs.Promises.{Promises}
use Rattle.theorems_loop_table.proofs.Apart.{halls_apart, taken_stays}
use Rattle.theorems_loop_table.proofs.Follows.{reads_follow}

writes : AcceptedWrite evening.table A 0 3 6
unfolding written refused_write well_formed_table
writes = refl

clears : AcceptedClear evening.table A 0
unfolding cleared refused_clear well_formed_table
clears = refl

witnesses : Witnesses
witnesses =
    record {
      halls_apart = record { calls = refl; own = tt };
      taken_stays = record { voice = refl; calls = refl; none = tt };
      reads_follow = (record { sixteen = refl; spared = tt }, writes, clears);
    }

pub promises : Promises
promises = record { halls_apart = halls_apart; taken_stays = taken_stays; reads_follow = reads_follow; witnesses = witnesses }
