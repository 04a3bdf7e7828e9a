-- All theorems on two boxes, in one record. Assumes nothing.
use Rattle.theorems_loop_copies.specs.Promises.{Promises}
use Rattle.theorems_loop_copies.proofs.Merging.{never_back, any_order, any_times, any_grouping}
use Rattle.theorems_loop_copies.proofs.Alone.{as_alone}
use Rattle.theorems_loop_copies.proofs.Shared.{together, last_copy_catches, none_refused}
use Rattle.theorems_loop_copies.proofs.Witnesses.{witnesses}

pub promises : Promises
promises =
    record {
      never_back = never_back;
      any_order = any_order;
      any_times = any_times;
      any_grouping = any_grouping;
      as_alone = as_alone;
      together = together;
      last_copy_catches = last_copy_catches;
      none_refused = none_refused;
      witnesses = witnesses;
    }
