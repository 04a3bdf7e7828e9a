-- All theorems on two boxes, one field each. The contract of `promised` is this record, so the checker refuses a
-- field that is false or has no proof.
use Rattle.theorems_loop_copies.specs.Merging.{NeverBack, AnyOrder, AnyTimes, AnyGrouping}
use Rattle.theorems_loop_copies.specs.AsAlone.{AsAlone}
use Rattle.theorems_loop_copies.specs.Together.{Together, LastCopyCatches, NoneRefused}
use Rattle.theorems_loop_copies.specs.Witnesses.{Witnesses}

pub record Promises : Type 0 where
  -- no older half replaces a newer one
  pub never_back : NeverBack
  -- merging is commutative, idempotent and associative
  pub any_order : AnyOrder
  pub any_times : AnyTimes
  pub any_grouping : AnyGrouping
  -- each box behaves as if it were alone
  pub as_alone : AsAlone
  -- in the end both boxes have the table that one shared table would be
  pub together : Together
  pub last_copy_catches : LastCopyCatches
  pub none_refused : NoneRefused
  -- one input for each hypothesis
  pub witnesses : Witnesses
