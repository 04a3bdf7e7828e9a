-- The inputs that meet the hypotheses, by computing. Assumes nothing.
use mathlib.Core.Path.{refl}
use native.Mathlib.Omega.{arith}
use Rattle.loop_table.specs.Tables.{well_formed_table}
use Rattle.loop_copies.specs.Copies.{same_slots, refused_merge, merged_copy}
use Rattle.theorems_loop_copies.specs.Merging.{MayMerge}
use Rattle.theorems_loop_copies.specs.Boxes.{Few}
use Rattle.theorems_loop_copies.specs.Witnesses.{ten, one_sent, Witnesses}

merges : MayMerge ten ten
unfolding well_formed_table same_slots refused_merge
merges = record { ours = refl; theirs = refl; accepted = refl }

few : Few one_sent
few = omega arith

pub witnesses : Witnesses
unfolding well_formed_table same_slots refused_merge merged_copy
witnesses =
    record {
      never_back = (record { ours = refl; theirs = refl }, refl);
      any_order = merges;
      any_times = record { sixteen = refl; well_formed = refl };
      any_grouping = record { first = merges; second = merges; third = merges };
      as_alone = record { few = few; own = tt };
      together = record { few = few; of_a = refl; of_b = refl };
      last_copy_catches = record { few = few; all = refl };
      none_refused = few;
    }
