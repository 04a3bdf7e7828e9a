-- A copy of the loop table, for boxes that cannot share one: the table, and for each hall the number of writes and
-- clears that it has made. Each hall changes only its own half, so the half with the larger number is the newer one.
-- Refusals 1, 27 and 28.
use Rattle.std.specs.Prelude.{ℕ, zero, suc, ◌+◌, Bool, true, ◌&&◌, ◌||◌, not, cond, List, ◌++◌, eqb, ltb, get_or}
use Rattle.std.specs.Prelude.{Result, Ok, Err}
use Rattle.refusals.specs.declared.Refusal.{Refusal}
use Rattle.refusals.specs.Numbers.{number}
use Rattle.loop_table.specs.declared.Hall.{Hall}
use Rattle.loop_table.specs.declared.Hall.TheVariants as hall
use Rattle.loop_table.specs.declared.LoopSlot.{LoopSlot}
use Rattle.loop_table.specs.declared.LoopTable.{LoopTable}
use Rattle.loop_table.specs.Tables.{LoopChanged, unless, empty, empty_table, well_formed_table, half, written, cleared}
use Rattle.loop_copies.specs.declared.LoopCopy.{LoopCopy}

-- after a write, a clear or a merge: the copy, and the number of the refusal
pub record CopyChanged : Type 0 where
  pub copy : LoopCopy
  pub refusal : ℕ

-- what a write, a clear or a merge of a copy returns; if refused, the copy unchanged
abbrev pub copy_changed_of : LoopCopy → Result LoopCopy Refusal → CopyChanged
copy_changed_of c (Ok d) = record { copy = d; refusal = 0 }
copy_changed_of c (Err r) = record { copy = c; refusal = number r }

abbrev pub empty_copy : ℕ → LoopCopy
empty_copy n = record { table = empty_table n; changes_a = 0; changes_b = 0 }

-- how many writes and clears a hall has made
abbrev pub changes_of : Hall → LoopCopy → ℕ
changes_of hall.A c = c.changes_a
changes_of hall.B c = c.changes_b

-- one more; a number of 64 bits stays at its limit
abbrev pub raised : ℕ → ℕ
raised n = cond (ltb n 18446744073709551615) (n + 1) n

-- ---- a write or a clear by hall h: the table's own, counted if it is accepted

abbrev pub counted_by : Hall → LoopCopy → LoopTable → LoopCopy
counted_by hall.A c t = record { table = t; changes_a = raised c.changes_a; changes_b = c.changes_b }
counted_by hall.B c t = record { table = t; changes_a = c.changes_a; changes_b = raised c.changes_b }

abbrev pub counted : Hall → LoopCopy → LoopChanged → CopyChanged
counted h c r = record { copy = cond (eqb r.refusal 0) (counted_by h c r.table) c; refusal = r.refusal }

unfoldable pub copy_written : LoopCopy → Hall → ℕ → ℕ → ℕ → CopyChanged
copy_written c h k s e = counted h c (written c.table h k s e)

unfoldable pub copy_cleared : LoopCopy → Hall → ℕ → CopyChanged
copy_cleared c h k = counted h c (cleared c.table h k)

-- ---- two copies merged

abbrev pub same_slot : LoopSlot → LoopSlot → Bool
same_slot x y = eqb x.start y.start && eqb x.end y.end

-- n slots from slot k on are equal
unfoldable pub same_slots : ℕ → ℕ → List LoopSlot → List LoopSlot → Bool
same_slots zero k a b = true
same_slots (suc n) k a b = same_slots n k a b && same_slot (get_or a (k + n) empty) (get_or b (k + n) empty)

abbrev pub first : Hall → ℕ
first hall.A = 0
first hall.B = 8

-- 28: two halves with the same number are equal
abbrev pub agrees : Hall → LoopCopy → LoopCopy → Bool
agrees h c d = not (eqb (changes_of h c) (changes_of h d)) || same_slots 8 (first h) c.table.slots d.table.slots

unfoldable pub refused_merge : LoopCopy → LoopCopy → ℕ
refused_merge c d =
    unless
    (well_formed_table c.table && well_formed_table d.table)
    1
    (unless (eqb c.table.num_frames d.table.num_frames) 27
    (unless (agrees hall.A c d && agrees hall.B c d) 28 0))

-- the copy whose half of hall h is newer; ours if they have the same number
abbrev pub newer : Hall → LoopCopy → LoopCopy → LoopCopy
newer h c d = cond (ltb (changes_of h c) (changes_of h d)) d c

-- each hall's newer half
abbrev pub merged : LoopCopy → LoopCopy → LoopCopy
merged c d =
    let a = newer hall.A c d in
    let b = newer hall.B c d in
    record {
      table = record {
        num_frames = c.table.num_frames;
        slots = half hall.A a.table ++ half hall.B b.table;
      };
      changes_a = a.changes_a;
      changes_b = b.changes_b;
    }

-- if refused, our copy unchanged
unfoldable pub merged_copy : LoopCopy → LoopCopy → CopyChanged
merged_copy c d = let n = refused_merge c d in record { copy = cond (eqb n 0) (merged c d) c; refusal = n }
