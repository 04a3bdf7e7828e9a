-- The table of loops (request #109), refusals 1, 6 and 20 to 22: sixteen slots over one sound, slots 0 to 7 written
-- by hall A, 8 to 15 by hall B. Every loop is in frames and must lie inside the sound, whose frame count the table
-- records.
use Rattle.std.specs.Prelude.{ℕ, Bool, true, false, ◌&&◌, ◌||◌, cond, List, eqb, leb, ltb, get_or, set, take, drop}
use Rattle.std.specs.Prelude.{Some, replicate, Result, Ok, Err}
use Rattle.refusals.specs.declared.Refusal.{Refusal}
use Rattle.refusals.specs.Numbers.{number}
use Rattle.numbers.specs.Lists.{all}
use Rattle.playback_position.specs.Positions.{within}
use Rattle.loop_table.specs.declared.Hall.{Hall}
use Rattle.loop_table.specs.declared.Hall.TheVariants as hall
use Rattle.loop_table.specs.declared.LoopSlot.{LoopSlot}
use Rattle.loop_table.specs.declared.LoopTable.{LoopTable}

-- after a write or a clear: the table, and the number of the refusal
pub record LoopChanged : Type 0 where
  pub table : LoopTable
  pub refusal : ℕ

-- after a read
pub record LoopFound : Type 0 where
  pub slot : LoopSlot
  pub refusal : ℕ

-- a number if its test fails, otherwise the result of the rest
abbrev pub unless : Bool → ℕ → ℕ → ℕ
unless ok n rest = cond ok rest n

-- 6: start < end <= n, as for every loop
abbrev pub looping : ℕ → ℕ → ℕ → Bool
looping n s e = within n (Some (s, e))

abbrev pub slot_of : ℕ → ℕ → LoopSlot
slot_of s e = record { start = s; end = e }

-- an empty slot: every number 0
abbrev pub empty : LoopSlot
empty = slot_of 0 0

abbrev pub is_empty : LoopSlot → Bool
is_empty s = eqb s.start 0 && eqb s.end 0

-- a slot is empty or holds a loop
abbrev pub well_formed_slot : ℕ → LoopSlot → Bool
well_formed_slot n s = is_empty s || looping n s.start s.end

-- 1: no slot holds a loop that 6 would refuse
unfoldable pub well_formed_table : LoopTable → Bool
well_formed_table t = all (well_formed_slot t.num_frames) t.slots

-- 1, for every call
abbrev pub refused_table : LoopTable → ℕ
refused_table t = unless (well_formed_table t) 1 0

-- which slots a hall writes
abbrev pub owns : Hall → ℕ → Bool
owns hall.A k = ltb k 8
owns hall.B k = leb 8 k

abbrev pub same : Hall → Hall → Bool
same hall.A hall.A = true
same hall.A hall.B = false
same hall.B hall.A = false
same hall.B hall.B = true

-- the eight slots that a hall writes
abbrev pub half : Hall → LoopTable → List LoopSlot
half hall.A t = take 8 t.slots
half hall.B t = drop 8 t.slots

-- 20 and 21
abbrev pub refused_slot : Hall → ℕ → ℕ
refused_slot h k = unless (leb k 15) 20 (unless (owns h k) 21 0)

abbrev pub empty_table : ℕ → LoopTable
empty_table n = record { num_frames = n; slots = replicate 16 empty }

-- the table with one slot replaced
abbrev pub stored : LoopTable → ℕ → LoopSlot → LoopTable
stored t k s = record { num_frames = t.num_frames; slots = set t.slots k s }

abbrev pub held_in : LoopTable → ℕ → LoopSlot
held_in t k = get_or t.slots k empty

-- if accepted, the table with the slot replaced; if refused, the given table
abbrev pub changed : ℕ → LoopTable → ℕ → LoopSlot → LoopChanged
changed refusal t k s = cond (eqb refusal 0) (record { table = stored t k s; refusal = 0 })
    (record { table = t; refusal = refusal })

-- what a write or a clear of a table returns; if refused, the table unchanged
abbrev pub changed_of : LoopTable → Result LoopTable Refusal → LoopChanged
changed_of t (Ok u) = record { table = u; refusal = 0 }
changed_of t (Err r) = record { table = t; refusal = number r }

-- a write
unfoldable pub refused_write : LoopTable → Hall → ℕ → ℕ → ℕ → ℕ
refused_write t h k s e = unless (well_formed_table t) 1 (unless (looping t.num_frames s e) 6 (refused_slot h k))

unfoldable pub written : LoopTable → Hall → ℕ → ℕ → ℕ → LoopChanged
written t h k s e = changed (refused_write t h k s e) t k (slot_of s e)

-- a clear, also of an empty slot
unfoldable pub refused_clear : LoopTable → Hall → ℕ → ℕ
refused_clear t h k = unless (well_formed_table t) 1 (refused_slot h k)

unfoldable pub cleared : LoopTable → Hall → ℕ → LoopChanged
cleared t h k = changed (refused_clear t h k) t k empty

-- a read by either hall; if refused, no loop
unfoldable pub refused_read : LoopTable → ℕ → ℕ
refused_read t k = unless (well_formed_table t) 1 (unless (leb k 15) 20 (cond (is_empty (held_in t k)) 22 0))

unfoldable pub found : LoopTable → ℕ → LoopFound
found t k = let n = refused_read t k in record { slot = cond (eqb n 0) (held_in t k) empty; refusal = n }

-- what a read returns; if refused, no loop
abbrev pub found_of : Result LoopSlot Refusal → LoopFound
found_of (Ok s) = record { slot = s; refusal = 0 }
found_of (Err r) = record { slot = empty; refusal = number r }
