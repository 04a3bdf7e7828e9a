-- The C entries of the loop table (request #109): each is the function below it, over numbers. A hall other than 0
-- and 1 is refused with 1.
use Rattle.std.specs.Prelude.{ℕ, cond, List, eqb, leb, Float}
use Rattle.loop_table.specs.declared.Hall.{Hall}
use Rattle.loop_table.specs.declared.Hall.TheVariants as hall
use Rattle.loop_table.specs.declared.LoopTable.{LoopTable}
use Rattle.loop_table.specs.Tables.{written, cleared, found}
use Rattle.loop_table.specs.Tables as tables
use Rattle.loop_copies.specs.declared.LoopCopy.{LoopCopy}
use Rattle.loop_copies.specs.Copies.{copy_written, copy_cleared, merged_copy}
use Rattle.loop_copies.specs.Copies as copies
use Rattle.take_loop.specs.Taking.{taken}
use Rattle.c_state.specs.declared.CableowlState.{CableowlState}
use Rattle.cableowl.specs.declared.CableowlCommanded.{CableowlCommanded}
use Rattle.cableowl.specs.declared.loops.LoopChanged.{LoopChanged}
use Rattle.cableowl.specs.declared.loops.LoopFound.{LoopFound}
use Rattle.cableowl.specs.declared.copies.CopyChanged.{CopyChanged}
use Rattle.c_state.specs.Records.{decoded}
use Rattle.cableowl.specs.Entries.{after}

abbrev pub hall_of : ℕ → Hall
hall_of n = cond (eqb n 0) hall.A hall.B

-- the answers as C records
abbrev pub changed_c : tables.LoopChanged → LoopChanged
changed_c r = record { table = r.table; refusal = r.refusal }

abbrev pub found_c : tables.LoopFound → LoopFound
found_c r = record { slot = r.slot; refusal = r.refusal }

abbrev pub copy_changed_c : copies.CopyChanged → CopyChanged
copy_changed_c r = record { copy = r.copy; refusal = r.refusal }

-- a write, and a clear
abbrev pub written_c : LoopTable → ℕ → ℕ → ℕ → ℕ → LoopChanged
written_c t h k s e = cond (leb h 1) (changed_c (written t (hall_of h) k s e)) (record { table = t; refusal = 1 })

abbrev pub cleared_c : LoopTable → ℕ → ℕ → LoopChanged
cleared_c t h k = cond (leb h 1) (changed_c (cleared t (hall_of h) k)) (record { table = t; refusal = 1 })

-- a read
abbrev pub read_c : LoopTable → ℕ → LoopFound
read_c t k = found_c (found t k)

-- the same for a copy of the table, and a merge of two
abbrev pub copy_written_c : LoopCopy → ℕ → ℕ → ℕ → ℕ → CopyChanged
copy_written_c c h k s e = cond (leb h 1) (copy_changed_c (copy_written c (hall_of h) k s e))
    (record { copy = c; refusal = 1 })

abbrev pub copy_cleared_c : LoopCopy → ℕ → ℕ → CopyChanged
copy_cleared_c c h k = cond (leb h 1) (copy_changed_c (copy_cleared c (hall_of h) k)) (record { copy = c; refusal = 1 })

abbrev pub merged_c : LoopCopy → LoopCopy → CopyChanged
merged_c c d = copy_changed_c (merged_copy c d)

-- a voice takes a slot's loop
unfoldable pub taken_c : List Float → LoopTable → ℕ → CableowlState → CableowlCommanded
taken_c snd t k c =
    let r = taken snd t k (decoded c) in
    record { state = after r.refusal r.voice c; position = r.position; refusal = r.refusal }
