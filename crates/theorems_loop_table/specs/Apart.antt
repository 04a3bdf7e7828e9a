-- Two halls do not disturb each other (request #109). Stated for hall h: with h = B, nothing that A calls changes
-- anything of B's; with h = A the reverse. Two sequences of calls begin at the same table and voices. They contain
-- the same writes and clears by h, the same reads of h's slots by either hall, and the same calls of one voice, in
-- the same order, with any other calls in between. If that voice takes loops only from h's slots, then all these
-- calls return the same (frames, state, steps and counts included), and h's eight slots and the voice are the same
-- afterwards.
use Rattle.std.specs.Prelude.{ℕ, ◌≡◌, Bool, true, false, not, ◌&&◌, List, ◌∷◌, T, eqb, length, Float}
use Rattle.numbers.specs.Lists.{all}
use Rattle.loop_table.specs.declared.Hall.{Hall}
use Rattle.loop_table.specs.declared.LoopTable.{LoopTable}
use Rattle.loop_table.specs.Tables.{same, half, owns, slot_of, empty, found, written, cleared}
use Rattle.theorems_loop_table.specs.Calls.{
  Write,
  Clear,
  Read,
  New,
  Take,
  Command,
  Block,
  Mix,
  Event,
  ByHall,
  ByVoice,
  World,
  after,
  answers,
  only,
}

-- writes and clears by h, reads of h's slots by either hall, calls of voice i
abbrev pub concerns : Hall → ℕ → Event → Bool
concerns h i (ByHall g (Write k s e)) = same h g
concerns h i (ByHall g (Clear k)) = same h g
concerns h i (ByHall g (Read k)) = owns h k
concerns h i (ByVoice j p) = eqb i j

-- a loop is taken only from h's slots
abbrev pub takes_from : Hall → Event → Bool
takes_from h (ByHall g c) = true
takes_from h (ByVoice j (New s)) = true
takes_from h (ByVoice j (Take k)) = owns h k
takes_from h (ByVoice j (Command c)) = true
takes_from h (ByVoice j (Block dt b g out)) = true
takes_from h (ByVoice j (Mix dt b g mix from)) = true

pub record Undisturbed (snd : List Float) (h : Hall) (i : ℕ) (w : World) (es fs : List Event) : Type 0 where
  pub same_answers : answers snd (concerns h i) w es ≡ answers snd (concerns h i) w fs
  pub slots : half h (after snd w es).table ≡ half h (after snd w fs).table
  pub voice : (after snd w es).voices i ≡ (after snd w fs).voices i

-- hypothesis: the same calls that concern h and voice i, and that voice takes loops only from h's slots
pub record SameCalls (h : Hall) (i : ℕ) (es fs : List Event) : Type 0 where
  pub calls : only (concerns h i) es ≡ only (concerns h i) fs
  pub own : T (all (takes_from h) (only (concerns h i) es))

abbrev pub HallsApart : Type 0
HallsApart =
    (snd : List Float) (h : Hall) (i : ℕ) (w : World) (es fs : List Event)
    → SameCalls h i es fs → Undisturbed snd h i w es fs

-- ---- a loop taken earlier does not change with the table

abbrev pub of_voice : ℕ → Event → Bool
of_voice i (ByHall g c) = false
of_voice i (ByVoice j p) = eqb i j

abbrev pub takes_none : Event → Bool
takes_none (ByHall g c) = true
takes_none (ByVoice j (New s)) = true
takes_none (ByVoice j (Take k)) = false
takes_none (ByVoice j (Command c)) = true
takes_none (ByVoice j (Block dt b g out)) = true
takes_none (ByVoice j (Mix dt b g mix from)) = true

-- hypothesis: the same voice at first, the same calls of it, and no loop taken
pub record SameVoice (i : ℕ) (w u : World) (es fs : List Event) : Type 0 where
  pub voice : w.voices i ≡ u.voices i
  pub calls : only (of_voice i) es ≡ only (of_voice i) fs
  pub none : T (all takes_none (only (of_voice i) es))

-- a voice that takes no loop returns the same over any two tables
abbrev pub TakenStays : Type 0
TakenStays =
    (snd : List Float) (i : ℕ) (w u : World) (es fs : List Event)
    → SameVoice i w u es fs → (answers snd (of_voice i) w es ≡ answers snd (of_voice i) u fs)
    × ((after snd w es).voices i ≡ (after snd u fs).voices i)

-- ---- a read follows the hall that writes the slot

-- the call is not a write or clear of slot k by h
abbrev pub spares : Hall → ℕ → Event → Bool
spares h k (ByHall g (Write j s e)) = not (same h g && eqb j k)
spares h k (ByHall g (Clear j)) = not (same h g && eqb j k)
spares h k (ByHall g (Read j)) = true
spares h k (ByVoice j p) = true

-- hypothesis: a table of sixteen slots, and no further write or clear of slot k by h
pub record Spared (h : Hall) (k : ℕ) (w : World) (es : List Event) : Type 0 where
  pub sixteen : length w.table.slots ≡ 16
  pub spared : T (all (spares h k) es)

-- and the first call is accepted
abbrev pub AcceptedWrite : LoopTable → Hall → ℕ → ℕ → ℕ → Type 0
AcceptedWrite t h k s e = (written t h k s e).refusal ≡ 0

abbrev pub AcceptedClear : LoopTable → Hall → ℕ → Type 0
AcceptedClear t h k = (cleared t h k).refusal ≡ 0

-- after h's accepted write of slot k every read returns that loop, and after its accepted clear 22, until h writes or
-- clears that slot again, whatever the other hall calls
abbrev pub ReadsFollow : Type 0
ReadsFollow =
    (snd : List Float) (h : Hall) (k : ℕ) (w : World) (es : List Event)
    → Spared h k w es
    → ((s e : ℕ) → AcceptedWrite w.table h k s e
    → found (after snd w (ByHall h (Write k s e) ∷ es)).table k ≡ record { slot = slot_of s e; refusal = 0 })
    × (AcceptedClear w.table h k
    → found (after snd w (ByHall h (Clear k) ∷ es)).table k ≡ record { slot = empty; refusal = 22 })
