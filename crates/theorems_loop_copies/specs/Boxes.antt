-- Two boxes, one at each hall, each with voices and a copy of the loop table of one sound. A hall calls only at its
-- own box. A box sends its copy at any time. A copy that was sent may be merged never, once or often, late and in any
-- order.
use Rattle.std.specs.Prelude.{◌≡◌, ℕ, ◌≤◌, Bool, ◌&&◌, cond, List, [], ◌∷◌, length, get_or, Float}
use Rattle.sound_state.specs.declared.StaticSound.{StaticSound}
use Rattle.loop_table.specs.declared.Hall.{Hall}
use Rattle.loop_table.specs.declared.LoopTable.{LoopTable}
use Rattle.loop_table.specs.Tables.{empty_table, same}
use Rattle.loop_copies.specs.declared.LoopCopy.{LoopCopy}
use Rattle.loop_copies.specs.Copies.{empty_copy, changes_of, copy_written, copy_cleared, merged_copy}
use Rattle.theorems_loop_table.specs.Calls.{
  Call,
  Write,
  Clear,
  Read,
  Play,
  Event,
  ByHall,
  ByVoice,
  Answer,
  World,
  answer_to,
  next,
  after,
}

-- a call at a box: of the table by its own hall, or of one of its voices
pub data Asked : Type 0 where
  OfTable : Call → Asked
  OfVoice : ℕ → Play → Asked

pub data Step : Type 0 where
  -- at the box of a hall
  At : Hall → Asked → Step
  -- the box of a hall sends its copy
  Sends : Hall → Step
  -- the box of a hall merges a copy that was sent: 0 is the last one, 1 the one before it; past the first one, its own
  Merges : Hall → ℕ → Step

pub record Box : Type 0 where
  pub copy : LoopCopy
  pub voices : ℕ → StaticSound

pub record Boxes : Type 0 where
  pub box : Hall → Box
  pub sent : List LoopCopy

-- the same call in a world of one table
abbrev pub event_of : Hall → Asked → Event
event_of h (OfTable c) = ByHall h c
event_of h (OfVoice i p) = ByVoice i p

abbrev pub world_of : Box → World
world_of b = record { table = b.copy.table; voices = b.voices }

abbrev pub copy_after : Hall → LoopCopy → Asked → LoopCopy
copy_after h c (OfTable (Write k s e)) = (copy_written c h k s e).copy
copy_after h c (OfTable (Clear k)) = (copy_cleared c h k).copy
copy_after h c (OfTable (Read k)) = c
copy_after h c (OfVoice i p) = c

abbrev pub put : Hall → Box → (Hall → Box) → Hall → Box
put h b f g = cond (same h g) b (f g)

abbrev pub asked : List Float → Hall → Box → Asked → Box
asked snd h b a = record { copy = copy_after h b.copy a; voices = (next snd (world_of b) (event_of h a)).voices }

abbrev pub merging : Box → LoopCopy → Box
merging b c = record { copy = (merged_copy b.copy c).copy; voices = b.voices }

abbrev pub stepped : List Float → Boxes → Step → Boxes
stepped snd w (At h a) = record { box = put h (asked snd h (w.box h) a) w.box; sent = w.sent }
stepped snd w (Sends h) = record { box = w.box; sent = (w.box h).copy ∷ w.sent }
stepped snd w (Merges h n) = record {
  box = put h (merging (w.box h) (get_or w.sent n (w.box h).copy)) w.box;
  sent = w.sent;
}

abbrev pub after_steps : List Float → Boxes → List Step → Boxes
after_steps snd w [] = w
after_steps snd w (s ∷ ss) = after_steps snd (stepped snd w s) ss

-- both boxes begin with an empty table over n frames, and any voices
abbrev pub begun : ℕ → (Hall → ℕ → StaticSound) → Boxes
begun n vs = record { box = λ h. record { copy = empty_copy n; voices = vs h }; sent = [] }

-- the results at the box of hall h of those calls that pass a test
abbrev pub answers_at : List Float → Hall → (Event → Bool) → Boxes → List Step → List Answer
answers_at snd h p w [] = []
answers_at snd h p w (At g a ∷ ss) =
    cond
    (same h g && p (event_of g a))
    (answer_to snd (world_of (w.box g)) (event_of g a) ∷ answers_at snd h p (stepped snd w (At g a)) ss)
    (answers_at snd h p (stepped snd w (At g a)) ss)
answers_at snd h p w (Sends g ∷ ss) = answers_at snd h p (stepped snd w (Sends g)) ss
answers_at snd h p w (Merges g n ∷ ss) = answers_at snd h p (stepped snd w (Merges g n)) ss

-- the calls at the box of hall h, as if it were alone
abbrev pub alone_row : Hall → List Step → List Event
alone_row h [] = []
alone_row h (At g a ∷ ss) = cond (same h g) (event_of g a ∷ alone_row h ss) (alone_row h ss)
alone_row h (Sends g ∷ ss) = alone_row h ss
alone_row h (Merges g n ∷ ss) = alone_row h ss

-- the calls of the table by both halls, as one shared table gets them
abbrev pub shared_row : List Step → List Event
shared_row [] = []
shared_row (At g (OfTable c) ∷ ss) = ByHall g c ∷ shared_row ss
shared_row (At g (OfVoice i p) ∷ ss) = shared_row ss
shared_row (Sends g ∷ ss) = shared_row ss
shared_row (Merges g n ∷ ss) = shared_row ss

-- one table with the voices of one hall
abbrev pub one_table : ℕ → (ℕ → StaticSound) → World
one_table n vs = record { table = empty_table n; voices = vs }

abbrev pub shared_table : List Float → ℕ → (ℕ → StaticSound) → List Step → LoopTable
shared_table snd n vs ss = (after snd (one_table n vs) (shared_row ss)).table

-- fewer steps than a number of 64 bits counts, so that no number of changes stays at its limit
abbrev pub Few : List Step → Type 0
Few ss = length ss ≤ 18446744073709551615

-- the box of hall g has every change that hall h has made
abbrev pub Caught : Hall → Hall → Boxes → Type 0
Caught g h w = changes_of h (w.box g).copy ≡ changes_of h (w.box h).copy
