-- Each box behaves as if it were alone: whatever the other hall does, and whatever copies are sent, lost, repeated,
-- late or out of order, a hall's own results and slots, and the frames of its voices that take loops only from its
-- own slots, are those of a table that nobody else uses.
use Rattle.std.specs.Prelude.{ℕ, ◌≡◌, List, T, Float}
use Rattle.numbers.specs.Lists.{all}
use Rattle.sound_state.specs.declared.StaticSound.{StaticSound}
use Rattle.loop_table.specs.declared.Hall.{Hall}
use Rattle.loop_table.specs.Tables.{half}
use Rattle.theorems_loop_table.specs.Calls.{after, answers, only}
use Rattle.theorems_loop_table.specs.Apart.{concerns, takes_from}
use Rattle.theorems_loop_copies.specs.Boxes.{Step, after_steps, begun, answers_at, alone_row, one_table, Few}

pub record Alone (snd : List Float) (n : ℕ) (vs : Hall → ℕ
    → StaticSound) (h : Hall) (i : ℕ) (ss : List Step) : Type 0 where
  pub answered : answers_at snd h (concerns h i) (begun n vs) ss
      ≡ answers snd (concerns h i) (one_table n (vs h)) (alone_row h ss)
  pub slots : half h ((after_steps snd (begun n vs) ss).box h).copy.table
      ≡ half h (after snd (one_table n (vs h)) (alone_row h ss)).table
  pub voice : ((after_steps snd (begun n vs) ss).box h).voices i
      ≡ (after snd (one_table n (vs h)) (alone_row h ss)).voices i

-- hypothesis: few steps, in which voice i of hall h takes loops only from h's slots
pub record OwnLoops (h : Hall) (i : ℕ) (ss : List Step) : Type 0 where
  pub few : Few ss
  pub own : T (all (takes_from h) (only (concerns h i) (alone_row h ss)))

abbrev pub AsAlone : Type 0
AsAlone =
    (snd : List Float) (n : ℕ) (vs : Hall → ℕ → StaticSound) (h : Hall) (i : ℕ) (ss : List Step)
    → OwnLoops h i ss → Alone snd n vs h i ss
