-- One input for each hypothesis: two boxes that have made no step, and a copy that was sent.
use Rattle.std.specs.Prelude.{ℕ, List, [], ◌∷◌}
use Rattle.sound_state.specs.declared.StaticSound.{StaticSound}
use Rattle.sound_creation.specs.Creation.{blank_sound}
use Rattle.loop_table.specs.declared.Hall.{Hall}
use Rattle.loop_table.specs.declared.Hall.TheVariants as hall
use Rattle.loop_copies.specs.declared.LoopCopy.{LoopCopy}
use Rattle.loop_copies.specs.Copies.{empty_copy}
use Rattle.theorems_loop_copies.specs.Boxes.{Step, Sends, Few}
use Rattle.theorems_loop_copies.specs.Merging.{TwoCopies, MayMerge, WellFormedCopy, MayMergeAll, SameNumber}
use Rattle.theorems_loop_copies.specs.AsAlone.{OwnLoops}
use Rattle.theorems_loop_copies.specs.Together.{AllCaught, LastCopy}

abbrev pub ten : LoopCopy
ten = empty_copy 10

abbrev pub blanks : Hall → ℕ → StaticSound
blanks h i = blank_sound

abbrev pub one_sent : List Step
one_sent = Sends hall.B ∷ []

pub record Witnesses : Type 0 where
  pub never_back : TwoCopies ten ten × SameNumber ten ten hall.A
  pub any_order : MayMerge ten ten
  pub any_times : WellFormedCopy ten
  pub any_grouping : MayMergeAll ten ten ten
  pub as_alone : OwnLoops hall.A 0 one_sent
  pub together : AllCaught [] 10 blanks hall.A one_sent
  pub last_copy_catches : LastCopy [] 10 blanks hall.A hall.B one_sent 0
  pub none_refused : Few one_sent
