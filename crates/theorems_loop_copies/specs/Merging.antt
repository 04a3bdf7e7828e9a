-- The merge of two copies: it never goes back, and it does not matter in which order or how often copies are merged.
use Rattle.std.specs.Prelude.{◌≡◌, true, ◌≤◌, length}
use Rattle.loop_table.specs.declared.Hall.{Hall}
use Rattle.loop_table.specs.Tables.{well_formed_table, half}
use Rattle.loop_copies.specs.declared.LoopCopy.{LoopCopy}
use Rattle.loop_copies.specs.Copies.{changes_of, refused_merge, merged_copy}

-- an array of sixteen slots has sixteen
abbrev pub Sixteen : LoopCopy → Type 0
Sixteen c = length c.table.slots ≡ 16

-- ---- hypotheses

pub record TwoCopies (c d : LoopCopy) : Type 0 where
  pub ours : Sixteen c
  pub theirs : Sixteen d

-- two copies whose merge is accepted
pub record MayMerge (c d : LoopCopy) : Type 0 where
  pub ours : Sixteen c
  pub theirs : Sixteen d
  pub accepted : refused_merge c d ≡ 0

pub record WellFormedCopy (c : LoopCopy) : Type 0 where
  pub sixteen : Sixteen c
  pub well_formed : well_formed_table c.table ≡ true

-- three copies of which any two may be merged
pub record MayMergeAll (c d e : LoopCopy) : Type 0 where
  pub first : MayMerge c d
  pub second : MayMerge d e
  pub third : MayMerge c e

-- the hall's number does not change
abbrev pub SameNumber : LoopCopy → LoopCopy → Hall → Type 0
SameNumber c d h = changes_of h (merged_copy c d).copy ≡ changes_of h c

-- ---- the theorems

-- no number falls, and a half changes only if its number rises
pub record Forward (c d : LoopCopy) (h : Hall) : Type 0 where
  pub number : changes_of h c ≤ changes_of h (merged_copy c d).copy
  pub kept : SameNumber c d h → half h (merged_copy c d).copy.table ≡ half h c.table

abbrev pub NeverBack : Type 0
NeverBack = (c d : LoopCopy) (h : Hall) → TwoCopies c d → Forward c d h

abbrev pub AnyOrder : Type 0
AnyOrder = (c d : LoopCopy) → MayMerge c d → merged_copy d c ≡ merged_copy c d

abbrev pub AnyTimes : Type 0
AnyTimes = (c : LoopCopy) → WellFormedCopy c → merged_copy c c ≡ record { copy = c; refusal = 0 }

abbrev pub AnyGrouping : Type 0
AnyGrouping =
    (c d e : LoopCopy) → MayMergeAll c d e
    → merged_copy (merged_copy c d).copy e ≡ merged_copy c (merged_copy d e).copy
