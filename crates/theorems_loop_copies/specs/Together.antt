-- Once each box has merged the other's last copy, both have the table that one shared table would be. No merge on the
-- way is refused.
use Rattle.std.specs.Prelude.{ℕ, ◌≡◌, List, get_or, Float}
use Rattle.sound_state.specs.declared.StaticSound.{StaticSound}
use Rattle.loop_table.specs.declared.Hall.{Hall}
use Rattle.loop_table.specs.declared.Hall.TheVariants as hall
use Rattle.loop_copies.specs.Copies.{changes_of, refused_merge}
use Rattle.theorems_loop_copies.specs.Boxes.{
  Step,
  Merges,
  Boxes,
  stepped,
  after_steps,
  begun,
  shared_table,
  Few,
  Caught,
}

abbrev pub reached : List Float → ℕ → (Hall → ℕ → StaticSound) → List Step → Boxes
reached snd n vs ss = after_steps snd (begun n vs) ss

-- ---- hypotheses

-- few steps, after which box g has all changes of both halls
pub record AllCaught (snd : List Float) (n : ℕ) (vs : Hall → ℕ
    → StaticSound) (g : Hall) (ss : List Step) : Type 0 where
  pub few : Few ss
  pub of_a : Caught g hall.A (reached snd n vs ss)
  pub of_b : Caught g hall.B (reached snd n vs ss)

-- few steps, after which the k-th copy that was sent has all of h's changes
pub record LastCopy (snd : List Float) (n : ℕ) (vs : Hall → ℕ
    → StaticSound) (g h : Hall) (ss : List Step) (k : ℕ) : Type 0 where
  pub few : Few ss
  pub all : changes_of h (get_or (reached snd n vs ss).sent k ((reached snd n vs ss).box g).copy)
      ≡ changes_of h ((reached snd n vs ss).box h).copy

-- ---- the theorems

abbrev pub Together : Type 0
Together =
    (snd : List Float) (n : ℕ) (vs : Hall → ℕ → StaticSound) (g : Hall) (ss : List Step)
    → AllCaught snd n vs g ss → ((reached snd n vs ss).box g).copy.table ≡ shared_table snd n (vs g) ss

-- a merge of a copy that has all of h's changes
abbrev pub LastCopyCatches : Type 0
LastCopyCatches =
    (snd : List Float) (n : ℕ) (vs : Hall → ℕ → StaticSound) (g h : Hall) (ss : List Step) (k : ℕ)
    → LastCopy snd n vs g h ss k → Caught g h (stepped snd (reached snd n vs ss) (Merges g k))

abbrev pub NoneRefused : Type 0
NoneRefused =
    (snd : List Float) (n : ℕ) (vs : Hall → ℕ → StaticSound) (g : Hall) (ss : List Step) (k : ℕ)
    → Few ss → refused_merge ((reached snd n vs ss).box g).copy
    (get_or (reached snd n vs ss).sent k ((reached snd n vs ss).box g).copy) ≡ 0
