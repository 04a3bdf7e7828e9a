-- The order of steps in a loop does not matter. While a transport plays with its position p inside its loop (s, e), f
-- forward and b backward steps, in any order, lead to s + ((p - s + f - b) mod L), the remainder never negative; and
-- after each of them it still plays, inside that loop. This is about the position; the wraps depend on the order:
-- from 0 in the loop (0, 2), forward then back does not wrap, back then forward wraps once each way. So one step
-- forward and one back return to the same position, and permuted sequences of steps end at the same position.
use Rattle.std.specs.Prelude.{ℕ, suc, ◌+◌, ◌-◌, ◌≤◌, ◌≡◌, List, [], ◌∷◌, take}
use Rattle.transport.specs.declared.Transport.{Transport}
use Rattle.transport.specs.Moves.{cycled, forward, backward}
use Rattle.transport.specs.WellFormed.{Inside}

pub data Step : Type 0 where
  Forward Backward : Step

-- f, the forward steps of a sequence
abbrev pub forwards : List Step → ℕ
forwards [] = 0
forwards (Forward ∷ l) = suc (forwards l)
forwards (Backward ∷ l) = forwards l

-- b, the backward ones
abbrev pub backwards : List Step → ℕ
backwards [] = 0
backwards (Forward ∷ l) = backwards l
backwards (Backward ∷ l) = suc (backwards l)

-- one step in n frames
abbrev pub step : ℕ → Step → Transport → Transport
step n Forward t = forward n t
step n Backward t = backward t

-- a sequence of steps, the first one first
unfoldable pub walked : ℕ → List Step → Transport → Transport
walked n [] t = t
walked n (k ∷ l) t = walked n l (step n k t)

-- for a sequence of steps from t in the loop (s, e)
pub record WalkInLoop (n s e : ℕ) (l : List Step) (t : Transport) : Type 0 where
  pub place : (walked n l t).position ≡ s + cycled (t.position - s + forwards l) (backwards l) (e - s)
  pub inside : (k : ℕ) → Inside s e (walked n (take k l) t)

-- hypothesis: a transport that plays inside its loop, which is inside the n frames
pub record InLoop (n s e : ℕ) (t : Transport) : Type 0 where
  pub fits : e ≤ n
  pub inside : Inside s e t

abbrev pub AnyOrder : Type 0
AnyOrder = (n s e : ℕ) (l : List Step) (t : Transport) → InLoop n s e t → WalkInLoop n s e l t

abbrev pub ThereAndBack : Type 0
ThereAndBack = (n s e : ℕ) (t : Transport) → InLoop n s e t → (backward (forward n t) ≡ t)
    × (forward n (backward t) ≡ t)

-- the same steps in another order
pub data Permuted : List Step → List Step → Type 0 where
  none : Permuted [] []
  kept : (k : Step) (l m : List Step) → Permuted l m → Permuted (k ∷ l) (k ∷ m)
  swapped : (j k : Step) (l : List Step) → Permuted (j ∷ k ∷ l) (k ∷ j ∷ l)
  then : (l m r : List Step) → Permuted l m → Permuted m r → Permuted l r

pub record Rearranged (n s e : ℕ) (l m : List Step) (t : Transport) : Type 0 where
  pub loop : InLoop n s e t
  pub permuted : Permuted l m

abbrev pub Permutations : Type 0
Permutations = (n s e : ℕ) (l m : List Step) (t : Transport) → Rearranged n s e l m t → walked n l t ≡ walked n m t
