-- A traced block cut into two records, the first with the block's signals, the second with none. If the block is
-- accepted, both are; the last state and position are printed as for the block. The steps add up unless the voice had
-- stopped by the cut: then the second record makes no steps.
use Rattle.std.specs.Prelude.{ℕ, ◌+◌, ◌≤◌, ◌≡◌, not, List, ◌∷◌, T, eqb, replicate}
use Rattle.trace_inputs.specs.Inputs.{block_of}
use Rattle.trace_lines.specs.Lines.{block_line}
use Rattle.trace_replay.specs.Runs.{Replay, more, answered, after}

-- the numbers of a block: frames; fade, volume, left, right; rate; time step; finished, start, resume
abbrev pub block_numbers : ℕ → ℕ → ℕ → ℕ → ℕ → ℕ → ℕ → ℕ → ℕ → ℕ → List ℕ
block_numbers n a v l r p t f s u = n ∷ a ∷ v ∷ l ∷ r ∷ p ∷ t ∷ f ∷ s ∷ u ∷ replicate 70 0

-- a state that is not Stopped, 6
abbrev pub Going : ℕ → Type 0
Going state = T (not (eqb state 6))

-- the three lines
pub record Lines (i k m : ℕ) (uncut first rest : List ℕ) : Type 0 where
  pub all : ℕ
  pub early : ℕ
  pub late : ℕ
  pub state : ℕ
  pub position : ℕ
  pub state_between : ℕ
  pub position_between : ℕ
  pub of_all : uncut ≡ block_line (more i) (k + m) all state position
  pub of_first : first ≡ block_line (more i) k early state_between position_between
  pub of_rest : rest ≡ block_line (more (more i)) m late state position
  pub sum : Going state_between → all ≡ early + late

-- hypothesis: an accepted block, with at most as many frames as a record can have
pub record MayCutRecord (c : Replay) (k m a v l r p t f s u : ℕ) : Type 0 where
  pub few : k + m ≤ 1024
  pub accepted : (answered c.sound c.voice (block_of (block_numbers (k + m) a v l r p t f s u))).refusal ≡ 0

abbrev pub CutRecords : Type 0
CutRecords =
    (c : Replay) (k m a v l r p t f s u : ℕ) → MayCutRecord c k m a v l r p t f s u
    → let uncut = after c 3 (block_numbers (k + m) a v l r p t f s u) in
    let first = after c 3 (block_numbers k a v l r p t f s u) in
    let rest = after first.replay 3 (block_numbers m a v l r p t 0 0 0) in
    Lines c.blocks k m uncut.line first.line rest.line
