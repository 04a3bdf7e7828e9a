-- A replay can go record by record from a window of at least 575 bytes: a trace prints the line of its first record,
-- then what the rest prints from the state after it. So the size of the reader's buffer does not change the output.
use Rattle.std.specs.Prelude.{ℕ, ◌+◌, ◌≤◌, ◌≡◌, cond, List, [], ◌++◌, take, drop}
use Rattle.byte_layout.specs.Numbers.{Bytes}
use Rattle.trace_replay.specs.Runs.{Replay, step_of, printed}

-- hypothesis: bytes, and a window as wide as the longest record
pub record Window (w : ℕ) (bs : List ℕ) : Type 0 where
  pub bytes : Bytes bs
  pub wide : 575 ≤ w

abbrev pub Streams : Type 0
Streams =
    (c : Replay) (at w : ℕ) (bs : List ℕ) → Window w bs
    → let s = step_of c at (take w bs) in printed c at 0 bs
    ≡ s.line ++ cond s.over [] (printed s.replay (at + s.size) 0 (drop s.size bs))
