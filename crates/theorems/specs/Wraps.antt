-- docs/assurance/RULES.md, "What must change shape": for every loop that is not empty, the transport's remainders
-- equal kira's `while` loops, in every move and from every position.
use Rattle.std.specs.Prelude.{ℕ, ◌≡◌, T}
use Rattle.playback_position.specs.Positions.{ordered}
use Rattle.transport.specs.declared.Transport.{Transport}
use Rattle.transport.specs.Moves.{forward, backward, seek}
use Rattle.transport.specs.Rust.{increment_position, decrement_position, seek_to}

-- a loop that is not empty, or none
abbrev pub NotEmpty : Transport → Type 0
NotEmpty t = T (ordered t.loop_region)

pub record RustAgrees : Type 0 where
  pub forward : (n : ℕ) (t : Transport) → NotEmpty t → forward n t ≡ increment_position n t
  pub backward : (t : Transport) → NotEmpty t → backward t ≡ decrement_position t
  pub seek : (n : ℕ) (t : Transport) (q : ℕ) → NotEmpty t → seek n t q ≡ seek_to n t q
