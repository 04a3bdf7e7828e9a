-- The transports that the examples begin with: docs/assurance/RULES.md, "Marked examples".
use Rattle.std.specs.Prelude.{ℕ, true, Some, None}
use Rattle.transport.specs.declared.Transport.{Transport}

-- playing at p in the loop (s, e)
abbrev pub at : ℕ → ℕ → ℕ → Transport
at p s e = record { position = p; loop_region = Some (s, e); playing = true }

-- playing at p with no loop
abbrev pub plain : ℕ → Transport
plain p = record { position = p; loop_region = None; playing = true }
