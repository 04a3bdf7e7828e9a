-- A window on the input is inside its buffer.
use Rattle.std.specs.Prelude.{ℕ, ◌≤◌, List, length}
use Rattle.replay.specs.declared.Window.{Window}

abbrev pub Held : Window → List ℕ → Type 0
Held w bytes = (w.at ≤ w.end) × (w.end ≤ length bytes)
