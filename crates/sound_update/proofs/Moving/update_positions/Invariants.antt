-- `update_positions` makes as many updates as it is asked to. The invariant: the remaining updates from the current state lead to the same result.
-- The moving part is in pieces, and is assembled for each update with the same loop.
use mathlib.Core.Path.{◌≡◌}
use Prim.Native.Nat.{◌-◌}
use Rattle.sound_update.specs.Updates.{updates, moving_of, Updatable}
use Rattle.sound_update.specs.Windows.{window_of}
use Rattle.sound_update.proofs.Moving.update_positions.Given as goal

abbrev pub invariant-loop : goal.invariant-loop
invariant-loop l =
    let m = moving_of l.loop_region l.state l.position l.playing l.wraps (window_of l.frames l.numbers) in
    Updatable l.sound l.slice m × (updates (l.steps - l.counter) l.sound l.slice m ≡ updates l.steps l.sound l.slice (moving_of l.loop_region l.initial.state l.initial.position l.initial.playing l.initial.wraps (window_of l.initial.frames l.initial.numbers)))
