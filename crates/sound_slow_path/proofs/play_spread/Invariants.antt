-- `play_spread` plays every frame and stores its two samples. The invariant: what is played so far is the definition's of the lanes so far.
use Prim.Native.Nat.{ℕ, ◌*◌, ◌/◌, ◌≤◌}
use mathlib.Core.Path.{◌≡◌}
use mathlib.Core.List.{List}
use lib.ListN.{length, take}
use lib.Ieee.{Float}
use Rattle.sound_lanes.specs.Lanes.{Lanes, lanes_of, rows}
use Rattle.sound_update.specs.declared.Moving.{Moving}
use Rattle.sound_state.specs.declared.StaticSound.{StaticSound}
use Rattle.sound_state.specs.Voices.{moved}
use Rattle.sound_state.specs.WellFormed.{WellFormed}
use Rattle.sound_slow_path.specs.Plays.{plays}
use Rattle.sound_slow_path.specs.FrameSteps.{spread}
use Rattle.sound_slow_path.proofs.Loops.{played}
use Rattle.sound_slow_path.proofs.play_spread.Given as goal

pub record Sofar (snd : List Float) (dt : Float) (b : Lanes) (v : StaticSound) (i : ℕ) (out₀ out : List Float) (m : Moving) (f : Float) (steps low : ℕ) : Type 0 where
  pub within : i ≤ length b.rate
  pub few : steps ≤ 257 * i
  pub as_long : length out ≡ length out₀
  pub well_formed : WellFormed (moved v f m)
  pub so_far_lem : plays snd dt (take i (rows b)) v ≡ played (moved v f m) (take (2 * i) out) steps low

abbrev pub invariant-loop-i : goal.invariant-loop-i
invariant-loop-i l =
    Sofar l.sound l.dt (spread (length l.initial.out / 2) (lanes_of l.fn.lanes)) l.voice l.i l.initial.out l.out l.moving l.fractional_position l.steps l.lowest_count
