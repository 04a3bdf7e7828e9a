-- `play`: lanes of the block's own length are as they are.
use mathlib.Core.Path.{◌≡◌, sym, ap, ◌∙◌, subst}
use Prim.Native.Nat.{◌/◌}
use lib.ListN.{length}
use Rattle.sound_lanes.specs.Lanes.{Lanes, lanes_of, rows}
use Rattle.sound_slow_path.specs.Plays.{plays, accepted_as}
use Rattle.sound_slow_path.specs.FrameSteps.{spread, Playable}
use Rattle.sound_slow_path.proofs.Spread.{spread_same, alike, half_of}
use Rattle.sound_slow_path.proofs.play.Goals.{Start}
use Rattle.sound_slow_path.proofs.play.Goals as goal

abbrev lent : Start → Lanes
lent c = lanes_of c.args.lanes

same : (c : Start) → spread (length c.args.out.now / 2) (lent c) ≡ lent c
same c = spread_same (lent c) _ c.requires.sized (half_of _ _ c.requires.long)

pub play_spread-requires : goal.play_spread-requires
play_spread-requires c =
    let a = c.args in
    record { alike = alike (lent (goal.at.play_spread-requires c).Start) c.requires.sized; playable = subst (λ (b : Lanes). Playable a.sound.now a.voice a.dt b (length a.out.now)) (sym (same (goal.at.play_spread-requires c).Start)) c.requires }

pub returns : goal.returns
returns c =
    let a = c.args in
    c.play_spread.ensures ∙ ap (λ (b : Lanes). accepted_as (plays a.sound.now a.dt (rows b) a.voice)) (same (goal.at.returns c).Start)
