-- `play`: lanes of one frame, which apply to every frame, are the numbers given once.
use mathlib.Core.Path.{◌≡◌, refl, sym, ap, ◌∙◌, subst}
use Prim.Native.Nat.{ℕ}
use lib.ListN.{length}
use Rattle.sound_lanes.specs.Lanes.{Lanes, rows}
use Rattle.sound_slow_path.specs.Plays.{plays, accepted_as}
use Rattle.sound_slow_path.specs.FrameSteps.{Alike, Playable, spread}
use Rattle.sound_held.specs.declared.Held.{Held}
use Rattle.sound_held.specs.Held.{held_lanes}
use Rattle.sound_held.proofs.play.Goals as goal

-- spread over n frames, the lanes of one frame repeat its numbers
spread_once : (x : Held) (n : ℕ) (b : Lanes) → b ≡ held_lanes x 1 → spread n b ≡ held_lanes x n
unfolding spread
spread_once x n b e = ap (spread n) e

alike_once : (x : Held) (b : Lanes) → b ≡ held_lanes x 1 → Alike b
alike_once x b e = subst Alike (sym e) (record { fade = refl; volume = refl; left = refl; right = refl })

pub play_spread-requires : goal.play_spread-requires
play_spread-requires c =
    record {
      alike = alike_once c.args.held _ c.lanes-lanes.ensures;
      playable =
          subst (λ (b : Lanes). Playable c.args.sound.now c.args.voice c.args.dt b (length c.args.out.now)) (sym (spread_once c.args.held _ _ c.lanes-lanes.ensures)) c.requires;
    }

pub returns : goal.returns
returns c =
    c.play_spread.ensures ∙ ap (λ (b : Lanes). accepted_as (plays c.args.sound.now c.args.dt (rows b) c.args.voice)) (spread_once c.args.held _ _ c.lanes-lanes.ensures)
