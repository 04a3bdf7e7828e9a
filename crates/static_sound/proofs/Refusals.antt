-- From no number to all that an accepted block has passed, and back. Assumes nothing.
use mathlib.Core.Path.{◌≡◌, refl}
use Prim.Native.Nat.{ℕ}
use mathlib.Core.Bool.{Bool, ◌&&◌}
use lib.Dec.{T}
use lib.Ieee.{Float}
use lib.Ieee.Fits.{and_i, and_l, and_r}
use Rattle.numbers.specs.Lists.{all}
use Rattle.sound_lanes.specs.Lanes.{Lanes, rows, sized, is_time_step, laned, near}
use Rattle.sound_state.specs.declared.StaticSound.{StaticSound}
use Rattle.sound_state.specs.WellFormed.{well_formed_for}
use Rattle.static_sound.specs.Entries.{refused_block}
use Rattle.sound_state.proofs.Refusals.{passed, passing}

pub record Accepted (len : ℕ) (v : StaticSound) (dt : Float) (b : Lanes) (room : Bool) : Type 0 where
  pub well_formed_for : T (well_formed_for len v)
  pub sized : T (sized b)
  pub placed : T room
  pub is_time_step : T (is_time_step dt)
  pub laned : T (all laned (rows b))
  pub near : T (all (near v.setup.sample_rate dt) (rows b))

module _ (len : ℕ) (v : StaticSound) (dt : Float) (b : Lanes) (room : Bool) where
  pub accepted_parts : refused_block len v dt b room ≡ 0 → Accepted len v dt b room
  unfolding refused_block
  accepted_parts h =
      let p1 = passed (well_formed_for len v) 0 _ h in
      let p9 = passed (sized b && room) 8 _ p1.1 in
      let p10 = passed (is_time_step dt) 9 _ p9.1 in
      let p11 = passed (all laned (rows b)) 10 _ p10.1 in
      let p12 = passed (all (near v.setup.sample_rate dt) (rows b)) 11 0 p11.1 in
      record {
        well_formed_for = p1.0;
        sized = and_l (sized b) room p9.0;
        placed = and_r (sized b) room p9.0;
        is_time_step = p10.0;
        laned = p11.0;
        near = p12.0;
      }

  pub accepted_of : Accepted len v dt b room → refused_block len v dt b room ≡ 0
  unfolding refused_block
  accepted_of h =
      passing (well_formed_for len v) 1 _ h.well_formed_for
      (passing (sized b && room) 9 _ (and_i (sized b) room h.sized h.placed)
      (passing (is_time_step dt) 10 _ h.is_time_step
      (passing (all laned (rows b)) 11 _ h.laned (passing (all (near v.setup.sample_rate dt) (rows b)) 12 0 h.near refl))))
