-- From refusal 0 to all tests that an accepted command set has passed. Assumes nothing.
use mathlib.Core.Path.{◌≡◌}
use Prim.Native.Nat.{ℕ}
use mathlib.Core.Bool.{◌&&◌}
use lib.Dec.{T}
use lib.Ieee.Fits.{and_l, and_r}
use Rattle.sound_state.specs.declared.StaticSound.{StaticSound}
use Rattle.sound_state.specs.WellFormed.{well_formed_for}
use Rattle.sound_commands.specs.declared.Commands.{Commands}
use Rattle.sound_commands.specs.Commands.{loopable, rateable, seekable, target_by, target_to, refused_set}
use Rattle.sound_state.proofs.Refusals.{passed}

pub record Obeyable (len : ℕ) (v : StaticSound) (c : Commands) : Type 0 where
  pub well_formed_for : T (well_formed_for len v)
  pub loop : T (loopable v c.loop_region)
  pub rate : T (rateable c.playback_rate)
  pub by : T (seekable (target_by v) c.seek_by)
  pub to : T (seekable (target_to v) c.seek_to)

pub obeyable_parts : (len : ℕ) (v : StaticSound) (c : Commands) → refused_set len v c ≡ 0 → Obeyable len v c
unfolding refused_set
obeyable_parts len v c h =
    let x = seekable (target_by v) c.seek_by in
    let y = seekable (target_to v) c.seek_to in
    let p1 = passed (well_formed_for len v) 0 _ h in
    let p6 = passed (loopable v c.loop_region) 5 _ p1.1 in
    let p7 = passed (rateable c.playback_rate) 6 _ p6.1 in
    let p8 = passed (x && y) 7 0 p7.1 in
    record { well_formed_for = p1.0; loop = p6.0; rate = p7.0; by = and_l x y p8.0; to = and_r x y p8.0 }
