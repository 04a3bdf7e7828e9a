-- `sound_creation::make` meets its contract: the voice before its updates is well formed over its sound, so its three updates may be made.
use mathlib.Core.Path.{◌≡◌, sym, ap, ◌∙◌, subst}
use Prim.Native.Nat.{ℕ, ◌*◌, ◌/◌, ◌%◌}
use native.Mathlib.Omega.{arith}
use mathlib.Core.List.{List}
use lib.ListN.{length}
use lib.Ieee.{Float}
use Rattle.sound_state.specs.declared.StaticSound.{StaticSound}
use Rattle.sound_update.specs.declared.Moving.{Moving}
use Rattle.sound_update.specs.declared.Slice.{Slice}
use Rattle.sound_state.specs.Voices.{slice_of, moved}
use Rattle.sound_update.specs.Updates.{updated, updates, Updatable}
use Rattle.sound_state.proofs.WellFormed.{updatable_of}
use Rattle.sound_update.proofs.Kept.{updated_updatable}
use Rattle.sound_creation.specs.declared.Settings.{Settings}
use Rattle.sound_creation.specs.Creation.{setup_of, opened, filled, transport_of, made}
use Rattle.sound_creation.proofs.Refusals.{Creatable, creatable_parts}
use Rattle.sound_creation.proofs.Makes.{setup_of_lem, opened_well_formed, transport_well_formed_transport}
use Rattle.sound_creation.proofs.make.Goals.{After-slice-slice}
use Rattle.sound_creation.proofs.make.Goals as goal

-- the voice before its updates
abbrev first : ℕ → Settings → StaticSound
first len s = opened (setup_of len s) (transport_of (setup_of len s) s) s.playback_rate s.start_waits

first-updatable : (snd : List Float) (s : Settings) → Creatable (length snd) s → Updatable snd (slice_of (first (length snd) s)) (first (length snd) s).moving
first-updatable snd s h =
    let k = setup_of (length snd) s in
    updatable_of snd (first (length snd) s)
    (opened_well_formed k (transport_of k s) s.playback_rate s.start_waits (setup_of_lem (length snd) s h) h.rate (transport_well_formed_transport (length snd) s h))
    (halved (length snd) h.even)
  where
    halved : (n : ℕ) → n % 2 ≡ 0 → n ≡ 2 * (n / 2)
    halved n e = omega arith

updatable-by : (snd : List Float) (u v : StaticSound) (c : Slice) → v ≡ u → c ≡ slice_of v → Updatable snd (slice_of u) u.moving → Updatable snd c v.moving
updatable-by snd u v c e f h = rw (f, e) h

made_of : (snd : List Float) (s : Settings) (v : StaticSound) (c : Slice) (m : Moving)
    → v ≡ first (length snd) s → c ≡ slice_of v → m ≡ updates 3 snd c v.moving → moved v v.fractional_position m ≡ made snd s
unfolding made
made_of snd s v c m e f g =
    ap (moved v v.fractional_position) (g ∙ ap (λ (c : Slice). updates 3 snd c v.moving) f) ∙ ap (filled snd) e

-- another update may be made
updatable_on : (snd : List Float) (c : Slice) (m x : Moving) → x ≡ updated snd c m → Updatable snd c m → Updatable snd c x
updatable_on snd c m x e h = subst (Updatable snd c) (sym e) (updated_updatable snd c m h)

three : (snd : List Float) (c : Slice) (m x y z : Moving) → x ≡ updated snd c m → y ≡ updated snd c x → z ≡ updated snd c y → z ≡ updates 3 snd c m
unfolding updates
three snd c m x y z e f g = g ∙ ap (updated snd c) (f ∙ ap (updated snd c) e)

updatable : (c : After-slice-slice) → Updatable c.args.sound.now c.slice-slice.result c.open-opened.result.moving
updatable c =
    let a = creatable_parts (length c.args.sound.now) c.args.settings c.requires in
    updatable-by _ _ _ _ c.open-opened.ensures c.slice-slice.ensures (first-updatable c.args.sound.now c.args.settings a)

pub update_position-second-requires : goal.update_position-second-requires
update_position-second-requires c = updatable (goal.at.update_position-second-requires c).After-slice-slice

pub update_position-third-requires : goal.update_position-third-requires
update_position-third-requires c = updatable_on _ _ _ _ c.update_position-second.ensures (updatable (goal.at.update_position-third-requires c).After-slice-slice)

pub update_position-moving-requires : goal.update_position-moving-requires
update_position-moving-requires c = updatable_on _ _ _ _ c.update_position-third.ensures (updatable_on _ _ _ _ c.update_position-second.ensures (updatable (goal.at.update_position-moving-requires c).After-slice-slice))

pub returns : goal.returns
returns c =
    made_of _ _ _ _ _ c.open-opened.ensures c.slice-slice.ensures
    (three _ _ _ _ _ _ c.update_position-second.ensures c.update_position-third.ensures c.update_position-moving.ensures)
