-- A command set: an accepted one keeps a voice well formed over its sound. Rate and loop were checked, and a seek goes to a frame index in range.
-- By the order in which the commands act. Assumes nothing.
use Rattle.std.specs.Prelude.{Option, Some, None}
use mathlib.Core.Path.{◌≡◌, refl, sym, ap, ◌∙◌}
use Prim.Native.Nat.{ℕ, ◌*◌, ◌≤◌}
use mathlib.Core.Bool.{Bool, true, false, cond}
use mathlib.Core.List.{List}
use lib.Dec.{T}
use lib.ListN.{length}
use lib.Ieee.{Float}
use Rattle.numbers.specs.Words.{finite}
use Rattle.numbers.specs.Frames.{most, cut_off}
use Rattle.numbers.proofs.Frames.{cut_le}
use Rattle.playback_position.specs.Positions.{within}
use Rattle.playback_state_manager.specs.States.{advancing}
use Rattle.transport.proofs.WellFormed.{seek_well_formed_transport}
use Rattle.sound_state.specs.declared.Setup.{Setup}
use Rattle.sound_state.specs.declared.StaticSound.{StaticSound}
use Rattle.sound_state.specs.Voices.{length_of_slice, slice_of}
use Rattle.sound_state.specs.WellFormed.{well_formed_for, WellFormed}
use Rattle.sound_state.proofs.WellFormed.{span_most, well_formed_for_parts, well_formed_for_of, moved_well_formed}
use Rattle.sound_update.proofs.Kept.{Kept, pushed_windowed}
use Rattle.sound_commands.specs.declared.LoopCommand.{LoopCommand}
use Rattle.sound_commands.specs.declared.LoopCommand.TheVariants as loop
use Rattle.sound_commands.specs.declared.Commands.{Commands}
use Rattle.sound_commands.specs.Commands.{loopable, rateable, target_by, target_to, or_else, looped, before_seeks, jumped, refilled, sought, sought_by, sought_to, obeyed}
use Rattle.sound_commands.proofs.Refusals.{Obeyable}
use Rattle.playback_position.proofs.Ranges.{well_formed_within}

-- ---- rate and loop

looped_within : (v : StaticSound) (l : LoopCommand) → T (loopable v l) → T (within (length_of_slice v.setup) v.moving.transport.loop_region) → T (within (length_of_slice v.setup) (looped v l))
looped_within v loop.Keep k h = h
looped_within v loop.Clear k h = tt
looped_within v (loop.Set r) k h = well_formed_within v.setup.sample_rate (length_of_slice v.setup) r k

rate_finite : (a : Option Float) (x : Float) → T (rateable a) → T (finite x) → T (finite (or_else a x))
rate_finite None x k h = h
rate_finite (Some y) x k h = k

pub told_well_formed : (c : Commands) (v : StaticSound) → T (loopable v c.loop_region) → T (rateable c.playback_rate) → WellFormed v → WellFormed (before_seeks c v)
unfolding before_seeks
told_well_formed c v k r h =
    record {
      setup = h.setup;
      rate = rate_finite c.playback_rate v.playback_rate r h.rate;
      transport_well_formed = record { loop = looped_within v c.loop_region k h.transport_well_formed.loop; here = h.transport_well_formed.here; low = h.transport_well_formed.low };
      fraction = h.fraction;
      window = h.window;
    }

-- ---- seeks

pub jumped_kept : (v : StaticSound) (q : ℕ) → q ≤ most → WellFormed v → Kept (length_of_slice v.setup) (jumped v q)
jumped_kept v q k h =
    record { transport_well_formed = seek_well_formed_transport (length_of_slice v.setup) v.moving.transport q (span_most v.setup h.setup) h.transport_well_formed k; window = h.window }

pub sought_well_formed : (snd : List Float) (v : StaticSound) (q : ℕ) → q ≤ most → WellFormed v → WellFormed (sought snd v q)
unfolding sought
sought_well_formed snd v q k h = moved_well_formed v v.fractional_position _ h h.fraction (go (advancing v.moving.state))
  where
    j : Kept (length_of_slice v.setup) (jumped v q)
    j = jumped_kept v q k h

    go : (b : Bool) → Kept (length_of_slice v.setup) (cond b (refilled snd (slice_of v) (jumped v q)) (jumped v q))
    go true = record { transport_well_formed = j.transport_well_formed; window = pushed_windowed snd (slice_of v) (jumped v q) j.transport_well_formed.low h.window }
    go false = j

pub sought_setup : (snd : List Float) (v : StaticSound) (q : ℕ) → (sought snd v q).setup ≡ v.setup
unfolding sought
sought_setup snd v q = refl

pub by_well_formed : (snd : List Float) (v : StaticSound) (a : Option Float) → WellFormed v → WellFormed (sought_by snd v a)
by_well_formed snd v None h = h
by_well_formed snd v (Some x) h = sought_well_formed snd v (cut_off (target_by v x)) (cut_le (target_by v x)) h

pub by_setup : (snd : List Float) (v : StaticSound) (a : Option Float) → (sought_by snd v a).setup ≡ v.setup
by_setup snd v None = refl
by_setup snd v (Some x) = sought_setup snd v (cut_off (target_by v x))

to_well_formed : (snd : List Float) (v : StaticSound) (a : Option Float) → WellFormed v → WellFormed (sought_to snd v a)
to_well_formed snd v None h = h
to_well_formed snd v (Some x) h = sought_well_formed snd v (cut_off (target_to v x)) (cut_le (target_to v x)) h

to_setup : (snd : List Float) (v : StaticSound) (a : Option Float) → (sought_to snd v a).setup ≡ v.setup
to_setup snd v None = refl
to_setup snd v (Some x) = sought_setup snd v (cut_off (target_to v x))

-- ---- the set

pub obeyed_well_formed : (snd : List Float) (c : Commands) (v : StaticSound) → T (loopable v c.loop_region) → T (rateable c.playback_rate) → WellFormed v → WellFormed (obeyed snd c v)
unfolding obeyed
obeyed_well_formed snd c v k r h =
    let u = before_seeks c v in
    to_well_formed snd (sought_by snd u c.seek_by) c.seek_to (by_well_formed snd u c.seek_by (told_well_formed c v k r h))

pub obeyed_setup : (snd : List Float) (c : Commands) (v : StaticSound) → (obeyed snd c v).setup ≡ v.setup
unfolding obeyed before_seeks
obeyed_setup snd c v =
    let u = before_seeks c v in
    to_setup snd (sought_by snd u c.seek_by) c.seek_to ∙ by_setup snd u c.seek_by

pub obeyed_well_formed_for : (snd : List Float) (c : Commands) (v : StaticSound) → Obeyable (length snd) v c → T (well_formed_for (length snd) (obeyed snd c v))
obeyed_well_formed_for snd c v h =
    let p = well_formed_for_parts (length snd) v h.well_formed_for in
    well_formed_for_of (length snd) (obeyed snd c v) (obeyed_well_formed snd c v h.loop h.rate p.0)
    (p.1 ∙ ap (λ (k : Setup). 2 * k.num_frames) (sym (obeyed_setup snd c v)))
