-- Updates keep the moving part well formed, so that another update may be made: the step keeps the transport, the push the window.
use mathlib.Core.Path.{◌≡◌}
use Prim.Native.Nat.{ℕ, zero, suc, ◌+◌, ◌*◌, ◌≤◌, ◌<◌}
use native.Mathlib.Nat.{le_trans}
use native.Mathlib.Omega.{arith}
use mathlib.Core.Bool.{Bool, true, false, cond}
use mathlib.Core.List.{List}
use lib.Dec.{lit≤}
use lib.ListN.{length}
use lib.Ieee.{Float}
use Rattle.numbers.specs.Frames.{most}
use Rattle.transport.specs.declared.Transport.{Transport}
use Rattle.transport.specs.Moves.{forward, backward}
use Rattle.transport.specs.WellFormed.{WellFormedTransport}
use Rattle.resampler.specs.Windows.{Windowed}
use Rattle.resampler.proofs.Windows.{push_parts}
use Rattle.sound_update.specs.declared.Moving.{Moving}
use Rattle.sound_update.specs.declared.Slice.{Slice}
use Rattle.sound_update.specs.Updates.{sounding, pushed, stepped, updated, updates, Updatable}
use Rattle.transport.proofs.WellFormed.{forward_well_formed_transport, backward_well_formed_transport}

-- the moving part is well formed over n frames
pub record Kept (n : ℕ) (m : Moving) : Type 0 where
  pub transport_well_formed : WellFormedTransport n m.transport
  pub window : Windowed m.resampler

pub stepped_well_formed_transport : (c : Slice) (t : Transport) → c.num_frames ≤ most → WellFormedTransport c.num_frames t → WellFormedTransport c.num_frames (stepped c t)
unfolding stepped
stepped_well_formed_transport c t k h = go c.backwards
  where
    go : (b : Bool) → WellFormedTransport c.num_frames (cond b (backward t) (forward c.num_frames t))
    go true = backward_well_formed_transport c.num_frames t k h
    go false = forward_well_formed_transport c.num_frames t k h

-- a push at a position in range keeps the window well formed
pub pushed_windowed : (snd : List Float) (c : Slice) (m : Moving) → m.transport.position ≤ most → Windowed m.resampler → Windowed (pushed snd c m)
unfolding pushed
pushed_windowed snd c m k h = push_parts m.resampler (sounding snd m.transport.playing (c.start + m.transport.position)) m.transport.position k h

pub updated_kept : (snd : List Float) (c : Slice) (m : Moving) → c.num_frames ≤ most → Kept c.num_frames m → Kept c.num_frames (updated snd c m)
unfolding updated
updated_kept snd c m k h =
    record {
      transport_well_formed = stepped_well_formed_transport c m.transport k h.transport_well_formed;
      window = pushed_windowed snd c m h.transport_well_formed.low h.window;
    }

pub updates_kept : (n : ℕ) (snd : List Float) (c : Slice) (m : Moving) → c.num_frames ≤ most → Kept c.num_frames m → Kept c.num_frames (updates n snd c m)
unfolding updates
updates_kept zero snd c m k h = h
updates_kept (suc n) snd c m k h = updates_kept n snd c (updated snd c m) k (updated_kept snd c m k h)

-- what an update reads is inside the sound
pub updatable_reads : (snd : List Float) (c : Slice) (m : Moving) → Updatable snd c m → m.transport.playing ≡ true → 2 * (c.start + m.transport.position) + 1 < length snd
updatable_reads snd c m h e =
    let here = h.transport_well_formed.here e in
    let inside = h.inside in
    omega arith

-- another update may be made
pub updated_updatable : (snd : List Float) (c : Slice) (m : Moving) → Updatable snd c m → Updatable snd c (updated snd c m)
unfolding updated
updated_updatable snd c m h =
    record { transport_well_formed = stepped_well_formed_transport c m.transport (le_trans h.few (lit≤ tt)) h.transport_well_formed; few = h.few; inside = h.inside }
