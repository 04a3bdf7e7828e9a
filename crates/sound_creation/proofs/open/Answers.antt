-- `sound_creation::open` meets its contract: an accepted start lies below N, and each part is made by its function.
use Rattle.std.specs.Prelude.{Option}
use mathlib.Core.Path.{◌≡◌, ap, ◌∙◌}
use Prim.Native.Nat.{ℕ}
use mathlib.Core.Bool.{Bool, not}
use lib.Ieee.{Float, of_bits}
use Rattle.numbers.specs.Words.{positive_zero}
use Rattle.playback_position.specs.Positions.{position_in_frames}
use Rattle.playback_state_manager.specs.declared.PlaybackState.TheVariants as state
use Rattle.transport.specs.declared.Transport.{Transport}
use Rattle.transport.specs.Moves.{begun}
use Rattle.resampler.specs.declared.Resampler.{Resampler}
use Rattle.resampler.specs.Windows.{fresh}
use Rattle.sound_update.specs.Updates.{uncounted}
use Rattle.sound_state.specs.declared.Setup.{Setup}
use Rattle.sound_state.specs.declared.StaticSound.{StaticSound}
use Rattle.sound_state.specs.Voices.{length_of_slice}
use Rattle.sound_creation.specs.declared.Settings.{Settings}
use Rattle.sound_creation.specs.Creation.{ranged, setup_of, opened, transport_of}
use Rattle.sound_creation.proofs.Refusals.{creatable_parts}
use Rattle.sound_creation.proofs.open.Goals as goal

begun-with : (len : ℕ) (s : Settings) (n start : ℕ) (r : Option (ℕ × ℕ))
    → n ≡ length_of_slice (setup_of len s) → start ≡ position_in_frames s.sample_rate s.start_position → r ≡ ranged s.sample_rate n s.loop_region
    → begun n s.reverse r start ≡ transport_of (setup_of len s) s
begun-with len s n start r e f g = rw (g, f, e)

opened_with : (k j : Setup) (t u : Transport) (w : Resampler) (rate : Float) (waits : Bool) → k ≡ j → t ≡ u → w ≡ fresh t.position
    → ◌≡◌ {A = StaticSound}
    (record {
      setup = k;
      playback_rate = rate;
      started = not waits;
      fractional_position = positive_zero;
      moving = record { state = state.Playing; transport = t; resampler = w; wraps = uncounted };
    })
    (opened j u rate waits)
opened_with k j t u w rate waits e f g = rw (g, f, e)

pub new-transport-requires : goal.new-transport-requires
new-transport-requires c =
    rw (c.into_samples.ensures, c.num_frames-num_frames.ensures ∙ ap length_of_slice c.setup_of-setup.ensures) (creatable_parts c.args.samples c.args.settings c.requires).start_inside

pub returns : goal.returns
unfolding of_bits
returns c =
    let a = c.args in
    -- N is the slice's length, or all frames
    let counted = c.num_frames-num_frames.ensures ∙ ap length_of_slice c.setup_of-setup.ensures in
    opened_with _ _ _ _ _ _ a.settings.start_waits c.setup_of-setup.ensures
    (c.new-transport.ensures ∙ begun-with a.samples a.settings _ _ _ counted c.into_samples.ensures c.into_frames.ensures)
    c.new-resampler.ensures
