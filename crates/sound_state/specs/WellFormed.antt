-- When a voice is well formed (docs/assurance/RULES.md, "Numbers and their refusals"): as a test, and as named facts.
use Rattle.std.specs.Prelude.{ℕ, ◌*◌, Bool, ◌&&◌, T, leb, ltb, eqb}
use Rattle.numbers.specs.Words.{finite, proper}
use Rattle.playback_position.specs.Positions.{within}
use Rattle.transport.specs.WellFormed.{well_formed_transport, WellFormedTransport}
use Rattle.resampler.specs.Windows.{windowed, Windowed}
use Rattle.sound_state.specs.declared.Setup.{Setup}
use Rattle.sound_state.specs.declared.StaticSound.{StaticSound}
use Rattle.sound_state.specs.Voices.{length_of_slice}

-- refusals 2, 3 and 4 do not apply to the recorded values
abbrev pub well_formed_setup : Setup → Bool
well_formed_setup k = (ltb 0 k.sample_rate && leb k.sample_rate 768000)
    && (ltb 0 k.num_frames && leb k.num_frames 16777216) && within k.num_frames k.slice

-- the voice itself
unfoldable pub well_formed : StaticSound → Bool
well_formed v = well_formed_setup v.setup && finite v.playback_rate
    && well_formed_transport (length_of_slice v.setup) v.moving.transport && proper v.fractional_position
    && windowed v.moving.resampler

-- and the sound's length, in samples, is the recorded one
unfoldable pub well_formed_for : ℕ → StaticSound → Bool
unfolding well_formed
well_formed_for len v = well_formed v && eqb len (2 * v.setup.num_frames)

-- the same as facts
pub record WellFormed (v : StaticSound) : Type 0 where
  pub setup : T (well_formed_setup v.setup)
  pub rate : T (finite v.playback_rate)
  pub transport_well_formed : WellFormedTransport (length_of_slice v.setup) v.moving.transport
  pub fraction : T (proper v.fractional_position)
  pub window : Windowed v.moving.resampler
