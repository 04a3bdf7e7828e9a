-- Saved settings over eight words (request #113): start, has_loop, loop_start, loop_end, reverse, the rate's bits,
-- pitch, version.
use Rattle.std.specs.Prelude.{ℕ, cond, List, [], ◌∷◌, eqb, get_or, Float}
use Rattle.std.specs.Float.{nan, binary64}
use Rattle.std.specs.Float.Ieee.{of_bits}
use Rattle.numbers.specs.Words.{positive_zero}
use Rattle.saved_settings.specs.declared.SavedSettings.{SavedSettings}
use Rattle.saved_settings.specs.Records.{Loaded, finite_bits}
use Rattle.semitones.specs.Ratios.{raised_by}
use Rattle.c_inputs.specs.declared.CableowlPlace.{CableowlPlace}
use Rattle.c_inputs.specs.declared.CableowlRegion.{CableowlRegion}
use Rattle.c_inputs.specs.declared.CableowlSettings.{CableowlSettings}

abbrev pub saved_in : List ℕ → SavedSettings
saved_in ws =
    record {
      start = get_or ws 0 0;
      has_loop = get_or ws 1 0;
      loop_start = get_or ws 2 0;
      loop_end = get_or ws 3 0;
      reverse = get_or ws 4 0;
      rate = get_or ws 5 0;
      pitch = get_or ws 6 0;
    }

abbrev pub version_in : List ℕ → ℕ
version_in ws = get_or ws 7 0

abbrev pub words_of : Loaded → List ℕ
words_of l =
    let s = l.settings in
    s.start ∷ s.has_loop ∷ s.loop_start ∷ s.loop_end ∷ s.reverse ∷ s.rate ∷ s.pitch ∷ l.version ∷ []

-- the held rate; NaN if the rate is not finite or the pitch is not -24 to 24
abbrev pub rate_of : ℕ → ℕ → Float
rate_of bits pitch = cond (finite_bits bits) (raised_by (of_bits binary64 bits) pitch) nan

-- 0 or 1 unchanged; any other number becomes 2, which creation refuses for a loop and reads as yes for a flag
abbrev pub tag_of : ℕ → ℕ
tag_of word = cond (eqb word 0) 0 (cond (eqb word 1) 1 2)

abbrev pub frame_at : ℕ → CableowlPlace
frame_at n = record { seconds = positive_zero; samples = n; kind = 1 }

abbrev pub region_at : ℕ → ℕ → CableowlRegion
region_at a b = record { start = frame_at a; end = frame_at b }

abbrev pub settings_from : List ℕ → ℕ → CableowlSettings
settings_from ws hz =
    record {
      sample_rate = hz;
      has_slice = 0;
      has_loop = tag_of (get_or ws 1 0);
      reverse = tag_of (get_or ws 4 0);
      start_waits = 0;
      playback_rate = rate_of (get_or ws 5 0) (get_or ws 6 0);
      start = frame_at (get_or ws 0 0);
      slice = region_at 0 0;
      loop_region = region_at (get_or ws 2 0) (get_or ws 3 0);
    }
