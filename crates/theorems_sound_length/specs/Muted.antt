-- A voice, a result or a call without samples: each sample that comes from a sound is replaced by +0. A push without a
-- frame puts a frame of +0 into the window, whatever the sound, and a well formed voice has such frames from its count
-- on. So muting replaces only the entries before the count; the others show whether the voice is well formed.
use Rattle.std.specs.Prelude.{ℕ, zero, suc, ◌≡◌, List, [], ◌∷◌, map, Float}
use Rattle.numbers.specs.Words.{positive_zero}
use Rattle.frame.specs.Frames.{last_zero}
use Rattle.resampler.specs.declared.RecentFrame.{RecentFrame}
use Rattle.resampler.specs.declared.Resampler.{Resampler}
use Rattle.sound_update.specs.declared.Moving.{Moving}
use Rattle.sound_state.specs.declared.StaticSound.{StaticSound}
use Rattle.sound_creation.specs.Creation.{Created}
use Rattle.sound_commands.specs.Commands.{CommandsAnswer}
use Rattle.sound_slow_path.specs.Plays.{BlockAnswer}

-- ---- a voice

-- an entry keeps its frame index
abbrev pub muted_entry : RecentFrame → RecentFrame
muted_entry r = record { frame = last_zero; frame_index = r.frame_index }

-- a function on the first t entries of a list; the others do not change
abbrev pub on_first : {A : Type 0} → (A → A) → ℕ → List A → List A
on_first f zero xs = xs
on_first f (suc t) [] = []
on_first f (suc t) (x ∷ xs) = f x ∷ on_first f t xs

abbrev pub muted_window : Resampler → Resampler
muted_window w =
    record {
      frames = on_first muted_entry w.time_until_empty w.frames;
      time_until_empty = w.time_until_empty;
    }

abbrev pub muted_moving : Moving → Moving
muted_moving m =
    record {
      state = m.state;
      transport = m.transport;
      resampler = muted_window m.resampler;
      wraps = m.wraps;
    }

abbrev pub muted : StaticSound → StaticSound
muted v =
    record {
      setup = v.setup;
      playback_rate = v.playback_rate;
      started = v.started;
      fractional_position = v.fractional_position;
      moving = muted_moving v.moving;
    }

-- two voices differ only in samples of a sound
abbrev pub AlikeButForSamples : StaticSound → StaticSound → Type 0
AlikeButForSamples v w = muted v ≡ muted w

-- ---- results

abbrev pub muted_created : Created → Created
muted_created a = record { refusal = a.refusal; voice = muted a.voice }

abbrev pub muted_commanded : CommandsAnswer → CommandsAnswer
muted_commanded a = record { refusal = a.refusal; voice = muted a.voice; position = a.position }

abbrev pub muted_processed : BlockAnswer → BlockAnswer
muted_processed a =
    record {
      refusal = a.refusal;
      voice = muted a.voice;
      steps = a.steps;
      lowest_count = a.lowest_count;
    }

-- ---- samples that a caller passes

-- as many samples, all +0
abbrev pub silence : List Float → List Float
silence xs = map (λ (x : Float). positive_zero) xs
