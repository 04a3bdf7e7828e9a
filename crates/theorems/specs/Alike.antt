-- How the two parts of a cut block compare with the whole block: in every case, and if the voice has not stopped by
-- the cut. A voice that has stopped goes on in the rest of an uncut block, where only its fraction and its window's
-- frame indices change (docs/assurance/RULES.md, "Creation, commands, block").
use Rattle.std.specs.Prelude.{◌+◌, ◌≡◌, Bool, not, map, T, eqb}
use Rattle.numbers.specs.Words.{positive_zero}
use Rattle.resampler.specs.declared.RecentFrame.{RecentFrame}
use Rattle.resampler.specs.declared.Resampler.{Resampler}
use Rattle.playback_state_manager.specs.States.{number}
use Rattle.sound_state.specs.declared.StaticSound.{StaticSound}
use Rattle.sound_slow_path.specs.Plays.{BlockAnswer}
use Rattle.sound_slow_path.specs.Plays.{lower}

-- the entry without its frame index
abbrev pub unnumbered : RecentFrame → RecentFrame
unnumbered r = record { frame = r.frame; frame_index = 0 }

abbrev pub unnumbered_window : Resampler → Resampler
unnumbered_window w = record { frames = map unnumbered w.frames; time_until_empty = w.time_until_empty }

-- the voice without its fraction and its window's frame indices
abbrev pub bare : StaticSound → StaticSound
bare v =
    record {
      setup = v.setup;
      playback_rate = v.playback_rate;
      started = v.started;
      fractional_position = positive_zero;
      moving = record {
        state = v.moving.state;
        transport = v.moving.transport;
        resampler = unnumbered_window v.moving.resampler;
        wraps = v.moving.wraps;
      };
    }

-- not Stopped
abbrev pub awake : StaticSound → Bool
awake v = not (eqb (number v.moving.state) 6)

abbrev pub Awake : StaticSound → Type 0
Awake v = T (awake v)

-- the results of the two parts against the result of the whole
pub record Parts (uncut first rest : BlockAnswer) : Type 0 where
  -- both parts are accepted
  pub accepted : (first.refusal ≡ 0) × (rest.refusal ≡ 0)
  -- unless the voice has stopped by the cut, the state after and the steps are the same
  pub same : Awake first.voice → (uncut.voice ≡ rest.voice) × (uncut.steps ≡ first.steps + rest.steps)
  -- and the whole reports the lower of the two counts
  pub lowest : Awake first.voice → uncut.lowest_count ≡ lower first.lowest_count rest.lowest_count
  -- in every case the states after agree in everything but the fraction and the window's frame indices
  pub alike : bare uncut.voice ≡ bare rest.voice
