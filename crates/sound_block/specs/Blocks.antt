-- An accepted block: applies its signals, then plays or is silent (docs/assurance/RULES.md, "Creation, commands,
-- block").
use Rattle.std.specs.Prelude.{Bool, true, false, ◌&&◌, cond, List, [], ◌∷◌, Float}
use Rattle.numbers.specs.Words.{positive_zero}
use Rattle.playback_state_manager.specs.declared.PlaybackState.{PlaybackState}
use Rattle.playback_state_manager.specs.declared.PlaybackState.TheVariants as state
use Rattle.playback_state_manager.specs.declared.StartAnswer.{StartAnswer}
use Rattle.playback_state_manager.specs.declared.StartAnswer.TheVariants as answer
use Rattle.playback_state_manager.specs.States.{settled, advancing}
use Rattle.start_time.specs.Ticks.{answering, again}
use Rattle.sound_lanes.specs.Lanes.{Lane}
use Rattle.sound_state.specs.declared.StaticSound.{StaticSound}
use Rattle.sound_slow_path.specs.Plays.{Played, plays}
use Rattle.sound_block.specs.declared.Signals.{Signals}

-- two positive zeros for each frame
unfoldable pub zeros : List Lane → List Float
zeros [] = []
zeros (l ∷ ls) = positive_zero ∷ positive_zero ∷ zeros ls

-- writes positive zeros and moves nothing; no window is read, so the count is 4
abbrev pub silent : List Lane → StaticSound → Played
silent ls v = record { voice = v; samples = zeros ls; steps = 0; lowest_count = 4 }

-- whether the sound has started; a start that has come stays
abbrev pub come : StartAnswer → Bool → Bool
come a true = true
come answer.Waiting false = false
come answer.Now false = true
come answer.Never false = false

-- never, before the start has come, leads to Stopped
abbrev pub given_up : StartAnswer → Bool → PlaybackState → PlaybackState
given_up a true s = s
given_up answer.Waiting false s = s
given_up answer.Now false s = s
given_up answer.Never false s = state.Stopped

-- the voice after its signals: the state, then the answer of the start signal
unfoldable pub begun : Signals → StaticSound → StaticSound
begun g v =
    record {
      setup = v.setup;
      playback_rate = v.playback_rate;
      started = come (answering g.start) v.started;
      fractional_position = v.fractional_position;
      moving = record {
        state = given_up (answering g.start) v.started (settled g.finished g.resume v.moving.state);
        transport = v.moving.transport;
        resampler = v.moving.resampler;
        wraps = v.moving.wraps;
      };
    }

-- started, and in a state that advances
abbrev pub live : StaticSound → Bool
live v = v.started && advancing v.moving.state

-- an accepted block
unfoldable pub block : List Float → Float → List Lane → Signals → StaticSound → Played
unfolding begun plays zeros
block snd dt ls g v = cond (live (begun g v)) (plays snd dt ls (begun g v)) (silent ls (begun g v))

-- the signals of a block's later part: not finished; for the start still waiting, or the same tick; still waiting
abbrev pub quiet : Signals → Signals
quiet g = record { finished = false; start = again g.start; resume = answer.Waiting }
