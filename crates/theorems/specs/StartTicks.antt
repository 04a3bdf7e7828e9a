-- Start ticks that wrap (request #112). For any due tick exactly half of all ticks are reached, and moving both ticks
-- by the same amount, past the wrap or not, changes nothing. After an accepted block a voice has started exactly if
-- it had before or if the block's due tick is reached, in any state and with any number of frames. So a start that
-- has come stays, even if the tick goes back. A refused block does not change the voice (Kept).
use Rattle.std.specs.Prelude.{ℕ, zero, suc, ◌+◌, ◌%◌, ◌<◌, ◌≡◌, Bool, ◌||◌, cond, List, Float}
use Rattle.sound_lanes.specs.Lanes.{Lanes}
use Rattle.sound_state.specs.declared.StaticSound.{StaticSound}
use Rattle.start_time.specs.declared.StartSignal.TheVariants.{Tick}
use Rattle.start_time.specs.Ticks.{tick_range, half, reached}
use Rattle.sound_block.specs.declared.Signals.{Signals}
use Rattle.static_sound.specs.Entries.{processed, processed_into}
use Rattle.sound_slow_path.specs.Plays.{BlockAnswer}
use Rattle.theorems.specs.Accepted.{AcceptedBlock, AcceptedMix}

-- how many numbers below n pass a test
unfoldable pub how_many : (ℕ → Bool) → ℕ → ℕ
how_many p zero = 0
how_many p (suc n) = cond (p n) 1 0 + how_many p n

abbrev pub IsTick : ℕ → Type 0
IsTick due = due < tick_range

abbrev pub AreTicks : ℕ → ℕ → Type 0
AreTicks due now = IsTick due × IsTick now

abbrev pub HalfReached : Type 0
HalfReached = (due : ℕ) → IsTick due → how_many (λ (now : ℕ). reached due now) tick_range ≡ half

abbrev pub MovedTogether : Type 0
MovedTogether = (due now k : ℕ) → AreTicks due now →
    reached ((due + k) % tick_range) ((now + k) % tick_range) ≡ reached due now

-- hypothesis: an accepted block with a due tick
pub record Due (snd : List Float) (v : StaticSound) (dt : Float) (b : Lanes) (g : Signals) (out : List Float)
    (due now : ℕ) : Type 0 where
  pub accepted : AcceptedBlock snd v dt b g out
  pub tick : g.start ≡ Tick due now

pub record DueMix (snd : List Float) (v : StaticSound) (dt : Float) (b : Lanes) (g : Signals) (mix : List Float)
    (from due now : ℕ) : Type 0 where
  pub accepted : AcceptedMix snd v dt b g mix from
  pub tick : g.start ≡ Tick due now

-- whether the returned voice has started
abbrev pub StartsBy : StaticSound → ℕ → ℕ → BlockAnswer → Type 0
StartsBy v due now a = a.voice.started ≡ (v.started || reached due now)

abbrev pub TickStarts : Type 0
TickStarts =
    (snd : List Float) (v : StaticSound) (dt : Float) (b : Lanes) (g : Signals) (out : List Float) (due now : ℕ)
    → Due snd v dt b g out due now → StartsBy v due now (processed snd v dt b g out).answer

abbrev pub MixTickStarts : Type 0
MixTickStarts =
    (snd : List Float) (v : StaticSound) (dt : Float) (b : Lanes) (g : Signals) (mix : List Float) (from due now : ℕ)
    → DueMix snd v dt b g mix from due now → StartsBy v due now (processed_into snd v dt b g mix from).answer
