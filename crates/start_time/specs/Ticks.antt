-- A start that is due at a 32-bit tick, which wraps (request #112): when it is reached, the answer of a start signal,
-- and the signal of a block's later part.
use Rattle.std.specs.Prelude.{ℕ, ◌+◌, ◌-◌, ◌%◌, Bool, cond, nat_lt}
use Rattle.playback_state_manager.specs.declared.StartAnswer.{StartAnswer}
use Rattle.playback_state_manager.specs.declared.StartAnswer.TheVariants as answer
use Rattle.start_time.specs.declared.StartSignal.{StartSignal}
use Rattle.start_time.specs.declared.StartSignal.TheVariants as start

-- all ticks, 2 ^ 32, and half of them
abbrev pub tick_range : ℕ
tick_range = 4294967296

abbrev pub half : ℕ
half = 2147483648

-- now minus due, wrapped to 32 bits
abbrev pub since : ℕ → ℕ → ℕ
since due now = (now + (tick_range - due)) % tick_range

-- whether a due tick is reached; exactly half the range away is not
abbrev pub reached : ℕ → ℕ → Bool
reached due now = nat_lt (since due now) half

-- the answer that a start signal means: a due tick that is reached means now, any other still waiting
abbrev pub answering : StartSignal → StartAnswer
answering (start.Answer a) = a
answering (start.Tick due now) = cond (reached due now) answer.Now answer.Waiting

-- the start signal of a block's later part: still waiting, or the same tick
abbrev pub again : StartSignal → StartSignal
again (start.Answer a) = start.Answer answer.Waiting
again (start.Tick due now) = start.Tick due now
