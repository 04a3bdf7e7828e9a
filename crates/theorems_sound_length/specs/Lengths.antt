-- The same calls over two sounds of equal length return the same refusals, steps, lowest counts and positions, and
-- voices that differ only in samples of their windows. So a trace can be replayed and audited without its sound.
use Rattle.std.specs.Prelude.{ℕ, ◌≡◌, List, length, Float}
use Rattle.sound_lanes.specs.Lanes.{Lanes}
use Rattle.sound_state.specs.declared.StaticSound.{StaticSound}
use Rattle.sound_creation.specs.declared.Settings.{Settings}
use Rattle.sound_creation.specs.Creation.{created}
use Rattle.sound_commands.specs.declared.Commands.{Commands}
use Rattle.sound_commands.specs.Commands.{commanded}
use Rattle.sound_held.specs.declared.Held.{Held}
use Rattle.sound_block.specs.declared.Signals.{Signals}
use Rattle.sound_slow_path.specs.Plays.{Outcome}
use Rattle.static_sound.specs.Entries.{processed, processed_into, processed_held, processed_held_into}
use Rattle.loop_table.specs.declared.LoopTable.{LoopTable}
use Rattle.take_loop.specs.Taking.{taken}
use Rattle.theorems_sound_length.specs.Muted.{AlikeButForSamples, muted_created, muted_commanded, muted_processed}

abbrev pub SameLength : List Float → List Float → Type 0
SameLength xs ys = length xs ≡ length ys

-- hypothesis about a call: another sound of the same length, and a voice that differs only in samples
pub record OtherSound (snd other : List Float) (v w : StaticSound) : Type 0 where
  pub samples : SameLength snd other
  pub voices : AlikeButForSamples v w

-- and about a block: an output of the same length; its contents do not matter
pub record OtherBlock (snd other : List Float) (v w : StaticSound) (out into : List Float) : Type 0 where
  pub sound : OtherSound snd other v w
  pub output : SameLength out into

abbrev pub CreationAlike : Type 0
CreationAlike =
    (snd other : List Float) (s : Settings)
    → SameLength snd other → muted_created (created snd s) ≡ muted_created (created other s)

abbrev pub CommandsAlike : Type 0
CommandsAlike =
    (snd other : List Float) (v w : StaticSound) (c : Commands)
    → OtherSound snd other v w → muted_commanded (commanded snd v c) ≡ muted_commanded (commanded other w c)

abbrev pub TakesAlike : Type 0
TakesAlike =
    (snd other : List Float) (v w : StaticSound) (t : LoopTable) (k : ℕ)
    → OtherSound snd other v w → muted_commanded (taken snd t k v) ≡ muted_commanded (taken other t k w)

-- the results of two blocks, without samples
abbrev pub AnswersAlike : Outcome → Outcome → Type 0
AnswersAlike o p = muted_processed o.answer ≡ muted_processed p.answer

abbrev pub BlocksAlike : Type 0
BlocksAlike =
    (snd other : List Float) (v w : StaticSound) (dt : Float) (b : Lanes) (g : Signals) (out into : List Float)
    → OtherBlock snd other v w out into
    → AnswersAlike (processed snd v dt b g out) (processed other w dt b g into)

abbrev pub MixesAlike : Type 0
MixesAlike =
    (snd other : List Float) (v w : StaticSound) (dt : Float) (b : Lanes) (g : Signals)
    (mix into : List Float) (from : ℕ)
    → OtherBlock snd other v w mix into
    → AnswersAlike (processed_into snd v dt b g mix from) (processed_into other w dt b g into from)

-- blocks with held lanes
abbrev pub HeldAlike : Type 0
HeldAlike =
    (snd other : List Float) (v w : StaticSound) (dt : Float) (x : Held) (g : Signals) (out into : List Float)
    → OtherBlock snd other v w out into
    → AnswersAlike (processed_held snd v dt x g out) (processed_held other w dt x g into)

abbrev pub HeldMixesAlike : Type 0
HeldMixesAlike =
    (snd other : List Float) (v w : StaticSound) (dt : Float) (x : Held) (g : Signals)
    (mix into : List Float) (from n : ℕ)
    → OtherBlock snd other v w mix into
    → AnswersAlike (processed_held_into snd v dt x g mix from n) (processed_held_into other w dt x g into from n)
