-- Sequences of calls, each call with its own sound, as in crates/theorems/specs/InTheLoop.antt. If two sequences differ
-- only in samples, of the sounds and of the outputs before the calls, all results are the same without samples, and the
-- voices differ only in samples.
use Rattle.std.specs.Prelude.{ℕ, ◌≡◌, List, [], ◌∷◌, map, length}
use Rattle.sound_state.specs.declared.StaticSound.{StaticSound}
use Rattle.sound_commands.specs.Commands.{CommandsAnswer, commanded}
use Rattle.sound_slow_path.specs.Plays.{BlockAnswer}
use Rattle.static_sound.specs.Entries.{processed, processed_into, stretch_of, stretch_at}
use Rattle.take_loop.specs.Taking.{taken}
use Rattle.theorems.specs.InTheLoop.{Call, Block, Mix, Command, Take, Stretch, after, after_all}
use Rattle.theorems_sound_length.specs.Muted.{AlikeButForSamples, muted_commanded, muted_processed, silence}

-- the result of a call, without samples; for a stretch, where it begins in the sound and its length
pub data Answer : Type 0 where
  OfBlock : BlockAnswer → Answer
  OfCommands : CommandsAnswer → Answer
  OfStretch : ℕ → ℕ → Answer

abbrev pub answer : Call → StaticSound → Answer
answer (Block snd dt b g out) v = OfBlock (muted_processed (processed snd v dt b g out).answer)
answer (Mix snd dt b g mix from) v = OfBlock (muted_processed (processed_into snd v dt b g mix from).answer)
answer (Command snd c) v = OfCommands (muted_commanded (commanded snd v c))
answer (Take snd t k) v = OfCommands (muted_commanded (taken snd t k v))
answer (Stretch snd) v = OfStretch (stretch_at (length snd) v) (length (stretch_of snd v))

-- the results of a sequence of calls, each with the voice that the one before returned
unfoldable pub answers : List Call → StaticSound → List Answer
answers [] v = []
answers (c ∷ cs) v = answer c v ∷ answers cs (after c v)

-- the call over silence
abbrev pub muted_call : Call → Call
muted_call (Block snd dt b g out) = Block (silence snd) dt b g (silence out)
muted_call (Mix snd dt b g mix from) = Mix (silence snd) dt b g (silence mix) from
muted_call (Command snd c) = Command (silence snd) c
muted_call (Take snd t k) = Take (silence snd) t k
muted_call (Stretch snd) = Stretch (silence snd)

-- hypothesis
pub record OtherRow (cs ds : List Call) (v w : StaticSound) : Type 0 where
  pub calls : map muted_call cs ≡ map muted_call ds
  pub voices : AlikeButForSamples v w

pub record RowAlike (cs ds : List Call) (v w : StaticSound) : Type 0 where
  pub same_answers : answers cs v ≡ answers ds w
  pub voices : AlikeButForSamples (after_all cs v) (after_all ds w)

abbrev pub RowsAlike : Type 0
RowsAlike = (cs ds : List Call) (v w : StaticSound) → OtherRow cs ds v w → RowAlike cs ds v w
