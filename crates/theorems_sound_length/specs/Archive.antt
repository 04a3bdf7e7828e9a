-- The same for the archive's entries, on records of numbers. The sequences of calls are those of
-- crates/theorems/specs/ArchiveInTheLoop.antt. A block with held lanes is a block over lanes that repeat them.
use Rattle.std.specs.Prelude.{◌≡◌, List, [], ◌∷◌, map, Float}
use Rattle.numbers.specs.Words.{positive_zero}
use Rattle.c_state.specs.declared.CableowlEntry.{CableowlEntry}
use Rattle.c_state.specs.declared.CableowlState.{CableowlState}
use Rattle.c_inputs.specs.declared.CableowlSettings.{CableowlSettings}
use Rattle.cableowl.specs.declared.CableowlCreated.{CableowlCreated}
use Rattle.cableowl.specs.declared.CableowlCommanded.{CableowlCommanded}
use Rattle.cableowl.specs.declared.CableowlProcessed.{CableowlProcessed}
use Rattle.cableowl.specs.declared.CableowlPart.{CableowlPart}
use Rattle.cableowl.specs.Entries.{created_c, commanded_c, processed_c, processed_into_c, part_c}
use Rattle.cableowl.specs.Loops.{taken_c}
use Rattle.theorems.specs.ArchiveInTheLoop.{CallC, Block, Mix, Command, Take, Stretch, after_c, after_all_c}
use Rattle.theorems_sound_length.specs.Muted.{on_first, silence}
use Rattle.theorems_sound_length.specs.Lengths.{SameLength}

-- ---- records without samples

abbrev pub muted_entry_c : CableowlEntry → CableowlEntry
muted_entry_c e = record { left = positive_zero; right = positive_zero; number = e.number }

-- the record with other entries in its window
abbrev pub with_window : CableowlState → List CableowlEntry → CableowlState
with_window c es =
    record {
      sample_rate = c.sample_rate;
      state = c.state;
      reverse = c.reverse;
      started = c.started;
      playing = c.playing;
      has_slice = c.has_slice;
      has_loop = c.has_loop;
      count = c.count;
      num_frames = c.num_frames;
      slice_start = c.slice_start;
      slice_end = c.slice_end;
      position = c.position;
      loop_start = c.loop_start;
      loop_end = c.loop_end;
      playback_rate = c.playback_rate;
      fraction = c.fraction;
      window = es;
      forward_wraps = c.forward_wraps;
      backward_wraps = c.backward_wraps;
    }

abbrev pub muted_state : CableowlState → CableowlState
muted_state c = with_window c (on_first muted_entry_c c.count c.window)

abbrev pub AlikeButForSamplesC : CableowlState → CableowlState → Type 0
AlikeButForSamplesC c d = muted_state c ≡ muted_state d

abbrev pub muted_created_c : CableowlCreated → CableowlCreated
muted_created_c a = record { state = muted_state a.state; refusal = a.refusal }

abbrev pub muted_commanded_c : CableowlCommanded → CableowlCommanded
muted_commanded_c a = record { state = muted_state a.state; position = a.position; refusal = a.refusal }

abbrev pub muted_processed_c : CableowlProcessed → CableowlProcessed
muted_processed_c a =
    record {
      state = muted_state a.state;
      steps = a.steps;
      refusal = a.refusal;
      lowest_count = a.lowest_count;
    }

-- ---- creation

abbrev pub CreationAlikeC : Type 0
CreationAlikeC =
    (snd other : List Float) (s : CableowlSettings)
    → SameLength snd other → muted_created_c (created_c snd s) ≡ muted_created_c (created_c other s)

-- ---- sequences of calls

pub data AnswerC : Type 0 where
  OfBlock : CableowlProcessed → AnswerC
  OfCommands : CableowlCommanded → AnswerC
  OfStretch : CableowlPart → AnswerC

abbrev pub answer_c : CallC → CableowlState → AnswerC
answer_c (Block snd dt b g out) c = OfBlock (muted_processed_c (processed_c snd c dt b g out).answer)
answer_c (Mix snd dt b g mix from) c = OfBlock (muted_processed_c (processed_into_c snd c dt b g mix from).answer)
answer_c (Command snd k) c = OfCommands (muted_commanded_c (commanded_c snd c k))
answer_c (Take snd t k) c = OfCommands (muted_commanded_c (taken_c snd t k c))
answer_c (Stretch snd) c = OfStretch (part_c snd c)

unfoldable pub answers_c : List CallC → CableowlState → List AnswerC
answers_c [] c = []
answers_c (d ∷ ds) c = answer_c d c ∷ answers_c ds (after_c d c)

-- the call over silence
abbrev pub muted_call_c : CallC → CallC
muted_call_c (Block snd dt b g out) = Block (silence snd) dt b g (silence out)
muted_call_c (Mix snd dt b g mix from) = Mix (silence snd) dt b g (silence mix) from
muted_call_c (Command snd k) = Command (silence snd) k
muted_call_c (Take snd t k) = Take (silence snd) t k
muted_call_c (Stretch snd) = Stretch (silence snd)

-- hypothesis
pub record OtherRowC (ds es : List CallC) (c e : CableowlState) : Type 0 where
  pub calls : map muted_call_c ds ≡ map muted_call_c es
  pub states : AlikeButForSamplesC c e

pub record RowAlikeC (ds es : List CallC) (c e : CableowlState) : Type 0 where
  pub same_answers : answers_c ds c ≡ answers_c es e
  pub states : AlikeButForSamplesC (after_all_c ds c) (after_all_c es e)

abbrev pub RowsAlikeC : Type 0
RowsAlikeC = (ds es : List CallC) (c e : CableowlState) → OtherRowC ds es c e → RowAlikeC ds es c e
